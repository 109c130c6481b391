use Rattle.plain_tree.proofs.Reached.{reached_apart}
use Rattle.plain_tree.proofs.laws.handles_stay_apart.Goals as goal

pub returns : goal.returns
returns c = λ block_size time calls. reached_apart block_size time calls
