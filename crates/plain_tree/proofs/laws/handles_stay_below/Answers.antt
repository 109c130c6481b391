use Rattle.plain_tree.proofs.Reached.{reached_below}
use Rattle.plain_tree.proofs.laws.handles_stay_below.Goals as goal

pub returns : goal.returns
returns c = λ block_size time calls. reached_below block_size time calls
