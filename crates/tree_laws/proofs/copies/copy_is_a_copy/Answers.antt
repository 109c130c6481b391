use Rattle.tree_laws.proofs.Copy.Law.{copy_done}
use Rattle.tree_laws.proofs.copies.copy_is_a_copy.Goals as goal

pub returns : goal.returns
returns c = λ t pass now source parent name attr ordered names tree replied. copy_done t pass now source parent name attr ordered names tree replied
