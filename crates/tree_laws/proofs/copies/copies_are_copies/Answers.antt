use Rattle.tree_laws.proofs.Copy.Sides.{reached_copy}
use Rattle.tree_laws.proofs.copies.copies_are_copies.Goals as goal

pub returns : goal.returns
returns c = λ block_size time calls pass now source parent name attr replied. reached_copy block_size time calls pass now source parent name attr replied
