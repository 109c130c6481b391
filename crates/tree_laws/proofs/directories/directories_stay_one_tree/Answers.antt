use Rattle.tree_laws.proofs.WellFormed.{reached_well_formed}
use Rattle.tree_laws.proofs.directories.directories_stay_one_tree.Goals as goal

pub returns : goal.returns
returns c = λ block_size time calls. (reached_well_formed block_size time calls).tree
