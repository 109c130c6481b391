use Rattle.tree_laws.proofs.WellFormed.{reached_well_formed}
use Rattle.tree_laws.proofs.entries.names_stay_legal.Goals as goal

pub returns : goal.returns
returns c = λ block_size time calls parent inode name is. (reached_well_formed block_size time calls).tree.names parent inode name is
