use Rattle.tree_laws.proofs.WellFormed.{IsWellFormed-made_tree, HasTimes-made_tree}
use Rattle.tree_laws.proofs.well_formed.made_trees_are_well_formed.Goals as goal

pub returns : goal.returns
returns c = record { made = λ block_size time. IsWellFormed-made_tree block_size time; times = λ block_size time early. HasTimes-made_tree block_size time early }
