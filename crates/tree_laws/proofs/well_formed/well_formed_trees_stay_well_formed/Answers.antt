use Rattle.tree_laws.proofs.Node.Limits.{HasTimes-tree_after}
use Rattle.tree_laws.proofs.WellFormed.{IsWellFormed-tree_after}
use Rattle.tree_laws.proofs.well_formed.well_formed_trees_stay_well_formed.Goals as goal

pub returns : goal.returns
returns c = record { stays = λ t pass now op well. IsWellFormed-tree_after t pass now op well; times = λ t pass now op early timed. HasTimes-tree_after t pass now op early timed }
