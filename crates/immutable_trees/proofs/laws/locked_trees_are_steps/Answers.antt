use Rattle.immutable_trees.proofs.LockedRows.{IsStep-locking}
use Rattle.immutable_trees.proofs.laws.locked_trees_are_steps.Goals as goal

pub returns : goal.returns
returns c = IsStep-locking
