use Rattle.tree_laws.proofs.Lock.Run.{run_stays}
use Rattle.tree_laws.proofs.locks.locked_trees_stay_along_runs.Goals as goal

pub returns : goal.returns
returns c = λ t pass now inode run well done spares. run_stays t pass now inode run well done spares
