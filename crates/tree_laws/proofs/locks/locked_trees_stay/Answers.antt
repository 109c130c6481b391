use Rattle.tree_laws.proofs.Lock.Tree.{trees_stay}
use Rattle.tree_laws.proofs.locks.locked_trees_stay.Goals as goal

pub returns : goal.returns
returns c = λ block_size time calls more pass now inode done spare. trees_stay block_size time calls more pass now inode done spare
