use Rattle.tree_laws.proofs.Lock.Tree.{entries_stay}
use Rattle.tree_laws.proofs.locks.locked_entries_stay.Goals as goal

pub returns : goal.returns
returns c = λ block_size time calls more parent inode name node is locked names spare. entries_stay block_size time calls more parent inode name node is locked names spare
