use Rattle.tree_laws.proofs.Lock.Node.{kept_after}
use Rattle.tree_laws.proofs.locks.locked_nodes_stay.Goals as goal

pub returns : goal.returns
returns c = λ t calls inode node ordered is locked. kept_after t calls inode node ordered is locked
