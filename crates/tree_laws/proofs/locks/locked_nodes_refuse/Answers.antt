use Rattle.tree_laws.proofs.Lock.Refusal.{refused_call}
use Rattle.tree_laws.proofs.locks.locked_nodes_refuse.Goals as goal

pub returns : goal.returns
returns c = λ t pass now inode node op is locked would. refused_call t pass now inode node op is locked would
