use Rattle.inode_ops.proofs.NameUses.{uses_counted}
use Rattle.inode_ops.proofs.laws.names_count_their_uses.Goals as goal

pub returns : goal.returns
returns c = record { uses = uses_counted }
