use Rattle.row_steps.proofs.Owed.Inodes.{Owes-without_inode}
use Rattle.row_steps.proofs.debts.dropped_inodes_owe_no_link.Goals as goal

pub returns : goal.returns
returns c = Owes-without_inode
