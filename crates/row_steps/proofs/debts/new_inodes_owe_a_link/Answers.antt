use Rattle.row_steps.proofs.Owed.Inodes.{Owes-put_inode_new}
use Rattle.row_steps.proofs.debts.new_inodes_owe_a_link.Goals as goal

pub returns : goal.returns
returns c = Owes-put_inode_new
