use Rattle.row_steps.proofs.Owed.Inodes.{Owes-put_inode_same, Owes-put_inode_more, Owes-put_inode_less}
use Rattle.row_steps.proofs.debts.other_rows_owe_what_they_count.Goals as goal

pub returns : goal.returns
returns c = record { same = Owes-put_inode_same; more = Owes-put_inode_more; less = Owes-put_inode_less }
