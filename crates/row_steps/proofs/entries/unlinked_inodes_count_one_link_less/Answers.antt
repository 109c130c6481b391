use Rattle.row_steps.proofs.Dropping.{Owes-unlinking, Represents-unlinking}
use Rattle.row_steps.proofs.entries.unlinked_inodes_count_one_link_less.Goals as goal

pub returns : goal.returns
returns c = record { owes = Owes-unlinking; represents = Represents-unlinking }
