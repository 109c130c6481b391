use Rattle.row_steps.proofs.Dropping.{HasUniqueNames-dropping, Owes-dropping, Represents-dropping}
use Rattle.row_steps.proofs.entries.entries_that_go_owe_a_link.Goals as goal

pub returns : goal.returns
returns c = record { owes = Owes-dropping; represents = Represents-dropping; unique = HasUniqueNames-dropping }
