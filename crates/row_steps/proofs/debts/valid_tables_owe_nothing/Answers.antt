use Rattle.row_steps.proofs.Owed.Ends.{Owes-IsValid}
use Rattle.row_steps.proofs.debts.valid_tables_owe_nothing.Goals as goal

pub returns : goal.returns
returns c = Owes-IsValid
