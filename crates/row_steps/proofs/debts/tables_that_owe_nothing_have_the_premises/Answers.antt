use Rattle.row_steps.proofs.Owed.Ends.{HasPremises-Owes}
use Rattle.row_steps.proofs.debts.tables_that_owe_nothing_have_the_premises.Goals as goal

pub returns : goal.returns
returns c = HasPremises-Owes
