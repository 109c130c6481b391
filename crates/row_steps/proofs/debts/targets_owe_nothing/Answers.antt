use Rattle.row_steps.proofs.Owed.Attrs.{Owes-put_target, Owes-without_target}
use Rattle.row_steps.proofs.debts.targets_owe_nothing.Goals as goal

pub returns : goal.returns
returns c = record { put = Owes-put_target; delete = Owes-without_target }
