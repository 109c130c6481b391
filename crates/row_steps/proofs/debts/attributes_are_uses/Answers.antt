use Rattle.row_steps.proofs.Owed.Attrs.{Owes-put_attr_new, Owes-put_attr_there, Owes-without_attr}
use Rattle.row_steps.proofs.debts.attributes_are_uses.Goals as goal

pub returns : goal.returns
returns c = record { put = Owes-put_attr_new; replaced = Owes-put_attr_there; delete = Owes-without_attr }
