use Rattle.block_steps.proofs.DebtsTables.{OwesPlaces-times}
use Rattle.block_steps.proofs.owed.order_of_debts_is_free.Goals as goal

pub returns : goal.returns
returns c t p blocks others same owes = OwesPlaces-times t p blocks owes others same
