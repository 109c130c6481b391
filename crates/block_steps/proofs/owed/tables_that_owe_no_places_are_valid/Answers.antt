use Rattle.block_steps.proofs.DebtsTables.{OwesPlaces-IsValid, IsValid-OwesPlaces}
use Rattle.block_steps.proofs.owed.tables_that_owe_no_places_are_valid.Goals as goal

pub returns : goal.returns
returns c = record { valid = OwesPlaces-IsValid; back = IsValid-OwesPlaces }
