use Rattle.block_steps.proofs.DebtsPlaces.{OwesPlaces-dropped, OwesPlaces-relinked}
use Rattle.block_steps.proofs.owed.places_pay_for_their_blocks.Goals as goal

pub returns : goal.returns
returns c = record { put = OwesPlaces-relinked; dropped = OwesPlaces-dropped }
