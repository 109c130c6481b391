use Rattle.block_steps.proofs.DebtsMade.{OwesPlaces-made}
use Rattle.block_steps.proofs.owed.made_blocks_owe_a_place.Goals as goal

pub returns : goal.returns
returns c = OwesPlaces-made
