use Rattle.block_steps.proofs.DebtsBlocks.{OwesPlaces-counted}
use Rattle.block_steps.proofs.owed.counted_blocks_owe_a_place.Goals as goal

pub returns : goal.returns
returns c t p b blocks more owes there is = OwesPlaces-counted t p blocks owes b there more is
