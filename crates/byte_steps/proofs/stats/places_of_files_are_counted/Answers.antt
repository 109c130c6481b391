use Rattle.byte_steps.proofs.CountedPlaces.{places_counted_at}
use Rattle.byte_steps.proofs.stats.places_of_files_are_counted.Goals as goal

pub returns : goal.returns
returns c = places_counted_at
