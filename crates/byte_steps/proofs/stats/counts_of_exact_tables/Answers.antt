use Rattle.byte_steps.proofs.CountedBlocks.{length-blocks, length-links}
use Rattle.byte_steps.proofs.CountedPlaces.{places_counted}
use Rattle.byte_steps.proofs.CountedObjects.{length-used_objects}
use Rattle.byte_steps.proofs.stats.counts_of_exact_tables.Goals as goal

pub returns-clause-links : goal.returns-clause-links
returns-clause-links c = length-links

pub returns-clause-blocks : goal.returns-clause-blocks
returns-clause-blocks c = length-blocks

pub returns-clause-objects : goal.returns-clause-objects
returns-clause-objects c = length-used_objects

pub returns-clause-places : goal.returns-clause-places
returns-clause-places c = places_counted
