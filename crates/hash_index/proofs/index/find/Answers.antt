use Rattle.hash_index.proofs.FoundLemmas.{IsFound-block_of_digest, IsLeast-block_of_digest}
use Rattle.hash_index.proofs.index.find.Goals as goal

pub returns-clause-found : goal.returns-clause-found
returns-clause-found g c = IsFound-block_of_digest _ _ _ c.block_by_digest.ensures.row

pub returns-clause-least : goal.returns-clause-least
returns-clause-least g c = IsLeast-block_of_digest _ _ _ c.block_by_digest.ensures.row
