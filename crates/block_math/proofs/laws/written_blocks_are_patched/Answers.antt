use Rattle.block_math.proofs.FileLemmas.{block_of-written_at, block_of-written_elsewhere}
use Rattle.block_math.proofs.laws.written_blocks_are_patched.Goals as goal

pub returns-clause-patched : goal.returns-clause-patched
returns-clause-patched c = block_of-written_at

pub returns-clause-others : goal.returns-clause-others
returns-clause-others c = block_of-written_elsewhere
