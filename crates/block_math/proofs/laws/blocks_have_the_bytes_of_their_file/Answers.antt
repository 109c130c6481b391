use Rattle.block_math.proofs.FileLemmas.{length-block_of, get_or-block_of}
use Rattle.block_math.proofs.laws.blocks_have_the_bytes_of_their_file.Goals as goal

pub returns-clause-size : goal.returns-clause-size
returns-clause-size c = length-block_of

pub returns-clause-bytes : goal.returns-clause-bytes
returns-clause-bytes c = get_or-block_of
