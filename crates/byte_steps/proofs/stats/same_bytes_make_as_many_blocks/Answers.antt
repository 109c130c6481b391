use Rattle.byte_steps.proofs.SameBlocks.{different_blocks-same_bytes}
use Rattle.byte_steps.proofs.stats.same_bytes_make_as_many_blocks.Goals as goal

pub returns : goal.returns
returns c = λ whole next ordered after size from back. different_blocks-same_bytes whole next ordered after size from back
