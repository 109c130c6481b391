use Rattle.std.proofs.Common.{◌∙◌, ap, ◌-◌, ◌*◌}
use Rattle.block_math.specs.Blocks.{cut_at}
use Rattle.block_math.specs.Changes.{padded}
use Rattle.block_math.proofs.FileLemmas.{block_of-take, block_of-padded}
use Rattle.block_math.proofs.laws.resized_blocks_are_cut.Goals as goal

pub returns : goal.returns
returns c len size n bytes =
    block_of-take len size n (padded len bytes) ∙ ap (cut_at (len - n * size)) (block_of-padded len size n bytes)
