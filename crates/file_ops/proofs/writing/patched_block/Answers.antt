use Rattle.std.proofs.Common.{◌≡◌, take, ap, ◌∙◌, arith}
use Rattle.block_math.specs.Blocks.{piece_of, trimmed}
use Rattle.block_math.specs.Changes.{written_at}
use Rattle.file_ops.proofs.BothTold.{IfFile-weaker}
use Rattle.file_ops.proofs.Trimmed.{length-rest, trimmed-written_shown}
use Rattle.file_ops.proofs.writing.patched_block.Goals as goal

pub returns-clause-stored : goal.returns-clause-stored
returns-clause-stored g c =
    λ size block_size short.
    let bytes : c.front.result.now ≡ take c.args.len c.in_ok-form.form = c.front.ensures ∙ ap (take c.args.len) c.as_slice.ensures in
    IfFile-weaker (g.K.Keeper.told c.args.keeper.now) (g.L.Link.told c.args.link.now) c.args.inode size block_size _ _
    (λ file long shows.
    c.in_ok-trimmed_block.ensures.stored ∙ ap trimmed (c.as_slice-2.ensures.value ∙ c.in_ok-bytes.ensures ∙ ap (written_at c.args.at c.args.part.now) bytes)
    ∙ trimmed-written_shown c.args.at c.args.len c.args.part.now (piece_of block_size file c.args.blockno) _ shows (omega (arith, short, length-rest block_size c.args.blockno file size long)))
    (c.in_ok-form.ensures.file size block_size)
