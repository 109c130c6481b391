use Rattle.std.proofs.Common.{◌≡◌, take, ap, ◌∙◌, arith}
use Rattle.block_math.specs.Blocks.{piece_of, trimmed}
use Rattle.file_ops.proofs.BothTold.{IfFile-weaker}
use Rattle.file_ops.proofs.Trimmed.{length-rest, trimmed-shown}
use Rattle.file_ops.proofs.writing.cut_block.Goals as goal

pub returns-clause-stored : goal.returns-clause-stored
returns-clause-stored g c =
    λ size block_size short.
    let bytes : c.front.result.now ≡ take c.args.len c.in_ok-form.form = c.front.ensures ∙ ap (take c.args.len) c.as_slice.ensures in
    IfFile-weaker (g.K.Keeper.told c.args.keeper.now) (g.L.Link.told c.args.link.now) c.args.inode size block_size _ _
    (λ file long shows.
    c.in_ok-trimmed_block.ensures.stored ∙ ap trimmed bytes
    ∙ trimmed-shown c.args.len (piece_of block_size file c.args.blockno) _ shows (omega (arith, short, length-rest block_size c.args.blockno file size long)))
    (c.in_ok-form.ensures.file size block_size)
