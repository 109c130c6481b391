use Rattle.std.proofs.Common.{ℕ, List, ◌++◌, drop, ap, ◌∙◌, arith}
use Rattle.block_math.specs.Changes.{resized}
use Rattle.file_ops.proofs.BothTold.{IfFile-weaker}
use Rattle.file_ops.proofs.Ranges.{resized-shown}
use Rattle.file_ops.proofs.reading.append_piece.Goals as goal

pub returns-clause-bytes : goal.returns-clause-bytes
returns-clause-bytes g c =
    λ size block_size within inside.
    IfFile-weaker (g.K.Keeper.told c.args.keeper.now) (g.L.Link.told c.args.link.now) c.args.inode size block_size _ _
    (λ file long shows.
    c.in_ok-append_shown.ensures
    ∙ ap (λ (form : List ℕ). c.args.bytes.now.items ++ resized c.args.piece.len (drop c.args.piece.at form)) c.as_slice.ensures
    ∙ ap (λ (xs : List ℕ). c.args.bytes.now.items ++ xs) (resized-shown block_size c.args.piece.blockno c.args.piece.at c.args.piece.len _ file shows within (omega (arith, inside, long))))
    (c.in_ok-form.ensures.file size block_size)
