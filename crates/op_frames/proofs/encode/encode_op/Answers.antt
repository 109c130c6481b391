use Rattle.std.proofs.Common.{◌≡◌, List, ℕ, ◌++◌, length, ap, ◌∙◌, arith}
use Rattle.op_frames.specs.Operations.{op_field, op_spelling}
use Rattle.op_frames.proofs.Operations.{op_is}
use Rattle.op_frames.proofs.encode.encode_op.Goals as goal

pub frame_around-requires : goal.frame_around-requires
unfolding op_field
frame_around-requires c =
    let body : c.put_op.new.out ≡ op_spelling c.args.op.now = c.in_ok-put_op.ensures ∙ ap (λ (x : List ℕ). x ++ op_spelling c.args.op.now) c.new-body.ensures in
    let len : length c.put_op.new.out ≡ length (op_spelling c.args.op.now) = ap (λ (x : List ℕ). length x) body in
    let most = op_is.bounded c.args.op.now c.requires in
    omega (arith, len, most)
