use Rattle.std.proofs.Common.{length, List, ℕ, ap, arith}
use Rattle.op_frames.proofs.Answers.{reply_fits}
use Rattle.op_frames.proofs.encode.encode_reply.Goals as goal

pub frame_around-requires : goal.frame_around-requires
frame_around-requires c =
    let e = ap (λ (x : List ℕ). length x) c.new-body.ensures in
    reply_fits c.put_reply.new.out c.new-body.result c.args.reply.now c.requires (omega (arith, e)) c.in_ok-put_reply.ensures
