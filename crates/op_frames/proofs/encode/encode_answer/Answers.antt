use Rattle.std.proofs.Common.{◌≡◌, length, List, ℕ, [], ◌∷◌, ◌++◌, ap, ◌∙◌, arith}
use Rattle.op_frames.proofs.Answers.{reply_fits}
use Rattle.op_frames.proofs.encode.encode_answer.Goals as goal

pub frame_around-requires : goal.frame_around-requires
frame_around-requires c =
    let e : c.push.new.self ≡ 1 ∷ [] = c.in_ok-push.ensures.ok ∙ ap (λ (x : List ℕ). x ++ 1 ∷ []) c.new-body.ensures in
    let len : length c.push.new.self ≡ 1 = ap (λ (x : List ℕ). length x) e in
    reply_fits c.put_reply.new.out c.push.new.self c.args.reply.now c.requires (omega (arith, len)) c.in_ok-put_reply.ensures
