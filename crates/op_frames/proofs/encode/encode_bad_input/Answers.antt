use Rattle.std.proofs.Common.{◌≡◌, length, List, ℕ, [], ◌∷◌, ◌++◌, ap, ◌∙◌, arith}
use Rattle.op_frames.proofs.Answers.{place_fits}
use Rattle.op_frames.proofs.encode.encode_bad_input.Goals as goal

pub frame_around-requires : goal.frame_around-requires
frame_around-requires c =
    let e : c.push.new.self ≡ 27 ∷ [] = c.in_ok-push.ensures.ok ∙ ap (λ (x : List ℕ). x ++ 27 ∷ []) c.new-body.ensures in
    let len : length c.push.new.self ≡ 1 = ap (λ (x : List ℕ). length x) e in
    place_fits c.put_u64.new.out c.push.new.self c.args.place (omega (arith, len)) c.in_ok-put_u64.ensures
