-- How a replay goes on with the frame in front: more steps than there are bytes change nothing, since each frame takes
-- some of them.
use Rattle.std.proofs.Common.{◌≡◌, ℕ, zero, suc, ◌+◌, ◌-◌, ◌<◌, ◌≤◌, List, [], ◌∷◌, ◌++◌, length, drop, Result, Ok, Err, refl, sym, ap, subst, ◌∙◌, arith}
use Rattle.std.proofs.lemmas.List.{length-append, length-drop, drop-append-le}
use Rattle.frame_fields.specs.declared.fault.FrameFault.{FrameFault}
use Rattle.frame_fields.specs.declared.fault.FrameFault.TheVariants as faults
use Rattle.op_frames.specs.declared.operation.Step.{Step}
use Rattle.op_frames.specs.declared.operation.Step.TheVariants.{Call, End}
use Rattle.frame_fields.specs.Format.{Gives}
use Rattle.op_frames.specs.Operations.{step_field}
use Rattle.frame_fields.specs.Frames.{length_field, read_frame, frame_of}
use Rattle.op_frames.specs.Replay.{Ended, Refused, Replay, fault_place, ended, with_call, replay_from, replay_at, ReplaysStep, Replays}
use Rattle.frame_fields.proofs.Formats.{IsBytes, On, Goes}
use Rattle.op_frames.proofs.Operations.{step_is}
use Rattle.frame_fields.proofs.Frames.{Framed, frame_took, frame_onward, frame_more}

-- what a replay does at what was read in front
abbrev next : (ℕ → List ℕ → Replay) → ℕ → List ℕ → Result (Step × ℕ) FrameFault → Replay
next others place bytes read =
    elim read [
      | Ok x ↦ elim x.0 [
        | Call pass now op ↦ with_call (record { pass = pass; now = now; op = op }) (others (place + x.1) (drop x.1 bytes))
        | End ↦ ended Ended
      ]
      | Err fault ↦ ended (Refused (place + fault_place bytes fault))
    ]

-- only frames that take some of the bytes matter
next_same : (f g : ℕ → List ℕ → Replay) (place : ℕ) (bytes : List ℕ) (read : Result (Step × ℕ) FrameFault) → On (λ x. 4 ≤ x.1) read → ((p n : ℕ) → 4 ≤ n → f p (drop n bytes) ≡ g p (drop n bytes)) → next f place bytes read ≡ next g place bytes read
next_same f g place bytes (Ok (Call pass now op, n)) long same = ap (with_call (record { pass = pass; now = now; op = op })) (same (place + n) n long)
next_same f g place bytes (Ok (End, n)) long same = refl
next_same f g place bytes (Err fault) long same = refl

-- no bytes are no frame
none_read : read_frame step_field [] ≡ Err faults.Short
unfolding read_frame length_field
none_read = refl

steps_enough : (m n place : ℕ) (bytes : List ℕ) → length bytes < m → length bytes < n → replay_from m place bytes ≡ replay_from n place bytes
unfolding replay_from
steps_enough zero n place bytes p q = absurd (omega arith)
steps_enough (suc m) zero place bytes p q = absurd (omega arith)
steps_enough (suc m) (suc n) place [] p q = ap (next (replay_from m) place []) none_read ∙ sym (ap (next (replay_from n) place []) none_read)
steps_enough (suc m) (suc n) place (b ∷ bytes) p q =
    next_same (replay_from m) (replay_from n) place (b ∷ bytes) (read_frame step_field (b ∷ bytes)) (frame_onward step_field 262001 step_is (b ∷ bytes))
    (λ after k le. let len : length (drop k (b ∷ bytes)) ≡ suc (length bytes) - k = length-drop k (b ∷ bytes) in steps_enough m n after (drop k (b ∷ bytes)) (omega (arith, len)) (omega (arith, len)))

-- the frame that was read, and what follows
goes_on : (step : Step) (n place : ℕ) (bytes rest : List ℕ) → read_frame step_field (bytes ++ rest) ≡ Ok (step, n) → 4 ≤ n → n ≤ length bytes → ReplaysStep step n place bytes rest
unfolding replay_at replay_from
goes_on (Call pass now op) n place bytes rest read some there =
    let dropped : drop n (bytes ++ rest) ≡ drop n bytes ++ rest = drop-append-le n bytes rest there in
    let len : length (bytes ++ rest) ≡ length bytes + length rest = length-append bytes rest in
    let left : length (drop n bytes ++ rest) ≡ length bytes - n + length rest = length-append (drop n bytes) rest ∙ ap (λ (k : ℕ). k + length rest) (length-drop n bytes) in
    ap (next (replay_from (length (bytes ++ rest))) place (bytes ++ rest)) read
    ∙ ap (with_call (record { pass = pass; now = now; op = op }))
    (ap (replay_from (length (bytes ++ rest)) (place + n)) dropped ∙ steps_enough (length (bytes ++ rest)) (suc (length (drop n bytes ++ rest))) (place + n) (drop n bytes ++ rest) (omega (arith, len, left)) (omega arith))
goes_on End n place bytes rest read some there = ap (next (replay_from (length (bytes ++ rest))) place (bytes ++ rest)) read

framed_there : (bytes : List ℕ) (x : Step × ℕ) → Framed step_field bytes x → x.1 ≤ length bytes
framed_there bytes x h = let e = ap (λ (b : List ℕ). length b) h.parts in omega (arith, e, h.len, length-append (frame_of step_field x.0) h.rest)

pub is_replayed : (bytes : List ℕ) (r : Result (Step × ℕ) FrameFault) → IsBytes bytes → Gives (λ x. x) r (read_frame step_field bytes) → (place : ℕ) (rest : List ℕ) → Replays r place bytes rest
unfolding replay_at replay_from
is_replayed bytes (Ok x) fits given place rest =
    let h = subst (On (Framed step_field bytes)) given (frame_took step_field 262001 step_is bytes fits) in
    let some = subst (On (λ x. 4 ≤ x.1)) given (frame_onward step_field 262001 step_is bytes) in
    let there : x.1 ≤ length bytes = framed_there bytes x h in
    let more = subst (λ (y : Result (Step × ℕ) FrameFault). Goes (λ x. x) y (read_frame step_field (bytes ++ rest))) given (frame_more step_field 262001 step_is rest bytes) in
    goes_on x.0 x.1 place bytes rest more some there
is_replayed bytes (Err faults.Short) fits given place rest = λ none. ap (next (replay_from (length bytes)) place bytes) given
is_replayed bytes (Err (faults.Bad fault)) fits given place rest =
    let more = subst (λ (y : Result (Step × ℕ) FrameFault). Goes (λ x. x) y (read_frame step_field (bytes ++ rest))) given (frame_more step_field 262001 step_is rest bytes) in
    ap (next (replay_from (length (bytes ++ rest))) place (bytes ++ rest)) more
is_replayed bytes (Err faults.Memory) fits given place rest = tt
