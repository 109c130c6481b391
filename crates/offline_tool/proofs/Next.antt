-- From the bytes of a frame to what comes next in a replay.
use Rattle.std.proofs.Common.{◌≡◌, ℕ, ◌+◌, ◌-◌, ◌^◌, ◌<◌, ◌≤◌, ◌&&◌, List, [], ◌++◌, length, take, drop, Option, Some, Err, IsTrue, refl, sym, ap, subst, ◌∙◌, arith, ⊎_elim}
use Rattle.std.specs.Int.{w32, from_be_bytes, to_be_bytes}
use Rattle.std.proofs.lemmas.Bool.{and_parts}
use Rattle.std.proofs.lemmas.Nat.{from_be_bytes-to_be_bytes_4}
use Rattle.std.proofs.lemmas.List.{length-append, length-take, length-drop, take-append-drop, take-take, take_at, take_all, drop-take, nil_from_length}
use Rattle.s3_base.specs.Stream.{Stream, advanced}
use Rattle.frame_fields.specs.declared.fault.FrameFault.{FrameFault}
use Rattle.frame_fields.specs.declared.fault.FrameFault.TheVariants as faults
use Rattle.op_frames.specs.declared.operation.Op.{Op}
use Rattle.op_frames.specs.declared.operation.Step.{Step}
use Rattle.op_frames.specs.declared.operation.Step.TheVariants.{Call, End}
use Rattle.frame_fields.specs.Fields.{pass_field, time_field}
use Rattle.op_frames.specs.Operations.{op_field, step_field, is_op}
use Rattle.frame_fields.specs.Frames.{framed, said_length, EndsInside, StandsInFront}
use Rattle.op_frames.specs.Replay.{Request, Refused, ended, with_call, replay_at, input_limit, Replays, ReplaysStep}
use Rattle.offline_tool.specs.declared.reader.Next.{Next}
use Rattle.offline_tool.specs.Input.{input_left, replay_left}
use Rattle.offline_tool.specs.Reading.{TakesFrame, next_after, IsNext, IsOnward}
use Rattle.std.proofs.lemmas.Bool.Decides.{nat_tests}

-- ---- the frame and the input

-- the bytes that were taken, and the rest of the input behind them
whole : (n : ℕ) (bytes input : List ℕ) → bytes ≡ take n input → bytes ++ drop n input ≡ input
whole n bytes input same = ap (λ (b : List ℕ). b ++ drop n input) same ∙ take-append-drop n input

taken_length : (n : ℕ) (bytes input : List ℕ) → n ≤ length input → bytes ≡ take n input → length bytes ≡ n
taken_length n bytes input within same = omega (arith, ap length same, length-take n input)

-- the input that is left behind the frame
left_behind : (place n : ℕ) (s : Stream) → place + n ≤ input_limit → drop n (input_left place s) ≡ input_left (place + n) (advanced n s)
left_behind place n s le =
    let split : input_limit - place ≡ n + (input_limit - (place + n)) = omega arith in
    ap (λ (m : ℕ). drop n (take m s.left)) split ∙ drop-take n (input_limit - (place + n)) s.left

-- ---- the length of a frame that stands in front

said : (body bytes : List ℕ) (k : ℕ) → take k bytes ≡ framed body → k ≤ length bytes → length bytes < 2 ^ 32 → (k ≡ 4 + said_length bytes) × (4 ≤ k)
said body bytes k same there small =
    let cut : length (take k bytes) ≡ k = omega (arith, length-take k bytes) in
    let size : k ≡ 4 + length body = sym cut ∙ ap length same ∙ length-append (to_be_bytes w32 (length body)) body in
    let head : take 4 bytes ≡ to_be_bytes w32 (length body) = sym (take-take 4 k bytes (omega (arith, size))) ∙ ap (take 4) same ∙ take_at (to_be_bytes w32 (length body)) body 4 refl in
    let back : said_length bytes ≡ length body = ap (from_be_bytes w32) head ∙ from_be_bytes-to_be_bytes_4 (length body) (omega (arith, size)) in
    (omega (arith, size, back), omega (arith, size))

-- ---- what comes next

op_allowed : (pass now : ℕ) (op : Op) → IsTrue (step_field.allows (Call pass now op)) → IsTrue (is_op op)
unfolding step_field op_field
op_allowed pass now op h = (and_parts (time_field.allows now) (is_op op) (and_parts (pass_field.allows pass) (time_field.allows now && is_op op) h).1).1

time_allowed : (pass now : ℕ) (op : Op) → IsTrue (step_field.allows (Call pass now op)) → now < 2 ^ 62
unfolding step_field op_field time_field
time_allowed pass now op h =
    let within : IsTrue (time_field.allows now) = (and_parts (time_field.allows now) (is_op op) (and_parts (pass_field.allows pass) (time_field.allows now && is_op op) h).1).0 in
    grind (arith, nat_tests)

pub goes_onward : (place n k : ℕ) (bytes : List ℕ) (step : Step) → length bytes ≡ n → n ≤ 4 + 262144 → n ≤ input_limit - place → place ≤ input_limit → StandsInFront step_field bytes step k → IsOnward place (next_after step (place + k))
goes_onward place n k bytes (Call pass now op) len small room low found =
    let is = said (step_field.spell (Call pass now op)) bytes k found.spelled found.there (omega (arith, len, small)) in
    (op_allowed pass now op found.allowed, time_allowed pass now op found.allowed, omega (arith, is.1), omega (arith, found.there, len, room, low, is.1))
goes_onward place n k bytes End len small room low found = tt

step_next : (place n : ℕ) (bytes : List ℕ) (s : Stream) (step : Step) → bytes ≡ take n (input_left place s) → n ≤ length (input_left place s) → place + n ≤ input_limit → ReplaysStep step n place bytes (drop n (input_left place s)) → IsNext (next_after step (place + n)) place s (advanced n s)
step_next place n bytes s (Call pass now op) same within le replays =
    let input = input_left place s in
    let all : drop n bytes ≡ [] = nil_from_length (drop n bytes) (omega (arith, length-drop n bytes, taken_length n bytes input within same)) in
    let call : Request = record { pass = pass; now = now; op = op } in
    let rest : drop n bytes ++ drop n input ≡ input_left (place + n) (advanced n s) = ap (λ (b : List ℕ). b ++ drop n input) all ∙ left_behind place n s le in
    ap (replay_at place) (sym (whole n bytes input same)) ∙ replays ∙ ap (λ (b : List ℕ). with_call call (replay_at (place + n) b)) rest
step_next place n bytes s End same within le replays = ap (replay_at place) (sym (whole n bytes (input_left place s) same)) ∙ replays

-- a frame that was read
pub next_is : (place n k : ℕ) (buffer : List ℕ) (s : Stream) (after : Option Stream) (step : Step) → n ≤ 4 + 262144 → place ≤ input_limit → TakesFrame n buffer (input_left place s) s after → StandsInFront step_field (take n buffer) step k
    → ReplaysStep step k place (take n buffer) (drop n (input_left place s)) → (t : Stream) × (after ≡ Some t) × IsNext (next_after step (place + k)) place s t
next_is place n k buffer s after step small low taken found replays =
    let input = input_left place s in
    let bytes = take n buffer in
    let len : length bytes ≡ n = taken_length n bytes input taken.within taken.bytes in
    let is = said (step_field.spell step) bytes k found.spelled found.there (omega (arith, len, small)) in
    let same : k ≡ n = omega (arith, is.0, is.1, found.there, len, taken.at_most) in
    let le : place + n ≤ input_limit = omega (arith, taken.within, length-take (input_limit - place) s.left, low) in
    let at_n : ReplaysStep step n place bytes (drop n input) = subst (λ (m : ℕ). ReplaysStep step m place bytes (drop n input)) same replays in
    (advanced n s, taken.moved, subst (λ (m : ℕ). IsNext (next_after step (place + m)) place s (advanced n s)) (sym same) (step_next place n bytes s step taken.bytes taken.within le at_n))

-- a field outside its rule
pub refused_is : (place n at : ℕ) (buffer : List ℕ) (s : Stream) (after : Option Stream) → TakesFrame n buffer (input_left place s) s after → replay_at place (take n buffer ++ drop n (input_left place s)) ≡ ended (Refused (place + at))
    → (t : Stream) × (after ≡ Some t) × (replay_left place s ≡ ended (Refused (place + at)))
refused_is place n at buffer s after taken replays = (advanced n s, taken.moved, ap (replay_at place) (sym (whole n (take n buffer) (input_left place s) taken.bytes)) ∙ replays)

-- an input that ends inside a frame
pub short_is : (place n : ℕ) (buffer : List ℕ) (s : Stream) (after : Option Stream) → TakesFrame n buffer (input_left place s) s after → EndsInside (take n buffer)
    → (drop n (input_left place s) ≡ [] → replay_at place (take n buffer) ≡ ended (Refused (place + length (take n buffer)))) → (t : Stream) × (after ≡ Some t) × (replay_left place s ≡ ended (Refused (place + n)))
short_is place n buffer s after taken inside replays =
    let input = input_left place s in
    let bytes = take n buffer in
    let len : length bytes ≡ n = taken_length n bytes input taken.within taken.bytes in
    let all : n ≡ length input = ⊎_elim (λ e. e) (λ w. let i = inside (omega (arith, len, w.0)) in let enough = w.1 i.0 in absurd (omega (arith, len, i.1, enough))) taken.enough in
    let none : drop n input ≡ [] = nil_from_length (drop n input) (omega (arith, length-drop n input, all)) in
    let same : bytes ≡ input = taken.bytes ∙ take_all n input (omega (arith, all)) in
    (advanced n s, taken.moved, ap (replay_at place) (sym same) ∙ replays none ∙ ap (λ (m : ℕ). ended (Refused (place + m))) len)

-- what comes next, as the step says it
pub next_from : (x y : Next) (place : ℕ) (s : Stream) (after : Option Stream) → x ≡ y → (t : Stream) × (after ≡ Some t) × IsNext y place s t → (t : Stream) × (after ≡ Some t) × IsNext x place s t
next_from x y place s after same is = (is.0, is.1, subst (λ (z : Next). IsNext z place s is.0) (sym same) is.2)

-- what a fault that is known says of the replay
pub bad_replays : (e : FrameFault) (at place : ℕ) (bytes rest : List ℕ) → e ≡ faults.Bad at → Replays (Err e) place bytes rest → replay_at place (bytes ++ rest) ≡ ended (Refused (place + at))
bad_replays e at place bytes rest same h = subst (λ (f : FrameFault). Replays (Err f) place bytes rest) same h

pub short_replays : (e : FrameFault) (place : ℕ) (bytes rest : List ℕ) → e ≡ faults.Short → Replays (Err e) place bytes rest → rest ≡ [] → replay_at place bytes ≡ ended (Refused (place + length bytes))
short_replays e place bytes rest same h = subst (λ (f : FrameFault). Replays (Err f) place bytes rest) same h
