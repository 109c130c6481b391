-- The laws of frames: the frame that is read stands in front, the frame that stands in front is read, and bytes behind a
-- frame change nothing.
use Rattle.std.proofs.Common.{◌≡◌, ℕ, ◌+◌, ◌-◌, ◌≤◌, true, eqb, List, ◌++◌, length, take, drop, Result, Ok, Err, IfOk, refl, sym, ap, ap₂, subst, ◌∙◌, append_assoc, arith}
use Rattle.std.specs.Int.{w32, to_be_bytes}
use Rattle.std.proofs.lemmas.Bool.{eqb-true, and_from, lt-ltb, le-leb}
use Rattle.std.proofs.lemmas.List.{take_at, drop_at, length-append}
use Rattle.frame_fields.specs.declared.fault.FrameFault.{FrameFault}
use Rattle.frame_fields.specs.declared.fault.FrameFault.TheVariants as faults
use Rattle.frame_fields.specs.Format.{Rest, ◌>>=◌, Format, between, Gives}
use Rattle.frame_fields.specs.Frames.{length_field, frame_of, body_at, end_at, read_frame, StandsInFront}
use Rattle.frame_fields.proofs.Within.{cond_has, stand}
use Rattle.frame_fields.proofs.Formats.{IsBytes, On, On-then, Goes, Goes-then, behind, with_behind, Took, IsFormat, number32_is}

length_is : IsFormat length_field 4
unfolding length_field
length_is = number32_is (between 1 262144)

length_spelled : (n : ℕ) → length_field.spell n ≡ to_be_bytes w32 n
unfolding length_field
length_spelled n = refl

length_allowed : (n : ℕ) → 1 ≤ n → n ≤ 262144 → length_field.allows n ≡ true
unfolding length_field
length_allowed n low high = and_from _ _ (lt-ltb n 4294967296 (omega arith)) (and_from _ _ (le-leb 1 n low) (le-leb n 262144 high))

-- ---- the parts of a frame

On-any : {A : Type 0} (x : Result A FrameFault) → On (λ v. Unit {0}) x
On-any (Ok v) = tt
On-any (Err e) = tt

same_goes : {A : Type 0} (x : Result A FrameFault) → Goes (λ v. v) x x
same_goes (Ok v) = refl
same_goes (Err faults.Short) = tt
same_goes (Err (faults.Bad place)) = refl
same_goes (Err faults.Memory) = refl

-- the body is behind the length
record Opened (bytes : List ℕ) (body : Rest) : Type 0 where
  place : body.place ≡ 4
  parts : bytes ≡ to_be_bytes w32 body.room ++ body.bytes
  fits : IsBytes body.bytes

body_took : (bytes : List ℕ) → IsBytes bytes → On (Opened bytes) (body_at bytes)
body_took bytes fits =
    On-then (λ n. (length_field.allows n.0 ≡ true) × Took (length_field.spell n.0) (stand 0 4 bytes) n.1) (Opened bytes) (length_field.read (stand 0 4 bytes)) (λ n. Ok (stand 4 n.0 n.1.bytes)) (length_is.takes (stand 0 4 bytes) fits)
    (λ n h. record { place = refl; parts = h.1.parts ∙ ap (λ (t : List ℕ). t ++ n.1.bytes) (length_spelled n.0); fits = h.1.fits })

body_onward : (bytes : List ℕ) → On (λ body. 4 ≤ body.place) (body_at bytes)
body_onward bytes = On-then (λ n. Unit {0}) (λ body. 4 ≤ body.place) (length_field.read (stand 0 4 bytes)) (λ n. Ok (stand 4 n.0 n.1.bytes)) (On-any (length_field.read (stand 0 4 bytes))) (λ n h. omega arith)

body_again : (n : ℕ) (rest : List ℕ) → 1 ≤ n → n ≤ 262144 → body_at (to_be_bytes w32 n ++ rest) ≡ Ok (stand 4 n rest)
body_again n rest low high =
    let four : length (length_field.spell n) ≤ 4 = length_is.bounded n (length_allowed n low high) in
    let one = length_is.again n 0 4 rest (length_allowed n low high) four in
    ap (λ (t : List ℕ). body_at (t ++ rest)) (sym (length_spelled n)) ∙ ap (λ (x : Result (ℕ × Rest) FrameFault). x >>= λ n. Ok (stand 4 n.0 n.1.bytes)) one

body_more : (rest bytes : List ℕ) → Goes (behind rest) (body_at bytes) (body_at (bytes ++ rest))
body_more rest bytes = Goes-then (with_behind rest) (behind rest) (length_field.read (stand 0 4 bytes)) (length_field.read (stand 0 4 (bytes ++ rest))) (λ n. Ok (stand 4 n.0 n.1.bytes)) (λ n. Ok (stand 4 n.0 n.1.bytes)) (length_is.more rest (stand 0 4 bytes)) (λ n. refl)

end_took : (r : Rest) → On (λ n. (r.room ≡ 0) × (n ≡ r.place)) (end_at r)
end_took r = cond_has (On (λ n. (r.room ≡ 0) × (n ≡ r.place))) (eqb r.room 0) (Ok r.place) (Err (faults.Bad r.place)) (λ h. (eqb-true r.room 0 h, refl)) (λ h. tt)

end_more : (rest : List ℕ) (r : Rest) → Goes (λ n. n) (end_at r) (end_at (behind rest r))
end_more rest r = same_goes (end_at r)

-- ---- frames

-- the frame in front, with its length
pub record Framed {A : Type 0} (f : Format A) (bytes : List ℕ) (x : A × ℕ) : Type 0 where
  pub allowed : f.allows x.0 ≡ true
  pub len : x.1 ≡ length (frame_of f x.0)
  pub rest : List ℕ
  pub parts : bytes ≡ frame_of f x.0 ++ rest

frame_parts : {A : Type 0} (f : Format A) (bytes : List ℕ) (body : Rest) (x : A × Rest) (n : ℕ) → Opened bytes body → f.allows x.0 ≡ true → Took (f.spell x.0) body x.1 → x.1.room ≡ 0 → n ≡ x.1.place → Framed f bytes (x.0, n)
frame_parts f bytes body x n o allowed took none here =
    let s = f.spell x.0 in
    let room : body.room ≡ length s = omega (arith, took.room, none) in
    record {
      allowed = allowed;
      len = omega (arith, here, took.place, o.place, length-append (to_be_bytes w32 (length s)) s);
      rest = x.1.bytes;
      parts = o.parts ∙ ap₂ (λ (k : ℕ) (t : List ℕ). to_be_bytes w32 k ++ t) room took.parts ∙ sym (append_assoc (to_be_bytes w32 (length s)) s x.1.bytes);
    }

pub frame_took : {A : Type 0} (f : Format A) (most : ℕ) → IsFormat f most → (bytes : List ℕ) → IsBytes bytes → On (Framed f bytes) (read_frame f bytes)
unfolding read_frame
frame_took f most is bytes fits =
    On-then (Opened bytes) (Framed f bytes) (body_at bytes) (λ body. f.read body >>= λ x. end_at x.1 >>= λ n. Ok (x.0, n)) (body_took bytes fits)
    (λ body o. On-then (λ x. (f.allows x.0 ≡ true) × Took (f.spell x.0) body x.1) (Framed f bytes) (f.read body) (λ x. end_at x.1 >>= λ n. Ok (x.0, n)) (is.takes body o.fits)
    (λ x h. On-then (λ n. (x.1.room ≡ 0) × (n ≡ x.1.place)) (Framed f bytes) (end_at x.1) (λ n. Ok (x.0, n)) (end_took x.1)
    (λ n e. frame_parts f bytes body x n o h.0 h.1 e.0 e.1)))

-- every frame takes at least its length's bytes
pub frame_onward : {A : Type 0} (f : Format A) (most : ℕ) → IsFormat f most → (bytes : List ℕ) → On (λ x. 4 ≤ x.1) (read_frame f bytes)
unfolding read_frame
frame_onward f most is bytes =
    On-then (λ body. 4 ≤ body.place) (λ x. 4 ≤ x.1) (body_at bytes) (λ body. f.read body >>= λ x. end_at x.1 >>= λ n. Ok (x.0, n)) (body_onward bytes)
    (λ body o. On-then (λ x. body.place ≤ x.1.place) (λ x. 4 ≤ x.1) (f.read body) (λ x. end_at x.1 >>= λ n. Ok (x.0, n)) (is.onward body)
    (λ x h. On-then (λ n. (x.1.room ≡ 0) × (n ≡ x.1.place)) (λ x. 4 ≤ x.1) (end_at x.1) (λ n. Ok (x.0, n)) (end_took x.1) (λ n e. omega (arith, o, h, e.1))))

pub frame_more : {A : Type 0} (f : Format A) (most : ℕ) → IsFormat f most → (rest bytes : List ℕ) → Goes (λ x. x) (read_frame f bytes) (read_frame f (bytes ++ rest))
unfolding read_frame
frame_more f most is rest bytes =
    Goes-then (behind rest) (λ x. x) (body_at bytes) (body_at (bytes ++ rest)) (λ body. f.read body >>= λ x. end_at x.1 >>= λ n. Ok (x.0, n)) (λ body. f.read body >>= λ x. end_at x.1 >>= λ n. Ok (x.0, n)) (body_more rest bytes)
    (λ body. Goes-then (with_behind rest) (λ x. x) (f.read body) (f.read (behind rest body)) (λ x. end_at x.1 >>= λ n. Ok (x.0, n)) (λ x. end_at x.1 >>= λ n. Ok (x.0, n)) (is.more rest body)
    (λ x. Goes-then (λ n. n) (λ x. x) (end_at x.1) (end_at (behind rest x.1)) (λ n. Ok (x.0, n)) (λ n. Ok (x.0, n)) (end_more rest x.1) (λ n. refl)))

pub frame_again : {A : Type 0} (f : Format A) (most : ℕ) → IsFormat f most → most ≤ 262144 → (x : A) (rest : List ℕ) → f.allows x ≡ true → 1 ≤ length (f.spell x) → read_frame f (frame_of f x ++ rest) ≡ Ok (x, length (frame_of f x))
unfolding read_frame
frame_again f most is short x rest h some =
    let s = f.spell x in
    let few : length s ≤ most = is.bounded x h in
    let body : body_at (to_be_bytes w32 (length s) ++ (s ++ rest)) ≡ Ok (stand 4 (length s) (s ++ rest)) = body_again (length s) (s ++ rest) some (omega (arith, few, short)) in
    let inner : f.read (stand 4 (length s) (s ++ rest)) ≡ Ok (x, stand (4 + length s) (length s - length s) rest) = is.again x 4 (length s) rest h (omega arith) in
    let none : length s - length s ≡ 0 = omega arith in
    let len : 4 + length s ≡ length (frame_of f x) = omega (arith, length-append (to_be_bytes w32 (length s)) s) in
    ap (read_frame f) (append_assoc (to_be_bytes w32 (length s)) s rest)
    ∙ ap (λ (y : Result Rest FrameFault). y >>= λ body. f.read body >>= λ x. end_at x.1 >>= λ n. Ok (x.0, n)) body
    ∙ ap (λ (y : Result (_ × Rest) FrameFault). y >>= λ x. end_at x.1 >>= λ n. Ok (x.0, n)) inner
    ∙ ap (λ (k : ℕ). end_at (stand (4 + length s) k rest) >>= λ n. Ok (x, n)) none
    ∙ ap (λ (k : ℕ). Ok (x, k)) len

-- ---- what a decoder promises

stands : {A : Type 0} (f : Format A) (bytes : List ℕ) (x : A × ℕ) → Framed f bytes x → StandsInFront f bytes x.0 x.1
stands f bytes x h = record {
  allowed = h.allowed;
  there = let e = ap (λ (b : List ℕ). length b) h.parts in omega (arith, e, h.len, length-append (frame_of f x.0) h.rest);
  spelled = rw h.len (ap (take (length (frame_of f x.0))) h.parts ∙ take_at (frame_of f x.0) h.rest (length (frame_of f x.0)) refl);
}

pub is_found : {A : Type 0} (f : Format A) (most : ℕ) → IsFormat f most → (bytes : List ℕ) (r : Result (A × ℕ) FrameFault) → IsBytes bytes → Gives (λ x. x) r (read_frame f bytes) → IfOk r (λ x. StandsInFront f bytes x.0 x.1)
is_found f most is bytes (Ok x) fits given = stands f bytes x (subst (On (Framed f bytes)) given (frame_took f most is bytes fits))
is_found f most is bytes (Err e) fits given = tt

pub is_only : {A : Type 0} (f : Format A) (most : ℕ) → IsFormat f most → most ≤ 262144 → (bytes : List ℕ) (r : Result (A × ℕ) FrameFault) → Gives (λ x. x) r (read_frame f bytes) → (x : A) (rest : List ℕ) → f.allows x ≡ true → 1 ≤ length (f.spell x)
    → bytes ≡ frame_of f x ++ rest → Gives (λ y. y) r (Ok (x, length (frame_of f x)))
is_only f most is short bytes r given x rest h some e = subst (Gives (λ y. y) r) (ap (read_frame f) e ∙ frame_again f most is short x rest h some) given

abbrev done : {A : Type 0} → A → Result A FrameFault
done x = Ok x

ok_is : {A : Type 0} (x y : A) → done x ≡ done y → x ≡ y
ok_is x y e = cc

-- no frame begins another
pub frames_differ : {A : Type 0} (f : Format A) (most : ℕ) → IsFormat f most → most ≤ 262144 → ((x : A) → 1 ≤ length (f.spell x)) → (a b : A) (x y : List ℕ) → f.allows a ≡ true → f.allows b ≡ true
    → frame_of f a ++ x ≡ frame_of f b ++ y → (a ≡ b) × (x ≡ y)
frames_differ {A} f most is short some a b x y p q e =
    let one : done (a, length (frame_of f a)) ≡ done (b, length (frame_of f b)) = sym (frame_again f most is short a x p (some a)) ∙ ap (read_frame f) e ∙ frame_again f most is short b y q (some b) in
    let same : a ≡ b = ap (λ (v : A × ℕ). v.0) (ok_is (a, length (frame_of f a)) (b, length (frame_of f b)) one) in
    let len : length (frame_of f a) ≡ length (frame_of f b) = ap (λ (v : A). length (frame_of f v)) same in
    (same, sym (drop_at (frame_of f a) x (length (frame_of f a)) refl) ∙ ap₂ (λ (n : ℕ) (t : List ℕ). drop n t) len e ∙ drop_at (frame_of f b) y (length (frame_of f b)) refl)
