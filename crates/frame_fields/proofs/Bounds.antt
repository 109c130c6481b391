-- Where a fault of a frame can lie: bytes are missing only where they end before the frame does, and a field outside its rule
-- begins at most at the frame's end.
use Rattle.std.proofs.Common.{◌≡◌, ℕ, ◌+◌, ◌<◌, ◌≤◌, eqb, ltb, leb, List, length, take, Result, Ok, Err, refl, subst, arith}
use Rattle.std.specs.Int.{w32, from_be_bytes}
use Rattle.std.proofs.lemmas.Bool.{ltb-false, ltb-true, leb-true, and_parts}
use Rattle.std.proofs.lemmas.List.{length-drop}
use Rattle.frame_fields.specs.declared.fault.FrameFault.{FrameFault}
use Rattle.frame_fields.specs.declared.fault.FrameFault.TheVariants as faults
use Rattle.frame_fields.specs.Format.{Rest, past, ◌>>=◌, Format, checked, between, Gives}
use Rattle.frame_fields.specs.Frames.{length_field, body_at, end_at, read_frame, said_length, EndsInside}
use Rattle.frame_fields.proofs.Within.{cond_has, stand, Within}
use Rattle.frame_fields.proofs.Formats.{IsFormat}

record Opened (bytes : List ℕ) (body : Rest) : Type 0 where
  place : body.place ≡ 4
  said : body.room ≡ said_length bytes
  most : body.room ≤ 262144
  rest : length body.bytes + 4 ≡ length bytes

abbrev Opens : List ℕ → Result Rest FrameFault → Type 0
Opens bytes (Ok body) = Opened bytes body
Opens bytes (Err faults.Short) = length bytes < 4
Opens bytes (Err (faults.Bad place)) = place ≤ 4
Opens bytes (Err faults.Memory) = Unit {0}

abbrev Ends : {A : Type 0} → List ℕ → Result A FrameFault → Type 0
Ends bytes (Ok x) = Unit {0}
Ends bytes (Err faults.Short) = EndsInside bytes
Ends bytes (Err (faults.Bad place)) = place ≤ 4 + 262144
Ends bytes (Err faults.Memory) = Unit {0}

abbrev body_behind : ℕ × Rest → Result Rest FrameFault
body_behind n = Ok (stand 4 n.0 n.1.bytes)

said_in : (bytes : List ℕ) (n : ℕ) (r : Rest) → n ≡ said_length bytes → length r.bytes + 4 ≡ length bytes → Opens bytes (checked (between 1 262144 n) 0 (n, r) >>= body_behind)
said_in bytes n r said rest =
    cond_has (λ (x : Result (ℕ × Rest) FrameFault). Opens bytes (x >>= body_behind)) (between 1 262144 n) (Ok (n, r)) (Err (faults.Bad 0))
    (λ yes. record { place = refl; said = said; most = leb-true n 262144 (and_parts (leb 1 n) (leb n 262144) yes).1; rest = rest })
    (λ no. omega arith)

body_in : (bytes : List ℕ) → Opens bytes (body_at bytes)
unfolding length_field
body_in bytes =
    cond_has (λ (x : Result (List ℕ × Rest) FrameFault). Opens bytes ((x >>= λ b. checked (between 1 262144 (from_be_bytes w32 b.0)) 0 (from_be_bytes w32 b.0, b.1)) >>= body_behind))
    (ltb (length bytes) 4) (Err faults.Short) (Ok (take 4 bytes, past 4 (stand 0 4 bytes))) (λ h. ltb-true _ _ h)
    (λ h. let long : 4 ≤ length bytes = ltb-false _ _ h in said_in bytes (said_length bytes) (past 4 (stand 0 4 bytes)) refl (omega (arith, long, length-drop 4 bytes)))

abbrev ending : {A : Type 0} → A × Rest → Result (A × ℕ) FrameFault
ending x = end_at x.1 >>= λ n. Ok (x.0, n)

ending_in : {A : Type 0} (bytes : List ℕ) (body : Rest) (x : Result (A × Rest) FrameFault) → Opened bytes body → Within body x → Ends bytes (x >>= ending)
ending_in {A} bytes body (Ok x) o m =
    cond_has (λ (n : Result ℕ FrameFault). Ends {A = A × ℕ} bytes (n >>= λ n. Ok (x.0, n))) (eqb x.1.room 0) (Ok x.1.place) (Err (faults.Bad x.1.place)) (λ h. tt) (λ h. omega (arith, o.place, o.most, m.place))
ending_in bytes body (Err faults.Short) o h = λ four. omega (arith, o.said, o.rest, h)
ending_in bytes body (Err (faults.Bad place)) o h = omega (arith, o.place, o.most, h)
ending_in bytes body (Err faults.Memory) o h = tt

fields_in : {A : Type 0} (f : Format A) (most : ℕ) → IsFormat f most → (bytes : List ℕ) (body : Result Rest FrameFault) → Opens bytes body → Ends bytes (body >>= λ body. f.read body >>= ending)
fields_in f most is bytes (Ok body) o = ending_in bytes body (f.read body) o (is.within body)
fields_in f most is bytes (Err faults.Short) o = λ four. absurd (omega (arith, o, four))
fields_in f most is bytes (Err (faults.Bad place)) o = omega (arith, o)
fields_in f most is bytes (Err faults.Memory) o = tt

frame_in : {A : Type 0} (f : Format A) (most : ℕ) → IsFormat f most → (bytes : List ℕ) → Ends bytes (read_frame f bytes)
unfolding read_frame
frame_in f most is bytes = fields_in f most is bytes (body_at bytes) (body_in bytes)

-- ---- what a decoder promises

result_in : {A : Type 0} (f : Format A) (most : ℕ) → IsFormat f most → (bytes : List ℕ) (r : Result (A × ℕ) FrameFault) → Gives (λ x. x) r (read_frame f bytes) → Ends bytes r
result_in f most is bytes (Ok x) given = tt
result_in f most is bytes (Err faults.Short) given = subst (Ends bytes) given (frame_in f most is bytes)
result_in f most is bytes (Err (faults.Bad place)) given = subst (Ends bytes) given (frame_in f most is bytes)
result_in f most is bytes (Err faults.Memory) given = tt

abbrev pub BoundedFaults : {A : Type 0} → List ℕ → Result A FrameFault → Type 0
BoundedFaults bytes r = (r ≡ Err faults.Short → EndsInside bytes) × ((place : ℕ) → r ≡ Err (faults.Bad place) → place ≤ 4 + 262144)

-- bytes are missing only inside a frame, and a fault lies in it
pub faults_in : {A : Type 0} (f : Format A) (most : ℕ) → IsFormat f most → (bytes : List ℕ) (r : Result (A × ℕ) FrameFault) → Gives (λ x. x) r (read_frame f bytes) → BoundedFaults bytes r
faults_in f most is bytes r given = (λ e. subst (Ends bytes) e (result_in f most is bytes r given), λ place e. subst (Ends bytes) e (result_in f most is bytes r given))
