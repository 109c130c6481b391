-- What was read as a number is within its rule.
use Rattle.std.proofs.Common.{◌≡◌, ℕ, ◌≤◌, Bool, true, leb, List, Result, Ok, Err, IfOk, subst, sym, ap, ◌∙◌}
use Rattle.std.specs.Int.{Width, w16, byte_len, from_be_bytes}
use Rattle.std.proofs.lemmas.Bool.{and_parts, leb-true}
use Rattle.frame_fields.specs.declared.fields.Unread.{Unread}
use Rattle.frame_fields.specs.declared.fault.FrameFault.{FrameFault}
use Rattle.frame_fields.specs.declared.fault.FrameFault.TheVariants as faults
use Rattle.frame_fields.specs.Format.{Rest, ◌>>=◌, front, checked, made, fixed, number, between, Gives}
use Rattle.frame_fields.specs.Unread.{rest_of}
use Rattle.keeper_dump.specs.RowFields.{only, is_text, text_field}
use Rattle.frame_fields.proofs.Within.{cond_has}
use Rattle.frame_fields.proofs.Formats.{On, On-then}

-- what holds of all values holds of what was read
pub On-any : {A : Type 0} (x : Result A FrameFault) → On (λ v. Unit {0}) x
On-any (Ok v) = tt
On-any (Err e) = tt

number_allowed : (w : Width) (allowed : ℕ → Bool) (r : Rest) → On (λ x. allowed x.0 ≡ true) ((number w allowed).read r)
number_allowed w allowed r =
    On-then (λ b. Unit {0}) (λ x. allowed x.0 ≡ true) (front (byte_len w) r)
    (λ b. checked (allowed (from_be_bytes w b.0)) r.place (from_be_bytes w b.0, b.1)) (On-any (front (byte_len w) r))
    (λ b any. cond_has (On (λ (x : ℕ × Rest). allowed x.0 ≡ true)) (allowed (from_be_bytes w b.0)) (Ok (from_be_bytes w b.0, b.1)) (Err (faults.Bad r.place))
    (λ yes. yes) (λ no. tt))

-- the number that a reader gave passes its rule
pub passes : (w : Width) (allowed : ℕ → Bool) (r : Rest) (result : Result (ℕ × Unread) FrameFault)
    → Gives (λ x. (x.0, rest_of x.1)) result ((number w allowed).read r) → IfOk result (λ x. allowed x.0 ≡ true)
passes w allowed r (Ok x) given = subst (On (λ (y : ℕ × Rest). allowed y.0 ≡ true)) given (number_allowed w allowed r)
passes w allowed r (Err e) given = tt

pub least_of : (w : Width) (low high : ℕ) (r : Rest) (result : Result (ℕ × Unread) FrameFault)
    → Gives (λ x. (x.0, rest_of x.1)) result ((number w (between low high)).read r) → IfOk result (λ x. low ≤ x.0)
least_of w low high r (Ok x) given = leb-true low x.0 (and_parts (leb low x.0) (leb x.0 high) (passes w (between low high) r (Ok x) given)).0
least_of w low high r (Err e) given = tt

pub most_of : (w : Width) (low high : ℕ) (r : Rest) (result : Result (ℕ × Unread) FrameFault)
    → Gives (λ x. (x.0, rest_of x.1)) result ((number w (between low high)).read r) → IfOk result (λ x. x.0 ≤ high)
most_of w low high r (Ok x) given = leb-true x.0 high (and_parts (leb low x.0) (leb x.0 high) (passes w (between low high) r (Ok x) given)).1
most_of w low high r (Err e) given = tt

-- a text that was read, byte by byte another than 0
pub text_found : (limit : ℕ) (r s t : Rest) (n : ℕ) (text copy : List ℕ) → (number w16 (between 1 limit)).read r ≡ Ok (n, s)
    → front n s ≡ Ok (text, t) → is_text text ≡ true → copy ≡ text → (text_field limit).read r ≡ Ok (copy, t)
unfolding text_field
text_found limit r s t n text copy sized front_is allowed same =
    let behind : ℕ × Rest → Result ((ℕ × List ℕ) × Rest) FrameFault = λ x. (only is_text (fixed x.0)).read x.1 >>= λ y. Ok ((x.0, y.0), y.1) in
    let paired : Result (List ℕ × Rest) FrameFault → Result ((ℕ × List ℕ) × Rest) FrameFault = λ z. z >>= λ y. Ok ((n, y.0), y.1) in
    ap (λ (z : Result (ℕ × Rest) FrameFault). made (λ (x : ℕ × List ℕ). x.1) (z >>= behind)) sized
    ∙ ap (λ (z : Result (List ℕ × Rest) FrameFault). made (λ (x : ℕ × List ℕ). x.1) (paired (z >>= λ b. checked (is_text b.0) s.place b))) front_is
    ∙ ap (λ (b : Bool). made (λ (x : ℕ × List ℕ). x.1) (paired (checked b s.place (text, t)))) allowed
    ∙ ap (λ (z : List ℕ). Ok (z, t)) (sym same)
