-- The value of decimal digits, digit after digit.
use Rattle.std.proofs.Common.{◌≡◌, ℕ, ◌+◌, ◌-◌, ◌*◌, ◌<◌, true, false, ltb, leb, min, IsTrue, List, [], ◌∷◌, length, get_or, take, zero, suc, refl, arith}
use Rattle.std.specs.List.{list_all}
use Rattle.std.specs.Char.{digit_value}
use Rattle.std.specs.Str.Parse.{digits_value}
use Rattle.std.proofs.lemmas.Bool.{and_parts, leb-true, lt-ltb, le-ltb}
use Rattle.std.proofs.lemmas.Int.Digits.{digits_value_more}
use Rattle.metadata_backup.specs.Numbers.{is_digit}

digit_value_is : (c : ℕ) → is_digit c ≡ true → digit_value c ≡ c - 48
digit_value_is c h =
    let parts = and_parts (leb 48 c) (leb c 57) h in
    let low : ltb c 48 ≡ false = le-ltb _ _ (leb-true 48 c parts.0) in
    let high : ltb c 58 ≡ true = let le = leb-true c 57 parts.1 in lt-ltb _ _ (omega (arith, le)) in
    rw (low, high) refl

digit_at : (ds : List ℕ) (i : ℕ) → IsTrue (list_all is_digit ds) → i < length ds → is_digit (get_or ds i 0) ≡ true
digit_at [] i h lt = absurd (omega arith)
digit_at (d ∷ ds) zero h lt = (and_parts (is_digit d) (list_all is_digit ds) h).0
digit_at (d ∷ ds) (suc i) h lt = digit_at ds i (and_parts (is_digit d) (list_all is_digit ds) h).1 (omega arith)

-- sums that stop at a limit
stops : (limit n d value product sum : ℕ) → value ≡ min n limit → product ≡ min (value * 10) limit → sum ≡ min (product + d) limit → sum ≡ min (n * 10 + d) limit
stops limit n d value product sum p q r = omega arith

pub one_more : (ds : List ℕ) (i limit value product sum : ℕ) → IsTrue (list_all is_digit ds) → i < length ds → value ≡ min (digits_value 10 (take i ds)) limit → product ≡ min (value * 10) limit → sum ≡ min (product + (get_or ds i 0 - 48)) limit
    → sum ≡ min (digits_value 10 (take (i + 1) ds)) limit
one_more ds i limit value product sum h lt p q r =
    rw (digits_value_more 10 ds i lt, digit_value_is (get_or ds i 0) (digit_at ds i h lt)) (stops limit (digits_value 10 (take i ds)) (get_or ds i 0 - 48) value product sum p q r)
