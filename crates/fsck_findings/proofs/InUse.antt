-- One more than the greatest of numbers.
use Rattle.std.proofs.Common.{◌≡◌, ℕ, ◌≤◌, List, [], ◌∷◌, ◌++◌, max, refl, arith}
use Rattle.fsck_findings.specs.Work.{above}

pub above-append : (xs ys : List ℕ) → above (xs ++ ys) ≡ max (above xs) (above ys)
above-append [] ys = at_least ys
  where
    at_least : (zs : List ℕ) → above zs ≡ max 1 (above zs)
    at_least [] = refl
    at_least (z ∷ zs) = omega (arith, at_least zs)
above-append (x ∷ xs) ys = omega (arith, above-append xs ys)

pub above_positive : (xs : List ℕ) → 1 ≤ above xs
above_positive [] = omega arith
above_positive (x ∷ xs) = omega (arith, above_positive xs)

-- columns that are read one after the other
pub above_two : (a b : List ℕ) (m n : ℕ) → m ≡ max 1 (above a) → n ≡ max m (above b) → n ≡ above (a ++ b)
above_two a b m n first second = omega (arith, first, second, above-append a b, above_positive a)

-- a column more
pub above_more : (a b : List ℕ) (m n : ℕ) → m ≡ above a → n ≡ max m (above b) → n ≡ above (a ++ b)
above_more a b m n first second = omega (arith, first, second, above-append a b)
