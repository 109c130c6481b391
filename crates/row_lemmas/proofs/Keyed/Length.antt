-- How many rows a put and a delete leave.
use Rattle.std.proofs.Common.{◌≡◌, ◌≤◌, ◌<◌, suc, List, [], ◌∷◌, length, Bool, true, false, cond, Some, arith}
use Rattle.std.specs.Prelude.{not}
use Rattle.std.specs.declared.cmp.Ordering.{Ordering}
use Rattle.std.specs.declared.cmp.Ordering.TheVariants.{Less, Equal, Greater}
use Rattle.s3_rows.specs.Keyed.{Order, has_key, put, row_at, without}

module _ {K R : Type 0} (o : Order K R) where
  -- at most one more
  pub length-put : (r : R) (rows : List R) → length (put o r rows) ≤ suc (length rows)
  length-put r [] = one
    where
      one : 1 ≤ 1
      one = omega arith
  length-put r (x ∷ xs) = by_case (length-put r xs) (o.compare (o.key r) (o.key x))
    where
      by_case : length (put o r xs) ≤ suc (length xs) → (c : Ordering)
          → length {A = R} (elim c [ Less ↦ r ∷ x ∷ xs | Equal ↦ r ∷ xs | Greater ↦ x ∷ put o r xs ]) ≤ suc (suc (length xs))
      by_case others Less = omega arith
      by_case others Equal = omega arith
      by_case others Greater = omega (arith, others)

  -- no more
  length-without : (k : K) (rows : List R) → length (without o k rows) ≤ length rows
  length-without k [] = none
    where
      none : 0 ≤ 0
      none = omega arith
  length-without k (x ∷ xs) = by_case (length-without k xs) (has_key o k x)
    where
      by_case : length (without o k xs) ≤ length xs → (b : Bool) → length {A = R} (cond (not b) (x ∷ without o k xs) (without o k xs)) ≤ suc (length xs)
      by_case others true = omega (arith, others)
      by_case others false = omega (arith, others)

  -- and less where there is one
  pub length-without_there : (k : K) (rows : List R) (r : R) → row_at o k rows ≡ Some r → length (without o k rows) < length rows
  length-without_there k [] r there = absurd (cc there)
  length-without_there k (x ∷ xs) r there = by_case (length-without_there k xs r) (has_key o k x) there
    where
      by_case : (row_at o k xs ≡ Some r → length (without o k xs) < length xs) → (b : Bool) → cond b (Some x) (row_at o k xs) ≡ Some r
          → length {A = R} (cond (not b) (x ∷ without o k xs) (without o k xs)) < suc (length xs)
      by_case others true is = omega (arith, length-without k xs)
      by_case others false is = omega (arith, others is)
