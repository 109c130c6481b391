-- Sums and counts of rows by key.
use Rattle.std.proofs.Common.{◌≡◌, ℕ, suc, ◌+◌, List, [], ◌∷◌, length, Bool, true, false, cond, None, Some, refl, sym, ap, ◌∙◌, arith}
use Rattle.std.specs.Prelude.{IsTrue, not, is_some, count_by, sum_by}
use Rattle.std.proofs.lemmas.List.Sums.{sum_by-cons}
use Rattle.std.specs.Cmp.{IsTotalOrder}
use Rattle.std.specs.declared.cmp.Ordering.{Ordering}
use Rattle.std.specs.declared.cmp.Ordering.TheVariants.{Less, Equal, Greater}
use Rattle.std.specs.Ordering.{is_eq}
use Rattle.s3_rows.specs.Keyed.{Order, is_past, has_key, rises, put, without, row_at}
use Rattle.row_lemmas.proofs.Tests.{less_from_is_lt, equal_from_is_eq, list_all_weaker}
use Rattle.row_lemmas.proofs.Sums.{count_by_true, count_by_none}
use Rattle.row_lemmas.proofs.Keyed.Rises.{rises_tail, rises_behind}
use Rattle.row_lemmas.proofs.Keyed.RowAt.{row_at_behind}
use Rattle.row_lemmas.proofs.Keyed.Without.{row_at-without_same, without_none, put-without}

module _ {K R : Type 0} (o : Order K R) where
  -- a put of a new key adds to a sum
  pub sum_by-put_new : (f : R → ℕ) (r : R) (rows : List R) → is_some (row_at o (o.key r) rows) ≡ false
      → sum_by f (put o r rows) ≡ f r + sum_by f rows
  sum_by-put_new f r [] new = sum_by-cons f r []
  sum_by-put_new f r (x ∷ xs) new = by_case (sum_by-put_new f r xs) (o.compare (o.key r) (o.key x)) new
    where
      by_case : (is_some (row_at o (o.key r) xs) ≡ false → sum_by f (put o r xs) ≡ f r + sum_by f xs) → (c : Ordering)
          → is_some (cond (is_eq c) (Some x) (row_at o (o.key r) xs)) ≡ false
          → sum_by f (elim c [ Less ↦ r ∷ x ∷ xs | Equal ↦ r ∷ xs | Greater ↦ x ∷ put o r xs ])
          ≡ f r + sum_by f (x ∷ xs)
      by_case others Less none = sum_by-cons f r (x ∷ xs)
      by_case others Equal none = absurd (cc none)
      by_case others Greater none = omega (arith, others none, sum_by-cons f x (put o r xs), sum_by-cons f x xs)

  -- and to what is counted
  pub count_by-put_new : (f : R → Bool) (r : R) (rows : List R) → is_some (row_at o (o.key r) rows) ≡ false
      → count_by f (put o r rows) ≡ count_by f (r ∷ rows)
  count_by-put_new f r rows new =
      let one : R → ℕ = λ y. cond (f y) 1 0 in
      sum_by-put_new one r rows new ∙ sym (sum_by-cons one r rows)

  -- exactly one row has a key that is there
  pub count_by-has_key_there : IsTotalOrder o.compare → (k : K) (rows : List R) → IsTrue (rises o rows)
      → IsTrue (is_some (row_at o k rows)) → count_by (has_key o k) rows ≡ 1
  count_by-has_key_there total k [] up there = absurd (cc there)
  count_by-has_key_there total k (x ∷ xs) up there =
      by_case (count_by-has_key_there total k xs (rises_tail o x xs up)) (o.compare k (o.key x)) refl there
    where
      one : R → ℕ
      one r = cond (has_key o k r) 1 0

      apart : (r : R) → IsTrue (is_past o k r) → IsTrue (not (has_key o k r))
      apart r past = ap (λ c. not (is_eq c)) (less_from_is_lt (o.compare k (o.key r)) past)

      counted : (b : Bool) (n : ℕ) → has_key o k x ≡ b → count_by (has_key o k) xs ≡ n
          → count_by (has_key o k) (x ∷ xs) ≡ cond b 1 0 + n
      counted b n is rest =
          sum_by-cons one x xs ∙ ap (λ c. cond c 1 0 + count_by (has_key o k) xs) is ∙ ap (λ m. cond b 1 0 + m) rest

      by_case : (IsTrue (is_some (row_at o k xs)) → count_by (has_key o k) xs ≡ 1) → (c : Ordering)
          → o.compare k (o.key x) ≡ c
          → IsTrue (is_some (cond (is_eq c) (Some x) (row_at o k xs))) → count_by (has_key o k) (x ∷ xs) ≡ 1
      by_case others Less is found = counted false 1 (ap is_eq is) (others found)
      by_case others Equal is found =
          counted true 0 (ap is_eq is)
          (count_by_none (has_key o k) xs
          (list_all_weaker (is_past o k) (λ r. not (has_key o k r)) apart xs (rises_behind o total k x xs up is)))
      by_case others Greater is found = counted false 1 (ap is_eq is) (others found)

  module _ (total : IsTotalOrder o.compare) where
    -- a delete takes the row's part from a sum
    pub sum_by-without_there : (f : R → ℕ) (k : K) (r : R) (rows : List R) → IsTrue (rises o rows)
        → row_at o k rows ≡ Some r
        → f r + sum_by f (without o k rows) ≡ sum_by f rows
    sum_by-without_there f k r [] up there = absurd (cc there)
    sum_by-without_there f k r (x ∷ xs) up there =
        by_case (sum_by-without_there f k r xs (rises_tail o x xs up)) (has_key o k x) refl there
      where
        by_case : (row_at o k xs ≡ Some r → f r + sum_by f (without o k xs) ≡ sum_by f xs) → (b : Bool)
            → has_key o k x ≡ b
            → cond b (Some x) (row_at o k xs) ≡ Some r
            → f r + sum_by f (cond (not b) (x ∷ without o k xs) (without o k xs)) ≡ sum_by f (x ∷ xs)
        by_case others true own found =
            let same : x ≡ r = cc found in
            let none : row_at o k xs ≡ None =
            row_at_behind o total k x xs up (equal_from_is_eq (o.compare k (o.key x)) own) in
            ap (λ ys. f r + sum_by f ys) (without_none o k xs (ap is_some none))
            ∙ ap (λ y. f y + sum_by f xs) (sym same)
            ∙ sym (sum_by-cons f x xs)
        by_case others false own found =
            omega (arith, others found, sum_by-cons f x (without o k xs), sum_by-cons f x xs)

    -- a put in place of a row gives its own part for that row's
    pub sum_by-put_there : (f : R → ℕ) (new old : R) (rows : List R) → IsTrue (rises o rows)
        → row_at o (o.key new) rows ≡ Some old → f old + sum_by f (put o new rows) ≡ f new + sum_by f rows
    sum_by-put_there f new old rows up there =
        let rest : List R = without o (o.key new) rows in
        let made : sum_by f (put o new rows) ≡ f new + sum_by f rest =
        ap (sum_by f) (sym (put-without o total new rows up))
        ∙ sum_by-put_new f new rest (ap is_some (row_at-without_same o total (o.key new) rows)) in
        omega (arith, made, sum_by-without_there f (o.key new) old rows up there)

    pub count_by-without_there : (p : R → Bool) (k : K) (r : R) (rows : List R) → IsTrue (rises o rows)
        → row_at o k rows ≡ Some r → cond (p r) 1 0 + count_by p (without o k rows) ≡ count_by p rows
    count_by-without_there p k r rows up there = sum_by-without_there (λ y. cond (p y) 1 0) k r rows up there

    pub count_by-put_there : (p : R → Bool) (new old : R) (rows : List R) → IsTrue (rises o rows)
        → row_at o (o.key new) rows ≡ Some old
        → cond (p old) 1 0 + count_by p (put o new rows) ≡ cond (p new) 1 0 + count_by p rows
    count_by-put_there p new old rows up there = sum_by-put_there (λ y. cond (p y) 1 0) new old rows up there

    pub length-without_there : (k : K) (r : R) (rows : List R) → IsTrue (rises o rows) → row_at o k rows ≡ Some r
        → suc (length (without o k rows)) ≡ length rows
    length-without_there k r rows up there =
        let one : R → ℕ = λ y. 1 in
        omega (
          arith,
          sum_by-without_there one k r rows up there,
          count_by_true (without o k rows),
          count_by_true rows,
        )
