-- Filters of rows by key.
use Rattle.std.proofs.Common.{◌≡◌, List, [], ◌∷◌, Bool, true, false, cond, Option, None, Some, refl, sym, ap, ◌∙◌}
use Rattle.std.specs.Prelude.{IsTrue, filter, not}
use Rattle.std.specs.Cmp.{IsTotalOrder}
use Rattle.std.specs.declared.cmp.Ordering.{Ordering}
use Rattle.std.specs.declared.cmp.Ordering.TheVariants.{Less, Equal, Greater}
use Rattle.s3_rows.specs.Keyed.{Order, has_key, rises, put, row_at, without}
use Rattle.row_lemmas.proofs.Tests.{equal_from_is_eq}
use Rattle.row_lemmas.proofs.Keyed.Rises.{rises_tail, rises-filter}
use Rattle.row_lemmas.proofs.Keyed.RowAt.{row_at_behind, same_from_row_at}
use Rattle.row_lemmas.proofs.Keyed.Put.{rises-put, row_at-put}

-- what is found, where it passes
abbrev pub if_passes : {R : Type 0} → (R → Bool) → Option R → Option R
if_passes q None = None
if_passes q (Some r) = cond (q r) (Some r) None

module _ {K R : Type 0} (o : Order K R) where
  -- a put of a row that a filter leaves out, as it does all rows of its key
  pub filter-put_false : (q : R → Bool) (r : R) (rows : List R) → q r ≡ false
      → ((x : R) → o.compare (o.key r) (o.key x) ≡ Equal → q x ≡ false)
      → filter q (put o r rows) ≡ filter q rows
  filter-put_false q r [] out all_out = ap (λ b. cond b (r ∷ []) []) out
  filter-put_false q r (x ∷ xs) out all_out =
      by_case (filter-put_false q r xs out all_out) (o.compare (o.key r) (o.key x)) refl
    where
      by_case : filter q (put o r xs) ≡ filter q xs → (c : Ordering) → o.compare (o.key r) (o.key x) ≡ c
          → filter q (elim c [ Less ↦ r ∷ x ∷ xs | Equal ↦ r ∷ xs | Greater ↦ x ∷ put o r xs ]) ≡ filter q (x ∷ xs)
      by_case others Less is = ap (λ b. cond b (r ∷ filter q (x ∷ xs)) (filter q (x ∷ xs))) out
      by_case others Equal is =
          ap (λ b. cond b (r ∷ filter q xs) (filter q xs)) out
          ∙ sym (ap (λ b. cond b (x ∷ filter q xs) (filter q xs)) (all_out x is))
      by_case others Greater is = ap (λ ys. cond (q x) (x ∷ ys) ys) others

  -- a delete of rows that a filter leaves out
  pub filter-without_false : (q : R → Bool) (k : K) (rows : List R) → ((x : R) → IsTrue (has_key o k x) → q x ≡ false)
      → filter q (without o k rows) ≡ filter q rows
  filter-without_false q k [] out = refl
  filter-without_false q k (x ∷ xs) out = by_case (filter-without_false q k xs out) (has_key o k x) refl
    where
      by_case : filter q (without o k xs) ≡ filter q xs → (b : Bool) → has_key o k x ≡ b
          → filter q (cond (not b) (x ∷ without o k xs) (without o k xs)) ≡ filter q (x ∷ xs)
      by_case others true is = others ∙ sym (ap (λ b. cond b (x ∷ filter q xs) (filter q xs)) (out x is))
      by_case others false is = ap (λ ys. cond (q x) (x ∷ ys) ys) others

  module _ (total : IsTotalOrder o.compare) where
    pub row_at-filter : (q : R → Bool) (k : K) (rows : List R) → IsTrue (rises o rows)
        → row_at o k (filter q rows) ≡ if_passes q (row_at o k rows)
    row_at-filter q k [] up = refl
    row_at-filter q k (x ∷ xs) up =
        by_case (row_at-filter q k xs (rises_tail o x xs up)) (q x) (has_key o k x) refl refl
      where
        by_case : row_at o k (filter q xs) ≡ if_passes q (row_at o k xs) → (b c : Bool) → q x ≡ b → has_key o k x ≡ c
            → row_at o k (cond b (x ∷ filter q xs) (filter q xs)) ≡ if_passes q (cond c (Some x) (row_at o k xs))
        by_case others true true passes here =
            ap (λ b. cond b (Some x) (row_at o k (filter q xs))) here ∙ sym (ap (λ b. cond b (Some x) None) passes)
        by_case others true false passes here = ap (λ b. cond b (Some x) (row_at o k (filter q xs))) here ∙ others
        by_case others false true fails here =
            others ∙ ap (if_passes q)
            (row_at_behind o total k x xs up (equal_from_is_eq (o.compare k (o.key x)) here))
            ∙ sym (ap (λ b. cond b (Some x) None) fails)
        by_case others false false fails here = others

    -- a put of a row that passes
    pub filter-put_true : (q : R → Bool) (r : R) (rows : List R) → IsTrue (rises o rows) → IsTrue (q r)
        → filter q (put o r rows) ≡ put o r (filter q rows)
    filter-put_true q r rows up passes =
        same_from_row_at o total (filter q (put o r rows)) (put o r (filter q rows))
        (rises-filter o q (put o r rows) (rises-put o total r rows up))
        (rises-put o total r (filter q rows) (rises-filter o q rows up))
        (λ k. row_at-filter q k (put o r rows) (rises-put o total r rows up)
        ∙ ap (if_passes q) (row_at-put o total k r rows) ∙ own k (has_key o k r)
        ∙ sym (row_at-put o total k r (filter q rows)
        ∙ ap (λ found. cond (has_key o k r) (Some r) found) (row_at-filter q k rows up)))
      where
        own : (k : K) (b : Bool)
            → if_passes q (cond b (Some r) (row_at o k rows)) ≡ cond b (Some r) (if_passes q (row_at o k rows))
        own k true = ap (λ b. cond b (Some r) None) passes
        own k false = refl
