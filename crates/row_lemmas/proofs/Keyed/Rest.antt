-- The rows that are left past a key, and without a row.
use Rattle.std.proofs.Common.{◌≡◌, ◌≤◌, List, [], ◌∷◌, length, Bool, true, false, cond, Option, None, Some, refl, sym, ap, ◌∙◌, subst, arith}
use Rattle.std.specs.Prelude.{IsTrue, not, filter, find, is_some}
use Rattle.std.specs.List.{list_all}
use Rattle.std.specs.Cmp.{IsTotalOrder, tied_itself}
use Rattle.std.specs.Ordering.{is_lt}
use Rattle.std.proofs.lemmas.List.Filters.{length-filter_both}
use Rattle.s3_rows.specs.Keyed.{Order, has_key, is_past, rises, rows_past, without}
use Rattle.row_lemmas.proofs.Filters.{filter_all, filter_comm}
use Rattle.row_lemmas.proofs.Tests.{find_passes_all, less_from_is_lt}
use Rattle.row_lemmas.proofs.Keyed.Rises.{compare_less_back, list_all-is_past_trans, rises-filter, rises_head, rises_tail}
use Rattle.row_lemmas.proofs.Keyed.RowAt.{has_key_same, row_at_behind}
use Rattle.row_lemmas.proofs.Keyed.Without.{without_none}

-- ---- rows_past

pub rows_past_none : {K R : Type 0} (o : Order K R) (k : K) (rows : List R) → find (is_past o k) rows ≡ None → rows_past o k rows ≡ []
rows_past_none o k [] is = refl
rows_past_none o k (x ∷ xs) is = by_case (rows_past_none o k xs) (is_past o k x) is
  where
    by_case : (find (is_past o k) xs ≡ None → rows_past o k xs ≡ []) → (b : Bool) → cond b (Some x) (find (is_past o k) xs) ≡ None
        → cond b (x ∷ rows_past o k xs) (rows_past o k xs) ≡ []
    by_case others true there = absurd (cc there)
    by_case others false there = others there

-- the first row past a key, and then the rows past it
pub rows_past_first : {K R : Type 0} (o : Order K R) → IsTotalOrder o.compare → (k : K) (rows : List R) (a : R) → IsTrue (rises o rows)
    → find (is_past o k) rows ≡ Some a → rows_past o k rows ≡ a ∷ rows_past o (o.key a) rows
rows_past_first o total k [] a rise is = absurd (cc is)
rows_past_first {K} {R} o total k (x ∷ xs) a rise is = by_case (rows_past_first o total k xs a (rises_tail o x xs rise)) (is_past o k x) refl is
  where
    later : IsTrue (list_all (is_past o (o.key x)) xs)
    later = rises_head o x xs rise

    by_case : (find (is_past o k) xs ≡ Some a → rows_past o k xs ≡ a ∷ rows_past o (o.key a) xs) → (b : Bool) → is_past o k x ≡ b
        → cond b (Some x) (find (is_past o k) xs) ≡ Some a
        → cond b (x ∷ rows_past o k xs) (rows_past o k xs) ≡ a ∷ rows_past o (o.key a) (x ∷ xs)
    by_case others true past found =
        let same : x ≡ a = cc found in
        let all : rows_past o k xs ≡ xs =
        filter_all (is_past o k) xs (list_all-is_past_trans o total k (o.key x) xs (less_from_is_lt (o.compare k (o.key x)) past) later) in
        let own : rows_past o (o.key x) (x ∷ xs) ≡ xs =
        ap (λ c. cond (is_lt c) (x ∷ rows_past o (o.key x) xs) (rows_past o (o.key x) xs)) (tied_itself total (o.key x)) ∙ filter_all (is_past o (o.key x)) xs later in
        subst (λ y. x ∷ rows_past o k xs ≡ y ∷ rows_past o (o.key y) (x ∷ xs)) same (ap (λ ys. x ∷ ys) (all ∙ sym own))
    by_case others false early found =
        let past : IsTrue (is_past o (o.key x) a) = find_passes_all (is_past o k) (is_past o (o.key x)) xs a later found in
        let back : is_past o (o.key a) x ≡ false = ap is_lt (compare_less_back o total (o.key x) (o.key a) (less_from_is_lt (o.compare (o.key x) (o.key a)) past)) in
        others found ∙ ap (λ ys. a ∷ ys) (sym (ap (λ b. cond b (x ∷ rows_past o (o.key a) xs) (rows_past o (o.key a) xs)) back))

-- ---- without

-- without the first row that passes a test, the rest of those that pass are left
pub filter-without_first : {K R : Type 0} (o : Order K R) → IsTotalOrder o.compare → (q : R → Bool) (rows rest : List R) (x : R) → IsTrue (rises o rows)
    → filter q rows ≡ x ∷ rest → filter q (without o (o.key x) rows) ≡ rest
filter-without_first {K} {R} o total q rows rest x rise is =
    let up : IsTrue (rises o (x ∷ rest)) = subst (λ (ys : List R). IsTrue (rises o ys)) is (rises-filter o q rows rise) in
    filter_comm q (λ r. not (has_key o (o.key x) r)) rows ∙ ap (without o (o.key x)) is
    ∙ ap (λ b. cond (not b) (x ∷ without o (o.key x) rest) (without o (o.key x) rest)) (has_key_same o total x)
    ∙ without_none o (o.key x) rest (ap is_some (row_at_behind o total (o.key x) x rest up (tied_itself total (o.key x))))

-- a delete leaves no more rows
pub length-without : {K R : Type 0} (o : Order K R) (k : K) (rows : List R) → length (without o k rows) ≤ length rows
length-without o k rows =
    let both = length-filter_both (λ r. not (has_key o k r)) (has_key o k) (λ r. twice (has_key o k r)) rows in
    omega (arith, both)
  where
    twice : (b : Bool) → b ≡ not (not b)
    twice true = refl
    twice false = refl
