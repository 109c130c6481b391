-- Places of keys among rows that rise, and what an edit at such a place does.
use Rattle.std.proofs.Common.{◌≡◌, ℕ, zero, suc, ◌<◌, ◌≤◌, List, [], ◌∷◌, length, get_or, set, Some, None, Result, Ok, Err, IfOk, IfErr, refl, sym, ap, ◌∙◌, arith, inl, inr}
use Rattle.std.specs.Prelude.{IsTrue, is_some}
use Rattle.std.specs.List.{insert, remove, list_all, AllWithin, HoldsAt}
use Rattle.std.specs.List.Sorted.{IsSearchInRange, IsBinarySearchResult, IsNonDecreasingBy}
use Rattle.std.specs.declared.cmp.Ordering.{Ordering}
use Rattle.std.specs.declared.cmp.Ordering.TheVariants.{Less, Equal, Greater}
use Rattle.std.specs.Ordering.{ordering_index, ordering_reverse}
use Rattle.std.specs.Cmp.{IsTotalOrder}
use Rattle.std.proofs.lemmas.Bool.{cases_lt}
use Rattle.std.proofs.lemmas.Cmp.{tied_back, alike_right}
use Rattle.s3_rows.specs.Keyed.{Order, is_past, rises, put, without, row_at}
use Rattle.row_lemmas.specs.Places.{Stands, GoesAt}
use Rattle.row_lemmas.proofs.Tests.{less_from_is_lt}
use Rattle.row_lemmas.proofs.Keyed.Rises.{rises_tail, rises-get_or, rises_below, rises_behind}
use Rattle.row_lemmas.proofs.Keyed.RowAt.{row_at_none}
use Rattle.row_lemmas.proofs.Keyed.Without.{without_none}

module _ {K R : Type 0} (o : Order K R) where
  pub put-Stands : (r : R) (rows : List R) (i : ℕ) → Stands o (o.key r) rows i → put o r rows ≡ set rows i r
  put-Stands r [] i at = absurd at
  put-Stands r (x ∷ xs) zero at = rw (at, put) refl
  put-Stands r (x ∷ xs) (suc i) at = rw (at.0, put) (ap (λ l. x ∷ l) (put-Stands r xs i at.1))

  pub put-GoesAt : (r : R) (rows : List R) (i : ℕ) → GoesAt o (o.key r) rows i → put o r rows ≡ insert rows i r
  put-GoesAt r [] i at = rw at refl
  put-GoesAt r (x ∷ xs) zero at = rw (at, put) refl
  put-GoesAt r (x ∷ xs) (suc i) at = rw (at.0, put) (ap (λ l. x ∷ l) (put-GoesAt r xs i at.1))

  pub row_at-Stands : (k : K) (rows : List R) (i : ℕ) (d : R) → Stands o k rows i
      → row_at o k rows ≡ Some (get_or rows i d)
  row_at-Stands k [] i d at = absurd at
  row_at-Stands k (x ∷ xs) zero d at = rw at refl
  row_at-Stands k (x ∷ xs) (suc i) d at = rw at.0 (row_at-Stands k xs i d at.1)

  module _ (total : IsTotalOrder o.compare) where
    -- no later row has the key
    without_past : (k : K) (xs : List R) → IsTrue (list_all (is_past o k) xs) → without o k xs ≡ xs
    without_past k xs all = without_none o k xs (ap is_some (row_at_none o k xs all))

    pub without-Stands : (k : K) (rows : List R) (i : ℕ) → IsTrue (rises o rows) → Stands o k rows i
        → without o k rows ≡ remove rows i
    without-Stands k [] i up at = absurd at
    without-Stands k (x ∷ xs) zero up at = rw at (without_past k xs (rises_behind o total k x xs up at))
    without-Stands k (x ∷ xs) (suc i) up at =
        rw at.0 (ap (λ l. x ∷ l) (without-Stands k xs i (rises_tail o x xs up) at.1))

    -- no row has a key that goes between the rows
    pub row_at-GoesAt : (k : K) (rows : List R) (i : ℕ) → IsTrue (rises o rows) → GoesAt o k rows i
        → row_at o k rows ≡ None
    row_at-GoesAt k [] i up at = refl
    row_at-GoesAt k (x ∷ xs) zero up at = row_at_none o k (x ∷ xs) (rises_below o total k x xs up at)
    row_at-GoesAt k (x ∷ xs) (suc i) up at = rw at.0 (row_at-GoesAt k xs i (rises_tail o x xs up) at.1)

    pub without-GoesAt : (k : K) (rows : List R) (i : ℕ) → IsTrue (rises o rows) → GoesAt o k rows i
        → without o k rows ≡ rows
    without-GoesAt k rows i up at = without_none o k rows (ap is_some (row_at-GoesAt k rows i up at))

    -- ---- what a binary search finds

    turned : (a b : K) (c : Ordering) → o.compare a b ≡ c → o.compare b a ≡ ordering_reverse c
    turned a b c is = total.antisymm b a ∙ ap ordering_reverse is

    index_le : (a b k : K) → o.compare a b ≡ Less → ordering_index (o.compare a k) ≤ ordering_index (o.compare b k)
    index_le a b k below = by_order (o.compare b k) refl
      where
        at_most : (c : Ordering) → ordering_index c ≤ 2
        at_most Less = omega arith
        at_most Equal = omega arith
        at_most Greater = omega arith

        by_order : (c : Ordering) → o.compare b k ≡ c
            → ordering_index (o.compare a k) ≤ ordering_index (o.compare b k)
        by_order Less is = rw (is, total.trans a b k below is) (omega arith)
        by_order Equal is = rw (is, sym (alike_right total b k a is) ∙ below) (omega arith)
        by_order Greater is = rw is (at_most (o.compare a k))

    -- an earlier row has a smaller key
    compare-get_or : (rows : List R) (i j : ℕ) (d : R) → IsTrue (rises o rows) → i < j → j < length rows
        → o.compare (o.key (get_or rows i d)) (o.key (get_or rows j d)) ≡ Less
    compare-get_or rows i j d up below short =
        less_from_is_lt (o.compare (o.key (get_or rows i d)) (o.key (get_or rows j d)))
        (rises-get_or o rows i j d up below short)

    answers_rise : (k : K) (rows : List R) → IsTrue (rises o rows)
        → IsNonDecreasingBy (λ y. ordering_index (o.compare (o.key y) k)) rows
    answers_rise k rows up i j d le short = elim (cases_lt i j) [
      | inl below ↦ index_le (o.key (get_or rows i d)) (o.key (get_or rows j d)) k
          (compare-get_or rows i j d up below short)
      | inr above ↦
          let same : i ≡ j = omega arith in
          rw same (omega arith)
    ]

    stands_from : (k : K) (rows : List R) (i : ℕ) → IsTrue (rises o rows) → i < length rows
        → HoldsAt (λ y. o.compare (o.key y) k ≡ Equal) rows i → Stands o k rows i
    stands_from k [] i up short at = absurd (omega arith)
    stands_from k (x ∷ xs) zero up short at = tied_back total _ _ (at x)
    stands_from k (x ∷ xs) (suc i) up short at =
        let there = get_or xs i x in
        let before : o.compare (o.key x) (o.key there) ≡ Less =
        compare-get_or (x ∷ xs) 0 (suc i) x up (omega arith) short in (
          turned _ _ _ (sym (alike_right total (o.key there) k (o.key x) (at x)) ∙ before),
          stands_from k xs i (rises_tail o x xs up) (omega arith) at,
        )

    goes_from : (k : K) (rows : List R) (i : ℕ) → i ≤ length rows
        → AllWithin (λ y. o.compare (o.key y) k ≡ Less) rows 0 i
        → AllWithin (λ y. o.compare (o.key y) k ≡ Greater) rows i (length rows) → GoesAt o k rows i
    goes_from k [] i le below above = omega arith
    goes_from k (x ∷ xs) zero le below above = turned _ _ _ (above 0 x (omega arith) (omega arith))
    goes_from k (x ∷ xs) (suc i) le below above = (
      turned _ _ _ (below 0 x (omega arith) (omega arith)),
      goes_from k xs i (omega arith) (λ j d l m. below (suc j) d (omega arith) (omega arith))
          (λ j d l m. above (suc j) d (omega arith) (omega arith)),
    )

    -- an `Ok` has the place of the key, and an `Err` the place where it fits
    pub Stands_from_search : (k : K) (rows : List R) (r : Result ℕ ℕ) → IsTrue (rises o rows)
        → IsSearchInRange r (length rows) → IsBinarySearchResult (λ y. o.compare (o.key y) k) rows r
        → (IfOk r (Stands o k rows)) × IfErr r (GoesAt o k rows)
    Stands_from_search k rows (Ok i) up short found = (stands_from k rows i up short found, tt)
    Stands_from_search k rows (Err i) up le found =
        let parts = found (answers_rise k rows up) in (tt, goes_from k rows i le parts.0 parts.1)
