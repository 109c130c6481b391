-- Sorted rows: look-ups give the first row of a key, and counts are as before where keys differ.
use Rattle.std.proofs.Common.{◌≡◌, ℕ, ◌+◌, List, [], ◌∷◌, Bool, true, false, cond, Option, None, Some, refl, sym, ap, ◌∙◌, subst}
use Rattle.std.specs.Prelude.{IsTrue, not, is_some, count_by, filter}
use Rattle.std.specs.List.{list_all, list_any, filter_map, cons_option}
use Rattle.std.proofs.lemmas.Bool.{and_parts}
use Rattle.std.proofs.lemmas.List.Sums.{sum_by-cons}
use Rattle.std.specs.Cmp.{IsTotalOrder, tied_back}
use Rattle.std.specs.declared.cmp.Ordering.{Ordering}
use Rattle.std.specs.declared.cmp.Ordering.TheVariants.{Less, Equal, Greater}
use Rattle.s3_rows.specs.Keyed.{Order, has_key, rises, put, row_at, sorted_by, without}
use Rattle.s3_rows.specs.Validity.{differ}
use Rattle.row_lemmas.proofs.Tests.{equal_from_is_eq, false_from_not, list_any-find}
use Rattle.row_lemmas.proofs.Keyed.Rises.{rises_head, rises_tail}
use Rattle.row_lemmas.proofs.Keyed.RowAt.{row_at_none, same_from_row_at}
use Rattle.row_lemmas.proofs.Keyed.Put.{rises-put, row_at-put, row_at-put_same, put_comm, put_same}
use Rattle.row_lemmas.proofs.Keyed.Count.{count_by-put_new}
use Rattle.row_lemmas.proofs.Keyed.Without.{put-without, without-put_new}

module _ {K R : Type 0} (o : Order K R) (total : IsTotalOrder o.compare) where
  pub rises-sorted_by : (rows : List R) → IsTrue (rises o (sorted_by o rows))
  rises-sorted_by [] = refl
  rises-sorted_by (r ∷ rs) = rises-put o total r (sorted_by o rs) (rises-sorted_by rs)

  -- sorting keeps the first row of each key
  pub row_at-sorted_by : (k : K) (rows : List R) → row_at o k (sorted_by o rows) ≡ row_at o k rows
  row_at-sorted_by k [] = refl
  row_at-sorted_by k (r ∷ rs) =
      row_at-put o total k r (sorted_by o rs)
      ∙ ap (λ found. cond (has_key o k r) (Some r) found) (row_at-sorted_by k rs)

  -- rows that rise are as sorted
  pub sorted_by_same : (rows : List R) → IsTrue (rises o rows) → sorted_by o rows ≡ rows
  sorted_by_same rows up =
      same_from_row_at o total (sorted_by o rows) rows (rises-sorted_by rows) up (λ k. row_at-sorted_by k rows)

  -- what holds of no rows, and after a put of a new key, holds of all rows that rise
  pub rows_by_put : (P : List R → Type 0) → P []
      → ((r : R) (rows : List R) → IsTrue (rises o rows) → row_at o (o.key r) rows ≡ None → P rows → P (put o r rows))
      → (rows : List R) → IsTrue (rises o rows) → P rows
  rows_by_put P none step rows up = subst P (sorted_by_same rows up) (sorted rows up)
    where
      sorted : (rows : List R) → IsTrue (rises o rows) → P (sorted_by o rows)
      sorted [] up = none
      sorted (r ∷ rs) up =
          step r (sorted_by o rs) (rises-sorted_by rs)
          (row_at-sorted_by (o.key r) rs ∙ row_at_none o (o.key r) rs (rises_head o r rs up))
          (sorted rs (rises_tail o r rs up))

  pub count_by-sorted_by : (f : R → Bool) (rows : List R) → IsTrue (differ (λ a. has_key o (o.key a)) rows)
      → count_by f (sorted_by o rows) ≡ count_by f rows
  count_by-sorted_by f [] unlike = refl
  count_by-sorted_by f (r ∷ rs) unlike =
      let parts : IsTrue (not (list_any (has_key o (o.key r)) rs)) × IsTrue (differ (λ a. has_key o (o.key a)) rs) =
      and_parts (not (list_any (has_key o (o.key r)) rs)) (differ (λ a. has_key o (o.key a)) rs) unlike in
      let new : is_some (row_at o (o.key r) (sorted_by o rs)) ≡ false =
      ap is_some (row_at-sorted_by (o.key r) rs) ∙ sym (list_any-find (has_key o (o.key r)) rs)
      ∙ false_from_not (list_any (has_key o (o.key r)) rs) parts.0 in
      let one : R → ℕ = λ y. cond (f y) 1 0 in
      count_by-put_new o f r (sorted_by o rs) new ∙ sum_by-cons one r (sorted_by o rs)
      ∙ ap (λ n. one r + n) (count_by-sorted_by f rs parts.1) ∙ sym (sum_by-cons one r rs)

-- ---- a put, and what is made of the rows that are left, sorted by another key

module _ {K L R S : Type 0} (o : Order K R) (e : Order L S) (total : IsTotalOrder e.compare) (f : R → Option S) (q p : R → Bool) (r : R) (s : S) where
  -- a row of another key, from which comes no row of this second key
  abbrev pub IsApart : R → Type 0
  IsApart x =
      (o.compare (o.key r) (o.key x) ≡ Equal → ⊥) ×
      (q x ≡ true → (y : S) → f x ≡ Some y → e.compare (e.key y) (e.key s) ≡ Equal → ⊥)

  pub sorted_by-put : q r ≡ true → f r ≡ Some s → ((x : R) → IsTrue (p x) → IsApart x) → (rows : List R)
      → IsTrue (list_all p rows)
      → sorted_by e (filter_map f (filter q (put o r rows))) ≡ put e s (sorted_by e (filter_map f (filter q rows)))
  sorted_by-put left makes apart [] all =
      ap (λ b. sorted_by e (filter_map f (cond b (r ∷ []) []))) left ∙ ap (λ y. sorted_by e (cons_option y [])) makes
  sorted_by-put left makes apart (x ∷ xs) all =
      by_case (sorted_by-put left makes apart xs parts.1) (apart x parts.0) (o.compare (o.key r) (o.key x)) refl
    where
      parts : IsTrue (p x) × IsTrue (list_all p xs)
      parts = and_parts (p x) (list_all p xs) all

      by_row : sorted_by e (filter_map f (filter q (put o r xs))) ≡ put e s (sorted_by e (filter_map f (filter q xs)))
          → (b : Bool) → (found : Option S)
          → (b ≡ true → (y : S) → found ≡ Some y → e.compare (e.key y) (e.key s) ≡ Equal → ⊥)
          → sorted_by e (cond b (cons_option found (filter_map f (filter q (put o r xs)))) (filter_map f (filter q (put o r xs))))
          ≡ put e s (sorted_by e
          (cond b (cons_option found (filter_map f (filter q xs))) (filter_map f (filter q xs))))
      by_row others false found other = others
      by_row others true None other = others
      by_row others true (Some y) other =
          ap (put e y) others ∙ put_comm e total y s (sorted_by e (filter_map f (filter q xs)))
          (rises-sorted_by e total (filter_map f (filter q xs))) (other refl y refl)

      pulled : (b : Bool) (ys : List R)
          → filter_map f (cond b (x ∷ ys) ys) ≡ cond b (cons_option (f x) (filter_map f ys)) (filter_map f ys)
      pulled true ys = refl
      pulled false ys = refl

      by_case : sorted_by e (filter_map f (filter q (put o r xs))) ≡ put e s (sorted_by e (filter_map f (filter q xs)))
          → (o.compare (o.key r) (o.key x) ≡ Equal → ⊥) × (q x ≡ true → (y : S) → f x ≡ Some y → e.compare (e.key y) (e.key s) ≡ Equal → ⊥)
          → (c : Ordering) → o.compare (o.key r) (o.key x) ≡ c
          → sorted_by e (filter_map f (filter q (elim c [ Less ↦ r ∷ x ∷ xs | Equal ↦ r ∷ xs | Greater ↦ x ∷ put o r xs ])))
          ≡ put e s (sorted_by e (filter_map f (filter q (x ∷ xs))))
      by_case others own Less is =
          ap (λ b. sorted_by e (filter_map f (cond b (r ∷ filter q (x ∷ xs)) (filter q (x ∷ xs))))) left
          ∙ ap (λ y. sorted_by e (cons_option y (filter_map f (filter q (x ∷ xs))))) makes
      by_case others own Equal is = absurd (own.0 is)
      by_case others own Greater is =
          ap (sorted_by e) (pulled (q x) (filter q (put o r xs))) ∙ by_row others (q x) (f x) own.1
          ∙ ap (λ ys. put e s (sorted_by e ys)) (sym (pulled (q x) (filter q xs)))

-- ---- what is found of the rows that are left

module _ {L R S : Type 0} (e : Order L S) (total : IsTotalOrder e.compare) (f : R → Option S) (q p : R → Bool) (l : L) where
  -- where no row that passes makes one of the key
  pub row_at-sorted_by_none : ((x : R) → IsTrue (p x) → q x ≡ true → (y : S) → f x ≡ Some y → e.compare (e.key y) l ≡ Equal → ⊥)
      → (rows : List R) → IsTrue (list_all p rows) → row_at e l (sorted_by e (filter_map f (filter q rows))) ≡ None
  row_at-sorted_by_none apart rows all = row_at-sorted_by e total l (filter_map f (filter q rows)) ∙ unsorted rows all
    where
      unsorted : (rows : List R) → IsTrue (list_all p rows) → row_at e l (filter_map f (filter q rows)) ≡ None
      unsorted [] all = refl
      unsorted (x ∷ xs) all = by_case (unsorted xs parts.1) (q x) refl (f x) refl
        where
          parts : IsTrue (p x) × IsTrue (list_all p xs)
          parts = and_parts (p x) (list_all p xs) all

          other : q x ≡ true → (y : S) → f x ≡ Some y → (b : Bool) → has_key e l y ≡ b → b ≡ false
          other here y is true has =
              absurd (apart x parts.0 here y is (tied_back total l (e.key y) (equal_from_is_eq (e.compare l (e.key y)) has)))
          other here y is false has = refl

          by_case : row_at e l (filter_map f (filter q xs)) ≡ None → (b : Bool) → q x ≡ b → (found : Option S) → f x ≡ found
              → row_at e l (filter_map f (cond b (x ∷ filter q xs) (filter q xs))) ≡ None
          by_case others false here found is = others
          by_case others true here None is = ap (λ y. row_at e l (cons_option y (filter_map f (filter q xs)))) is ∙ others
          by_case others true here (Some y) is =
              ap (λ z. row_at e l (cons_option z (filter_map f (filter q xs)))) is
              ∙ ap (λ b. cond b (Some y) (row_at e l (filter_map f (filter q xs)))) (other here y is (has_key e l y) refl)
              ∙ others

-- ---- a row that is there: it is found, it is deleted, and another is put in its place

module _ {K L R S : Type 0} (o : Order K R) (e : Order L S) (o_total : IsTotalOrder o.compare) (total : IsTotalOrder e.compare)
    (f : R → Option S) (q p : R → Bool) (r : R) (s : S) (left : q r ≡ true) (makes : f r ≡ Some s)
    (apart : (x : R) → IsTrue (p x) → IsApart o e total f q p r s x) (rows : List R) (up : IsTrue (rises o rows))
    (there : row_at o (o.key r) rows ≡ Some r) (all : IsTrue (list_all p (without o (o.key r) rows))) where
  abbrev listed : List R → List S
  listed xs = sorted_by e (filter_map f (filter q xs))

  abbrev rest : List S
  rest = listed (without o (o.key r) rows)

  with_row : listed rows ≡ put e s rest
  with_row =
      ap listed (sym (put-without o o_total r rows up ∙ put_same o o_total r rows up there))
      ∙ sorted_by-put o e total f q p r s left makes apart (without o (o.key r) rows) all

  pub row_at-sorted_by_there : row_at e (e.key s) (sorted_by e (filter_map f (filter q rows))) ≡ Some s
  row_at-sorted_by_there = ap (row_at e (e.key s)) with_row ∙ row_at-put_same e total s rest

  pub sorted_by-without : sorted_by e (filter_map f (filter q (without o (o.key r) rows)))
      ≡ without e (e.key s) (sorted_by e (filter_map f (filter q rows)))
  sorted_by-without =
      sym (ap (without e (e.key s)) with_row
      ∙ without-put_new e total s rest (rises-sorted_by e total (filter_map f (filter q (without o (o.key r) rows))))
      (row_at-sorted_by_none e total f q p (e.key s) (λ x passes. (apart x passes).1) (without o (o.key r) rows) all))

  pub sorted_by-put_there : (new : R) (now : S) → o.key new ≡ o.key r → e.key now ≡ e.key s → q new ≡ true → f new ≡ Some now
      → sorted_by e (filter_map f (filter q (put o new rows))) ≡ put e now (sorted_by e (filter_map f (filter q rows)))
  sorted_by-put_there new now key text own own_makes =
      ap listed (sym (put-without o o_total new rows up) ∙ ap (λ k. put o new (without o k rows)) key)
      ∙ sorted_by-put o e total f q p new now own own_makes
      (λ x passes. (
        λ alike. (apart x passes).0 (ap (λ k. o.compare k (o.key x)) (sym key) ∙ alike),
        λ here y is alike. (apart x passes).1 here y is (ap (e.compare (e.key y)) (sym text) ∙ alike),
      )) (without o (o.key r) rows) all
      ∙ ap (put e now) (sorted_by-without ∙ ap (λ l. without e l (listed rows)) (sym text))
      ∙ put-without e total now (listed rows) (rises-sorted_by e total (filter_map f (filter q rows)))
