-- What a search by halves says of the row of a key. The rows that are searched are the stored ones.
use Rattle.std.proofs.Common.{◌≡◌, ℕ, List, length, get_or, set, Some, None, Result, Ok, Err, OnOk, IfOk, IfErr, sym, ap, subst, ◌∙◌}
use Rattle.std.specs.Prelude.{IsTrue}
use Rattle.std.specs.List.{insert, remove}
use Rattle.std.specs.List.Sorted.{IsSearchInRange, IsBinarySearchResult}
use Rattle.std.specs.Cmp.{IsTotalOrder}
use Rattle.s3_rows.specs.Keyed.{Order, rises, row_at, put, without}
use Rattle.row_lemmas.proofs.Keyed.Put.{rises-put}
use Rattle.row_lemmas.proofs.Keyed.Place.{put-Stands, put-GoesAt, without-Stands, without-GoesAt, row_at-Stands, row_at-GoesAt, Stands_from_search}

module _ {K R : Type 0} (o : Order K R) (total : IsTotalOrder o.compare) where
  -- the place that is found has the row
  pub row_at_found : (k : K) (rows stored : List R) (i : ℕ) (x : R) → rows ≡ stored → IsTrue (rises o stored)
      → (let r : Result ℕ ℕ = Ok i in IsSearchInRange r (length rows))
      → (let r : Result ℕ ℕ = Ok i in IsBinarySearchResult (λ y. o.compare (o.key y) k) rows r)
      → x ≡ get_or rows i x → Some x ≡ row_at o k stored
  row_at_found k rows stored i x same up within found is =
      let risen : IsTrue (rises o rows) = let P : List R → Type 0 = λ l. IsTrue (rises o l) in subst P (sym same) up in
      let stands = (Stands_from_search o total k rows (Ok i) risen within found).0 in
      ap Some is ∙ sym (row_at-Stands o k rows i x stands) ∙ ap (λ l. row_at o k l) same

  -- no row has the key where none is found
  pub row_at_missed : (k : K) (rows stored : List R) (i : ℕ) → rows ≡ stored → IsTrue (rises o stored)
      → (let r : Result ℕ ℕ = Err i in IsSearchInRange r (length rows))
      → (let r : Result ℕ ℕ = Err i in IsBinarySearchResult (λ y. o.compare (o.key y) k) rows r) → None ≡ row_at o k stored
  row_at_missed k rows stored i same up within found =
      let risen : IsTrue (rises o rows) = let P : List R → Type 0 = λ l. IsTrue (rises o l) in subst P (sym same) up in
      let goes = (Stands_from_search o total k rows (Err i) risen within found).1 in
      sym (row_at-GoesAt o total k rows i risen goes) ∙ ap (λ l. row_at o k l) same

  -- a row that is put at the place that was searched stands in the order
  put_at_place : (r : R) (rows new : List R) (place : Result ℕ ℕ) → IsTrue (rises o rows) → IsSearchInRange place (length rows)
      → IsBinarySearchResult (λ y. o.compare (o.key y) (o.key r)) rows place → IfOk place (λ i. new ≡ set rows i r)
      → IfErr place (λ i. new ≡ insert rows i r) → new ≡ put o r rows
  put_at_place r rows new (Ok i) up within found ok err =
      ok ∙ sym (put-Stands o r rows i (Stands_from_search o total (o.key r) rows (Ok i) up within found).0)
  put_at_place r rows new (Err i) up within found ok err =
      err ∙ sym (put-GoesAt o r rows i (Stands_from_search o total (o.key r) rows (Err i) up within found).1)

  pub put_from_search : {A E : Type 0} (r : R) (k : K) (searched rows new : List R) (place : Result ℕ ℕ) (result : Result A E)
      → k ≡ o.key r → searched ≡ rows → IsTrue (rises o rows) → IsSearchInRange place (length searched)
      → IsBinarySearchResult (λ y. o.compare (o.key y) k) searched place
      → OnOk result (IfOk place (λ i. new ≡ set rows i r)) → OnOk result (IfErr place (λ i. new ≡ insert rows i r))
      → OnOk result (new ≡ put o r rows)
  put_from_search r k searched rows new place (Err e) own same up within found ok err = tt
  put_from_search r k searched rows new place (Ok x) own same up within found ok err =
      let P : List R → K → Type 0 = λ l j. IsSearchInRange place (length l) × IsBinarySearchResult (λ y. o.compare (o.key y) j) l place in
      let first = subst (λ l. P l k) same (within, found) in
      let both = subst (λ j. P rows j) own first in
      put_at_place r rows new place up both.0 both.1 ok err

  pub rises_when_put : {A E : Type 0} (r : R) (rows new : List R) (result : Result A E) → IsTrue (rises o rows)
      → OnOk result (new ≡ put o r rows) → OnOk result (IsTrue (rises o new))
  rises_when_put r rows new (Err e) up is = tt
  rises_when_put r rows new (Ok x) up is = ap (λ l. rises o l) is ∙ rises-put o total r rows up

  -- and a row that is taken from it is gone
  pub without_from_search : (k : K) (searched rows new : List R) (place : Result ℕ ℕ) → searched ≡ rows → IsTrue (rises o rows)
      → IsSearchInRange place (length searched) → IsBinarySearchResult (λ y. o.compare (o.key y) k) searched place
      → IfOk place (λ i. new ≡ remove rows i) → IfErr place (λ i. new ≡ rows) → new ≡ without o k rows
  without_from_search k searched rows new (Ok i) same up within found ok err =
      let r : Result ℕ ℕ = Ok i in
      let P : List R → Type 0 = λ l. IsSearchInRange r (length l) × IsBinarySearchResult (λ y. o.compare (o.key y) k) l r in
      let both = subst P same (within, found) in
      ok ∙ sym (without-Stands o total k rows i up (Stands_from_search o total k rows (Ok i) up both.0 both.1).0)
  without_from_search k searched rows new (Err i) same up within found ok err =
      let r : Result ℕ ℕ = Err i in
      let P : List R → Type 0 = λ l. IsSearchInRange r (length l) × IsBinarySearchResult (λ y. o.compare (o.key y) k) l r in
      let both = subst P same (within, found) in
      err ∙ sym (without-GoesAt o total k rows i up (Stands_from_search o total k rows (Err i) up both.0 both.1).1)
