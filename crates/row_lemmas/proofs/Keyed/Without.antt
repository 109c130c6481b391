-- What a delete makes of rows.
use Rattle.std.proofs.Common.{◌≡◌, List, [], ◌∷◌, map, Bool, true, false, cond, Option, None, Some, refl, sym, ap, ◌∙◌, subst}
use Rattle.std.specs.Prelude.{IsTrue, not, is_some}
use Rattle.std.specs.List.{list_all, list_any}
use Rattle.std.specs.Map.{remove_entry}
use Rattle.std.specs.BTreeMap.{is_at}
use Rattle.std.proofs.lemmas.Bool.{and_from, and_parts}
use Rattle.std.specs.Cmp.{IsTotalOrder, tied_itself, tied_back}
use Rattle.std.specs.declared.cmp.Ordering.{Ordering}
use Rattle.std.specs.declared.cmp.Ordering.TheVariants.{Less, Equal, Greater}
use Rattle.std.specs.Ordering.{is_eq, ordering_reverse}
use Rattle.s3_rows.specs.Keyed.{Order, has_key, rises, put, without, row_at}
use Rattle.s3_rows.specs.Validity.{differ}
use Rattle.row_lemmas.proofs.Tests.{equal_from_is_eq, list_all-filter, list_all_from_list_any, list_any_from_find, filter-filter_same}
use Rattle.row_lemmas.proofs.Keyed.Rises.{rises_tail, rises-without}
use Rattle.row_lemmas.proofs.Keyed.RowAt.{row_at_behind, row_at_tied, same_from_row_at}
use Rattle.row_lemmas.proofs.Keyed.Put.{rises-put, row_at-put}

module _ {K R : Type 0} (o : Order K R) where
  pub list_all-without : (p : R → Bool) (k : K) (rows : List R) → IsTrue (list_all p rows)
      → IsTrue (list_all p (without o k rows))
  list_all-without p k rows all = list_all-filter (λ r. not (has_key o k r)) p rows all

  pub without-without : (k : K) (rows : List R) → without o k (without o k rows) ≡ without o k rows
  without-without k rows = filter-filter_same (λ r. not (has_key o k r)) rows

  -- where no row has the key, a delete leaves all
  pub without_none : (k : K) (rows : List R) → is_some (row_at o k rows) ≡ false → without o k rows ≡ rows
  without_none k [] absent = refl
  without_none k (r ∷ rs) absent = by_case (without_none k rs) (has_key o k r) absent
    where
      by_case : (is_some (row_at o k rs) ≡ false → without o k rs ≡ rs) → (b : Bool)
          → is_some (cond b (Some r) (row_at o k rs)) ≡ false
          → cond (not b) (r ∷ without o k rs) (without o k rs) ≡ r ∷ rs
      by_case others true none = absurd (cc none)
      by_case others false none = ap (λ xs. r ∷ xs) (others none)

  -- of rows that differ, those of other keys are unlike the one of a key
  pub list_all-without_unlike : (alike : R → R → Bool) → ((a b : R) → alike a b ≡ alike b a) → (k : K) (c : R)
      (rows : List R) → IsTrue (differ alike rows) → row_at o k rows ≡ Some c
      → IsTrue (list_all (λ x. not (alike c x)) (without o k rows))
  list_all-without_unlike alike turned k c [] unlike there = refl
  list_all-without_unlike alike turned k c (x ∷ xs) unlike there =
      by_case (list_all-without_unlike alike turned k c xs parts.1) (has_key o k x) there
    where
      parts : IsTrue (not (list_any (alike x) xs)) × IsTrue (differ alike xs)
      parts = and_parts (not (list_any (alike x) xs)) (differ alike xs) unlike

      first : row_at o k xs ≡ Some c → (b : Bool) → alike c x ≡ b → IsTrue (not b)
      first found true is =
          let any : IsTrue (list_any (alike x) xs) =
          list_any_from_find (has_key o k) (alike x) xs c found (turned x c ∙ is) in
          let clash : false ≡ true = sym (ap not any) ∙ parts.0 in
          absurd (cc clash)
      first found false is = refl

      by_case : (row_at o k xs ≡ Some c → IsTrue (list_all (λ y. not (alike c y)) (without o k xs))) → (b : Bool)
          → cond b (Some x) (row_at o k xs) ≡ Some c
          → IsTrue (list_all (λ y. not (alike c y)) (cond (not b) (x ∷ without o k xs) (without o k xs)))
      by_case others true found =
          let same : x ≡ c = cc found in
          subst (λ y. IsTrue (list_all (λ z. not (alike y z)) (without o k xs))) same
          (list_all-filter (λ r. not (has_key o k r)) (λ z. not (alike x z)) xs
          (list_all_from_list_any (alike x) xs parts.0))
      by_case others false found =
          and_from (not (alike c x)) (list_all (λ y. not (alike c y)) (without o k xs)) (first found (alike c x) refl)
          (others found)

  module _ (total : IsTotalOrder o.compare) where
    -- ---- entries by key

    -- a delete removes what is told of the row of its key
    pub map-without_entry : {X : Type 0} (f : R → X) (k : K) (rows : List R) → IsTrue (rises o rows)
        → map (λ x. (o.key x, f x)) (without o k rows)
        ≡ remove_entry (is_at (o.compare k)) (map (λ x. (o.key x, f x)) rows)
    map-without_entry f k [] up = refl
    map-without_entry {X} f k (x ∷ xs) up =
        by_case (map-without_entry f k xs (rises_tail o x xs up)) (has_key o k x) refl
      where
        told : R → K × X
        told y = (o.key y, f y)

        by_case : map told (without o k xs) ≡ remove_entry (is_at (o.compare k)) (map told xs) → (b : Bool)
            → has_key o k x ≡ b
            → map told (cond (not b) (x ∷ without o k xs) (without o k xs))
            ≡ cond b (map told xs) (told x ∷ remove_entry (is_at (o.compare k)) (map told xs))
        by_case others true is =
            ap (map told) (without_none k xs
            (ap is_some (row_at_behind o total k x xs up (equal_from_is_eq (o.compare k (o.key x)) is))))
        by_case others false is = ap (λ es. told x ∷ es) others

    -- ---- row_at

    pub row_at-without : (j k : K) (rows : List R)
        → row_at o k (without o j rows) ≡ cond (is_eq (o.compare j k)) None (row_at o k rows)
    row_at-without j k [] = by_case (is_eq (o.compare j k))
      where
        by_case : (b : Bool) → let none : Option R = None in none ≡ cond b none none
        by_case true = refl
        by_case false = refl
    row_at-without j k (x ∷ xs) =
        by_case (row_at-without j k xs) (has_key o j x) (has_key o k x) (is_eq (o.compare j k)) refl refl refl
      where
        -- of two keys that a row has each ties with the other
        two : IsTrue (has_key o j x) → IsTrue (has_key o k x) → IsTrue (is_eq (o.compare j k))
        two jx kx =
            let left : o.compare j (o.key x) ≡ Equal = equal_from_is_eq (o.compare j (o.key x)) jx in
            let right : o.compare k (o.key x) ≡ Equal = equal_from_is_eq (o.compare k (o.key x)) kx in
            ap is_eq (total.congr j (o.key x) k left ∙ tied_back total k (o.key x) right)

        tied : IsTrue (is_eq (o.compare j k)) → has_key o j x ≡ has_key o k x
        tied jk = ap is_eq (total.congr j k (o.key x) (equal_from_is_eq (o.compare j k) jk))

        by_case : row_at o k (without o j xs) ≡ cond (is_eq (o.compare j k)) None (row_at o k xs) → (b c d : Bool)
            → has_key o j x ≡ b → has_key o k x ≡ c → is_eq (o.compare j k) ≡ d
            → row_at o k (cond (not b) (x ∷ without o j xs) (without o j xs))
            ≡ cond d None (cond c (Some x) (row_at o k xs))
        by_case others true true true jx kx jk = others ∙ ap (λ b. cond b None (row_at o k xs)) jk
        by_case others true true false jx kx jk =
            let clash : true ≡ false = sym (two jx kx) ∙ jk in
            absurd (cc clash)
        by_case others true false true jx kx jk = others ∙ ap (λ b. cond b None (row_at o k xs)) jk
        by_case others true false false jx kx jk = others ∙ ap (λ b. cond b None (row_at o k xs)) jk
        by_case others false true true jx kx jk =
            let clash : false ≡ true = sym jx ∙ tied jk ∙ kx in
            absurd (cc clash)
        by_case others false true false jx kx jk = ap (λ b. cond b (Some x) (row_at o k (without o j xs))) kx
        by_case others false false true jx kx jk =
            ap (λ b. cond b (Some x) (row_at o k (without o j xs))) kx ∙ others
            ∙ ap (λ b. cond b None (row_at o k xs)) jk
        by_case others false false false jx kx jk =
            ap (λ b. cond b (Some x) (row_at o k (without o j xs))) kx ∙ others
            ∙ ap (λ b. cond b None (row_at o k xs)) jk

    pub row_at-without_same : (k : K) (rows : List R) → row_at o k (without o k rows) ≡ None
    row_at-without_same k rows =
        row_at-without k k rows ∙ ap (λ c. cond (is_eq c) None (row_at o k rows)) (tied_itself total k)

    pub row_at-without_other : (j k : K) (rows : List R) → is_eq (o.compare j k) ≡ false
        → row_at o k (without o j rows) ≡ row_at o k rows
    row_at-without_other j k rows other = row_at-without j k rows ∙ ap (λ b. cond b None (row_at o k rows)) other

    -- ---- put and without

    turned : (r : R) (k : K) → is_eq (o.compare (o.key r) k) ≡ has_key o k r
    turned r k = ap is_eq (total.antisymm (o.key r) k) ∙ back (o.compare k (o.key r))
      where
        back : (c : Ordering) → is_eq (ordering_reverse c) ≡ is_eq c
        back Less = refl
        back Equal = refl
        back Greater = refl

    -- a delete undoes a put of a new key
    pub without-put_new : (r : R) (rows : List R) → IsTrue (rises o rows) → row_at o (o.key r) rows ≡ None
        → without o (o.key r) (put o r rows) ≡ rows
    without-put_new r rows up none =
        same_from_row_at o total (without o (o.key r) (put o r rows)) rows
        (rises-without o (o.key r) (put o r rows) (rises-put o total r rows up)) up
        (λ k. row_at-without (o.key r) k (put o r rows)
        ∙ ap (λ b. cond b None (row_at o k (put o r rows))) (turned r k)
        ∙ ap (λ found. cond (has_key o k r) None found) (row_at-put o total k r rows) ∙ own k (has_key o k r) refl)
      where
        own : (k : K) (b : Bool) → has_key o k r ≡ b
            → cond b None (cond b (Some r) (row_at o k rows)) ≡ row_at o k rows
        own k true is =
            sym (row_at_tied o total k (o.key r) rows (equal_from_is_eq (o.compare k (o.key r)) is) ∙ none)
        own k false is = refl

    -- a put over a delete of its key is a put
    pub put-without : (r : R) (rows : List R) → IsTrue (rises o rows)
        → put o r (without o (o.key r) rows) ≡ put o r rows
    put-without r rows up =
        same_from_row_at o total (put o r (without o (o.key r) rows)) (put o r rows)
        (rises-put o total r (without o (o.key r) rows) (rises-without o (o.key r) rows up))
        (rises-put o total r rows up)
        (λ k. row_at-put o total k r (without o (o.key r) rows)
        ∙ ap (λ found. cond (has_key o k r) (Some r) found)
        (row_at-without (o.key r) k rows ∙ ap (λ b. cond b None (row_at o k rows)) (turned r k))
        ∙ own k (has_key o k r) ∙ sym (row_at-put o total k r rows))
      where
        own : (k : K) (b : Bool) → cond b (Some r) (cond b None (row_at o k rows)) ≡ cond b (Some r) (row_at o k rows)
        own k true = refl
        own k false = refl
