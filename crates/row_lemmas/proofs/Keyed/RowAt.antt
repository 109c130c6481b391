-- The row of a key among rows that rise, and that rows with the same look-ups are the same rows.
use Rattle.std.proofs.Common.{◌≡◌, List, [], ◌∷◌, Bool, true, false, cond, None, Some, refl, sym, ap, ◌∙◌, subst}
use Rattle.std.specs.Prelude.{IsTrue, find}
use Rattle.std.specs.List.{list_all, AllByRecursion}
use Rattle.std.specs.Cmp.{IsTotalOrder, tied_itself}
use Rattle.std.specs.declared.cmp.Ordering.{Ordering}
use Rattle.std.specs.declared.cmp.Ordering.TheVariants.{Less, Equal, Greater}
use Rattle.std.specs.Ordering.{is_eq}
use Rattle.std.proofs.lemmas.Bool.{and_from}
use Rattle.s3_rows.specs.Keyed.{Order, is_past, has_key, rises, row_at}
use Rattle.row_lemmas.proofs.Tests.{less_from_is_lt, equal_from_is_eq, find_passes, find_passes_all, find_none}
use Rattle.row_lemmas.proofs.Keyed.Rises.{rises_head, rises_tail, compare_less_back, compare_greater_back, rises_below, rises_behind}

module _ {K R : Type 0} (o : Order K R) where
  -- a row that is found has the key
  pub row_at_key : (k : K) (rows : List R) (r : R) → row_at o k rows ≡ Some r → o.compare k (o.key r) ≡ Equal
  row_at_key k rows r found = equal_from_is_eq (o.compare k (o.key r)) (find_passes (has_key o k) rows r found)

  -- and passes a test that all pass
  pub row_at_passes : (p : R → Bool) (k : K) (rows : List R) (r : R) → IsTrue (list_all p rows)
      → row_at o k rows ≡ Some r → IsTrue (p r)
  row_at_passes p k rows r all found = find_passes_all (has_key o k) p rows r all found

  -- and meets what all meet
  pub row_at_meets : (P : R → Type 0) (k : K) (rows : List R) (r : R) → AllByRecursion P rows
      → row_at o k rows ≡ Some r → P r
  row_at_meets P k [] r all found = absurd (cc found)
  row_at_meets P k (x ∷ xs) r all found = by_case (row_at_meets P k xs r all.1) (has_key o k x) found
    where
      by_case : (row_at o k xs ≡ Some r → P r) → (b : Bool) → cond b (Some x) (row_at o k xs) ≡ Some r → P r
      by_case others true is =
          let same : x ≡ r = cc is in
          subst P same all.0
      by_case others false is = others is

  -- no row has a key that all rows are past
  pub row_at_none : (k : K) (rows : List R) → IsTrue (list_all (is_past o k) rows) → row_at o k rows ≡ None
  row_at_none k rows all =
      find_none (has_key o k) (is_past o k)
      (λ r past. ap is_eq (less_from_is_lt (o.compare k (o.key r)) past)) rows all

  pub row_at_none_found : {X : Type 0} (k : K) (rows : List R) (r : R) → IsTrue (list_all (is_past o k) rows)
      → row_at o k rows ≡ Some r → X
  row_at_none_found k rows r all found =
      let clash : None ≡ Some r = sym (row_at_none k rows all) ∙ found in
      absurd (cc clash)

  -- the first row has another key
  pub row_at_next : (k : K) (x : R) (xs : List R) → has_key o k x ≡ false → row_at o k (x ∷ xs) ≡ row_at o k xs
  row_at_next k x xs other = ap (λ b. cond b (Some x) (row_at o k xs)) other

  module _ (total : IsTotalOrder o.compare) where
    pub has_key_same : (r : R) → IsTrue (has_key o (o.key r) r)
    has_key_same r = ap is_eq (tied_itself total (o.key r))

    pub row_at_head : (x : R) (xs : List R) → row_at o (o.key x) (x ∷ xs) ≡ Some x
    row_at_head x xs = ap (λ b. cond b (Some x) (row_at o (o.key x) xs)) (has_key_same x)

    -- tied keys have one row
    pub row_at_tied : (j k : K) (rows : List R) → o.compare j k ≡ Equal → row_at o j rows ≡ row_at o k rows
    row_at_tied j k [] same = refl
    row_at_tied j k (x ∷ xs) same =
        λ i. cond (is_eq (total.congr j k (o.key x) same i)) (Some x) (row_at_tied j k xs same i)

    pub row_at_below : (k : K) (x : R) (xs : List R) → IsTrue (rises o (x ∷ xs)) → o.compare k (o.key x) ≡ Less
        → row_at o k (x ∷ xs) ≡ None
    row_at_below k x xs up below = row_at_none k (x ∷ xs) (rises_below o total k x xs up below)

    -- no row behind the first has its key
    pub row_at_behind : (k : K) (x : R) (xs : List R) → IsTrue (rises o (x ∷ xs)) → o.compare k (o.key x) ≡ Equal
        → row_at o k xs ≡ None
    row_at_behind k x xs up same = row_at_none k xs (rises_behind o total k x xs up same)

    -- a later row has another key than the first
    has_key_later : (x r : R) → IsTrue (is_past o (o.key x) r) → has_key o (o.key r) x ≡ false
    has_key_later x r past =
        ap is_eq (compare_less_back o total (o.key x) (o.key r)
        (less_from_is_lt (o.compare (o.key x) (o.key r)) past))

    -- what is found among later rows is found among all
    pub row_at_later : (k : K) (x : R) (xs : List R) (r : R) → IsTrue (rises o (x ∷ xs)) → row_at o k xs ≡ Some r
        → row_at o k (x ∷ xs) ≡ Some r
    row_at_later k x xs r up found =
        let other : has_key o (o.key r) x ≡ false =
        has_key_later x r (row_at_passes (is_past o (o.key x)) k xs r (rises_head o x xs up) found) in
        row_at_next k x xs (ap is_eq (total.congr k (o.key r) (o.key x) (row_at_key k xs r found)) ∙ other) ∙ found

    -- what any test finds is found by its own key
    pub row_at_from_find : (q : R → Bool) (rows : List R) (n : R) → IsTrue (rises o rows) → find q rows ≡ Some n
        → row_at o (o.key n) rows ≡ Some n
    row_at_from_find q [] n up is = absurd (cc is)
    row_at_from_find q (x ∷ xs) n up is = by_case (row_at_from_find q xs n (rises_tail o x xs up)) (q x) is
      where
        by_case : (find q xs ≡ Some n → row_at o (o.key n) xs ≡ Some n) → (b : Bool)
            → cond b (Some x) (find q xs) ≡ Some n → row_at o (o.key n) (x ∷ xs) ≡ Some n
        by_case others true found =
            let same : x ≡ n = cc found in
            subst (λ y. row_at o (o.key y) (x ∷ xs) ≡ Some y) same (row_at_head x xs)
        by_case others false found = row_at_later (o.key n) x xs n up (others found)

    -- each row is found by its own key
    pub row_at_own : (rows : List R) → IsTrue (rises o rows)
        → AllByRecursion (λ r. row_at o (o.key r) rows ≡ Some r) rows
    row_at_own [] up = tt
    row_at_own (x ∷ xs) up = (row_at_head x xs, behind xs (row_at_own xs (rises_tail o x xs up)))
      where
        behind : (ys : List R) → AllByRecursion (λ r. row_at o (o.key r) xs ≡ Some r) ys
            → AllByRecursion (λ r. row_at o (o.key r) (x ∷ xs) ≡ Some r) ys
        behind [] all = tt
        behind (y ∷ ys) all = (row_at_later (o.key y) x xs y up all.0, behind ys all.1)

    -- what every row that is found passes, all pass
    pub list_all_from_row_at : (p : R → Bool) (rows : List R) → IsTrue (rises o rows)
        → ((k : K) (r : R) → row_at o k rows ≡ Some r → IsTrue (p r)) → IsTrue (list_all p rows)
    list_all_from_row_at p [] up each = refl
    list_all_from_row_at p (x ∷ xs) up each =
        and_from (p x) (list_all p xs) (each (o.key x) x (row_at_head x xs))
        (list_all_from_row_at p xs (rises_tail o x xs up) (λ k r found. each k r (row_at_later k x xs r up found)))

    -- ---- the same rows

    -- the rows behind one row have the same look-ups
    same_behind : (x : R) (xs ys : List R) → IsTrue (rises o (x ∷ xs)) → IsTrue (rises o (x ∷ ys))
        → ((k : K) → row_at o k (x ∷ xs) ≡ row_at o k (x ∷ ys)) → (k : K) → row_at o k xs ≡ row_at o k ys
    same_behind x xs ys up up_too same k = by_case (o.compare k (o.key x)) refl
      where
        apart : has_key o k x ≡ false → row_at o k xs ≡ row_at o k ys
        apart other = sym (row_at_next k x xs other) ∙ same k ∙ row_at_next k x ys other

        by_case : (c : Ordering) → o.compare k (o.key x) ≡ c → row_at o k xs ≡ row_at o k ys
        by_case Less is = apart (ap is_eq is)
        by_case Equal is = row_at_behind k x xs up is ∙ sym (row_at_behind k x ys up_too is)
        by_case Greater is = apart (ap is_eq is)

    clash : {X : Type 0} (x : R) (xs rows : List R) → row_at o (o.key x) (x ∷ xs) ≡ row_at o (o.key x) rows
        → row_at o (o.key x) rows ≡ None → X
    clash x xs rows same none =
        let wrong : Some x ≡ None = sym (row_at_head x xs) ∙ same ∙ none in
        absurd (cc wrong)

    -- rows with the same look-ups are the same rows
    pub same_from_row_at : (xs ys : List R) → IsTrue (rises o xs) → IsTrue (rises o ys)
        → ((k : K) → row_at o k xs ≡ row_at o k ys) → xs ≡ ys
    same_from_row_at [] [] up up_too same = refl
    same_from_row_at [] (y ∷ ys) up up_too same = clash y ys [] (sym (same (o.key y))) refl
    same_from_row_at (x ∷ xs) [] up up_too same = clash x xs [] (same (o.key x)) refl
    same_from_row_at (x ∷ xs) (y ∷ ys) up up_too same =
        by_case (λ later. same_from_row_at xs ys (rises_tail o x xs up) (rises_tail o y ys up_too) later)
        (o.compare (o.key x) (o.key y)) refl
      where
        by_case : (((k : K) → row_at o k xs ≡ row_at o k ys) → xs ≡ ys) → (c : Ordering)
            → o.compare (o.key x) (o.key y) ≡ c → x ∷ xs ≡ y ∷ ys
        by_case rest Less is = clash x xs (y ∷ ys) (same (o.key x)) (row_at_below (o.key x) y ys up_too is)
        by_case rest Greater is =
            clash y ys (x ∷ xs) (sym (same (o.key y)))
            (row_at_below (o.key y) x xs up (compare_greater_back o total (o.key x) (o.key y) is))
        by_case rest Equal is =
            let first : Some x ≡ Some y =
            sym (row_at_head x xs) ∙ same (o.key x) ∙ ap (λ c. cond (is_eq c) (Some y) (row_at o (o.key x) ys)) is in
            let one : y ≡ x = cc first in
            let later : (k : K) → row_at o k xs ≡ row_at o k ys =
            same_behind x xs ys up (subst (λ z. IsTrue (rises o (z ∷ ys))) one up_too)
            (λ k. same k ∙ ap (λ z. row_at o k (z ∷ ys)) one) in
            λ i. sym one i ∷ rest later i
