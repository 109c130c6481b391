-- What one change makes of the name row with given bytes.
use Rattle.std.proofs.Common.{◌≡◌, List, [], ◌∷◌, Bool, true, false, cond, Option, None, Some, refl, sym, ap, ◌∙◌}
use Rattle.std.specs.Prelude.{IsTrue, not, ◌||◌, find}
use Rattle.std.specs.List.{list_all, list_any}
use Rattle.std.specs.Cmp.{IsTotalOrder}
use Rattle.std.specs.declared.cmp.Ordering.{Ordering}
use Rattle.std.specs.declared.cmp.Ordering.TheVariants.{Less, Equal, Greater}
use Rattle.std.specs.Ordering.{is_eq, is_lt}
use Rattle.std.proofs.lemmas.Bool.{and_from, and_parts}
use Rattle.s3_rows.specs.Keyed.{Order, is_past, has_key, rises, put, without}
use Rattle.s3_rows.specs.Validity.{differ}
use Rattle.row_lemmas.proofs.Tests.{list_all_weaker, false_from_not}
use Rattle.row_lemmas.proofs.Keyed.Rises.{is_past_trans, is_past_same}

-- an option whose value has another key
abbrev pub kept : {K R : Type 0} → Order K R → K → Option R → Option R
kept o k None = None
kept o k (Some r) = cond (has_key o k r) None (Some r)

module _ {K R : Type 0} (o : Order K R) (total : IsTotalOrder o.compare) (alike : R → R → Bool) (q : R → Bool) (like : (x y : R) → IsTrue (q x) → IsTrue (q y) → IsTrue (alike x y)) where
  -- a row that passes is there after a put
  put_any : (r : R) (rows : List R) → IsTrue (q r) → IsTrue (list_any q (put o r rows))
  put_any r [] passes = ap (λ b. b || false) passes
  put_any r (x ∷ xs) passes = by_case (put_any r xs passes) (o.compare (o.key r) (o.key x))
    where
      either : IsTrue (list_any q (put o r xs)) → (b : Bool) → IsTrue (b || list_any q (put o r xs))
      either others true = refl
      either others false = others

      by_case : IsTrue (list_any q (put o r xs)) → (c : Ordering) → IsTrue (list_any q (elim c [ Less ↦ r ∷ x ∷ xs | Equal ↦ r ∷ xs | Greater ↦ x ∷ put o r xs ]))
      by_case others Less = ap (λ b. b || list_any q (x ∷ xs)) passes
      by_case others Equal = ap (λ b. b || list_any q xs) passes
      by_case others Greater = either others (q x)

  -- where one row passes, and it has none alike, no other passes
  alone : (x : R) (rows : List R) → IsTrue (q x) → list_any (alike x) rows ≡ false → list_any q rows ≡ false
  alone x [] passes none = refl
  alone x (y ∷ ys) passes none = by_case (alone x ys passes) (q y) refl
    where
      by_case : (list_any (alike x) ys ≡ false → list_any q ys ≡ false) → (b : Bool) → q y ≡ b → (b || list_any q ys) ≡ false
      by_case others true is =
          let clash : true ≡ false = sym (ap (λ b. b || list_any (alike x) ys) (like x y passes is)) ∙ none in
          absurd (cc clash)
      by_case others false is = others (rest (alike x y) none)
        where
          rest : (b : Bool) → (b || list_any (alike x) ys) ≡ false → list_any (alike x) ys ≡ false
          rest true none = absurd (cc none)
          rest false none = none

  -- a row that is put and passes is the one that is found
  pub put_is_found : (r : R) (rows : List R) → IsTrue (q r) → IsTrue (differ alike (put o r rows)) → find q (put o r rows) ≡ Some r
  put_is_found r [] passes unlike = ap (λ b. cond b (Some r) None) passes
  put_is_found r (x ∷ xs) passes unlike = by_case (put_is_found r xs passes) (put_any r xs passes) (o.compare (o.key r) (o.key x)) unlike
    where
      by_case : (IsTrue (differ alike (put o r xs)) → find q (put o r xs) ≡ Some r) → IsTrue (list_any q (put o r xs)) → (c : Ordering)
          → IsTrue (differ alike (elim c [ Less ↦ r ∷ x ∷ xs | Equal ↦ r ∷ xs | Greater ↦ x ∷ put o r xs ])) → find q (elim c [ Less ↦ r ∷ x ∷ xs | Equal ↦ r ∷ xs | Greater ↦ x ∷ put o r xs ]) ≡ Some r
      by_case others any Less apart = ap (λ b. cond b (Some r) (find q (x ∷ xs))) passes
      by_case others any Equal apart = ap (λ b. cond b (Some r) (find q xs)) passes
      by_case others any Greater apart = own (q x) refl
        where
          own : (b : Bool) → q x ≡ b → cond b (Some x) (find q (put o r xs)) ≡ Some r
          own true is =
              let none : list_any q (put o r xs) ≡ false = alone x (put o r xs) is (false_from_not (list_any (alike x) (put o r xs)) (and_parts (not (list_any (alike x) (put o r xs))) (differ alike (put o r xs)) apart).0) in
              let clash : true ≡ false = sym any ∙ none in
              absurd (cc clash)
          own false is = others (and_parts (not (list_any (alike x) (put o r xs))) (differ alike (put o r xs)) apart).1

  no_row : (rows : List R) → list_any q rows ≡ false → find q rows ≡ None
  no_row [] none = refl
  no_row (x ∷ xs) none = by_case (no_row xs) (q x) none
    where
      by_case : (list_any q xs ≡ false → find q xs ≡ None) → (b : Bool) → (b || list_any q xs) ≡ false → cond b (Some x) (find q xs) ≡ None
      by_case others true is = absurd (cc is)
      by_case others false is = others is

  no_other : (x : R) (xs : List R) → IsTrue (q x) → IsTrue (differ alike (x ∷ xs)) → find q xs ≡ None
  no_other x xs passes unlike = no_row xs (alone x xs passes (false_from_not (list_any (alike x) xs) (and_parts (not (list_any (alike x) xs)) (differ alike xs) unlike).0))

  -- rows past a key have other keys
  all_later : (k : K) (rows : List R) → IsTrue (list_all (is_past o k) rows) → kept o k (find q rows) ≡ find q rows
  all_later k [] past = refl
  all_later k (x ∷ xs) past = by_case (all_later k xs (and_parts (is_past o k x) (list_all (is_past o k) xs) past).1) (q x)
    where
      apart : (c : Ordering) → IsTrue (is_lt c) → cond (is_eq c) None (Some x) ≡ Some x
      apart Less is = refl
      apart Equal is = absurd (cc is)
      apart Greater is = absurd (cc is)

      by_case : kept o k (find q xs) ≡ find q xs → (b : Bool) → kept o k (cond b (Some x) (find q xs)) ≡ cond b (Some x) (find q xs)
      by_case others true = apart (o.compare k (o.key x)) (and_parts (is_past o k x) (list_all (is_past o k) xs) past).0
      by_case others false = others

  -- a row that is put and does not pass takes the row of its key away
  pub put_takes : (r : R) (rows : List R) → q r ≡ false → IsTrue (rises o rows) → IsTrue (differ alike rows) → find q (put o r rows) ≡ kept o (o.key r) (find q rows)
  put_takes r [] fails rise unlike = ap (λ b. cond b (Some r) None) fails
  put_takes r (x ∷ xs) fails rise unlike =
      by_case (put_takes r xs fails (and_parts (list_all (is_past o (o.key x)) xs) (rises o xs) rise).1 (and_parts (not (list_any (alike x) xs)) (differ alike xs) unlike).1) (o.compare (o.key r) (o.key x)) refl
    where
      later : IsTrue (list_all (is_past o (o.key x)) xs)
      later = (and_parts (list_all (is_past o (o.key x)) xs) (rises o xs) rise).0

      by_case : find q (put o r xs) ≡ kept o (o.key r) (find q xs) → (c : Ordering) → o.compare (o.key r) (o.key x) ≡ c
          → find q (elim c [ Less ↦ r ∷ x ∷ xs | Equal ↦ r ∷ xs | Greater ↦ x ∷ put o r xs ]) ≡ kept o (o.key r) (cond (q x) (Some x) (find q xs))
      by_case others Less is =
          ap (λ b. cond b (Some r) (find q (x ∷ xs))) fails
          ∙ sym (all_later (o.key r) (x ∷ xs) (and_from (is_past o (o.key r) x) (list_all (is_past o (o.key r)) xs) (ap is_lt is) (list_all_weaker (is_past o (o.key x)) (is_past o (o.key r)) (λ y. is_past_trans o total (o.key r) (o.key x) y is) xs later)))
      by_case others Equal is = ap (λ b. cond b (Some r) (find q xs)) fails ∙ own (q x) refl
        where
          own : (b : Bool) → q x ≡ b → find q xs ≡ kept o (o.key r) (cond b (Some x) (find q xs))
          own true passes = no_other x xs passes unlike ∙ ap (λ c. cond (is_eq c) None (Some x)) (sym is)
          own false passes = sym (all_later (o.key r) xs (list_all_weaker (is_past o (o.key x)) (is_past o (o.key r)) (λ y. is_past_same o total (o.key r) (o.key x) y is) xs later))
      by_case others Greater is = own (q x)
        where
          own : (b : Bool) → cond b (Some x) (find q (put o r xs)) ≡ kept o (o.key r) (cond b (Some x) (find q xs))
          own true = ap (λ c. cond (is_eq c) None (Some x)) (sym is)
          own false = others

  -- a delete takes the row of its key away
  pub without_takes : (k : K) (rows : List R) → IsTrue (differ alike rows) → find q (without o k rows) ≡ kept o k (find q rows)
  without_takes k [] unlike = refl
  without_takes k (x ∷ xs) unlike = by_case (without_takes k xs (and_parts (not (list_any (alike x) xs)) (differ alike xs) unlike).1) (has_key o k x) refl (q x) refl
    where
      by_case : find q (without o k xs) ≡ kept o k (find q xs) → (b : Bool) → has_key o k x ≡ b → (d : Bool) → q x ≡ d
          → find q (cond (not b) (x ∷ without o k xs) (without o k xs)) ≡ kept o k (cond d (Some x) (find q xs))
      by_case others true is true passes = others ∙ ap (kept o k) (no_other x xs passes unlike) ∙ ap (λ b. cond b None (Some x)) (sym is)
      by_case others true is false passes = others
      by_case others false is true passes = ap (λ b. cond b (Some x) (find q (without o k xs))) passes ∙ ap (λ b. cond b None (Some x)) (sym is)
      by_case others false is false passes = ap (λ b. cond b (Some x) (find q (without o k xs))) passes ∙ others
