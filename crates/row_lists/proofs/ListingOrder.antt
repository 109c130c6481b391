-- Parts of rows in the order of their keys that pass a test.
use Rattle.std.proofs.Common.{◌≡◌, ℕ, zero, suc, ◌≤◌, List, [], ◌∷◌, Bool, true, false, not, ◌&&◌, cond, refl, sym, ap, ◌∙◌, subst, arith, length, take, drop, get_or, inl, inr}
use Rattle.std.specs.Prelude.{nat_le}
use Rattle.std.specs.List.{filter, list_all}
use Rattle.std.specs.List.Sorted.{IsPartitionedBy, IsPartitionPoint}
use Rattle.std.proofs.Math.Nat.{min-le_left}
use Rattle.std.proofs.lemmas.Bool.{and_from, cases_lt, le-leb, cond-true, cond-false}
use Rattle.std.proofs.lemmas.List.{length-take}
use Rattle.std.proofs.lemmas.List.Sums.{AllPass-from_list_all}
use Rattle.s3_rows.specs.Keyed.{Order, is_past, rises}
use Rattle.row_lemmas.proofs.Tests.{list_all-take, list_all-filter_same}
use Rattle.row_lemmas.proofs.Keyed.Rises.{rises-take, rises-filter, rises-get_or}

-- ---- the first of the rows that pass a test

pub short-take : {R : Type 0} (n : ℕ) (xs : List R) → nat_le (length (take n xs)) n ≡ true
short-take n xs = le-leb (length (take n xs)) n (rw (length-take n xs) (min-le_left n (length xs)))

-- the first of the rows that pass a test
pub first-filtered : {K R : Type 0} (o : Order K R) (p : R → Bool) (n : ℕ) (xs : List R) → rises o xs ≡ true
    → (nat_le (length (take n (filter p xs))) n && list_all p (take n (filter p xs)) && rises o (take n (filter p xs))) ≡ true
first-filtered o p n xs up =
    let ys : List _ = take n (filter p xs) in
    and_from (nat_le (length ys) n && list_all p ys) (rises o ys)
    (and_from (nat_le (length ys) n) (list_all p ys) (short-take n (filter p xs)) (list_all-take p n (filter p xs) (list_all-filter_same p xs)))
    (rises-take o n (filter p xs) (rises-filter o p xs up))

-- ---- a search by halves

-- where a row that passes q has only rows before it that pass q, of the rows that pass p
pub parted : {K R : Type 0} (o : Order K R) (p q : R → Bool) (xs : List R) → rises o xs ≡ true → list_all p xs ≡ true
    → ((x y : R) → p x ≡ true → is_past o (o.key x) y ≡ true → q y ≡ true → q x ≡ true) → IsPartitionedBy q xs
parted o p q xs up all back i j d le short is = elim (cases_lt i j) [
  | inl below ↦ back (get_or xs i d) (get_or xs j d) (AllPass-from_list_all p xs all i d (omega arith)) (rises-get_or o xs i j d up below short) is
  | inr above ↦
      let same : i ≡ j = omega arith in
      subst (λ (k : ℕ). q (get_or xs k d) ≡ true) (sym same) is
]

-- what stands behind the place is what does not pass
pub behind : {R : Type 0} (p q : R → Bool) → ((x : R) → p x ≡ not (q x)) → (xs : List R) (i : ℕ) → i ≤ length xs
    → IsPartitionPoint (λ y. q y ≡ true) (λ y. q y ≡ false) xs i → filter p xs ≡ drop i xs
behind p q other [] zero le point = refl
behind p q other [] (suc i) le point = refl
behind p q other (x ∷ xs) zero le point =
    let here : p x ≡ true = other x ∙ ap not (point.1 0 x (omega arith) (omega arith)) in
    cond-true (p x) (x ∷ filter p xs) (filter p xs) here
    ∙ ap (λ ys. x ∷ ys) (behind p q other xs 0 (omega arith) ((λ k d low high. absurd (omega arith)), (λ k d low high. point.1 (suc k) d (omega arith) (omega arith))))
behind p q other (x ∷ xs) (suc i) le point =
    let here : p x ≡ false = other x ∙ ap not (point.0 0 x (omega arith) (omega arith)) in
    cond-false (p x) (x ∷ filter p xs) (filter p xs) here
    ∙ behind p q other xs i (omega arith) ((λ k d low high. point.0 (suc k) d (omega arith) (omega arith)), (λ k d low high. point.1 (suc k) d (omega arith) (omega arith)))

-- what stands before it is what passes
pub before : {R : Type 0} (q : R → Bool) (xs : List R) (i : ℕ) → i ≤ length xs
    → IsPartitionPoint (λ y. q y ≡ true) (λ y. q y ≡ false) xs i → filter q xs ≡ take i xs
before q [] zero le point = refl
before q [] (suc i) le point = refl
before q (x ∷ xs) zero le point =
    cond-false (q x) (x ∷ filter q xs) (filter q xs) (point.1 0 x (omega arith) (omega arith))
    ∙ before q xs 0 (omega arith) ((λ k d low high. absurd (omega arith)), (λ k d low high. point.1 (suc k) d (omega arith) (omega arith)))
before q (x ∷ xs) (suc i) le point =
    cond-true (q x) (x ∷ filter q xs) (filter q xs) (point.0 0 x (omega arith) (omega arith))
    ∙ ap (λ ys. x ∷ ys) (before q xs i (omega arith) ((λ k d low high. point.0 (suc k) d (omega arith) (omega arith)), (λ k d low high. point.1 (suc k) d (omega arith) (omega arith))))

-- ---- two tests

filter-both-at : {R : Type 0} (p q : R → Bool) (a b : Bool) (x : R) (ys zs : List R) → p x ≡ a → q x ≡ b
    → filter q ys ≡ zs → filter q (cond a (x ∷ ys) ys) ≡ cond (b && a) (x ∷ zs) zs
filter-both-at p q true true x ys zs is_a is_b same = cond-true (q x) (x ∷ filter q ys) (filter q ys) is_b ∙ ap (λ l. x ∷ l) same
filter-both-at p q true false x ys zs is_a is_b same = cond-false (q x) (x ∷ filter q ys) (filter q ys) is_b ∙ same
filter-both-at p q false true x ys zs is_a is_b same = same
filter-both-at p q false false x ys zs is_a is_b same = same

pub filter-both : {R : Type 0} (p q : R → Bool) (xs : List R) → filter q (filter p xs) ≡ filter (λ x. q x && p x) xs
filter-both p q [] = refl
filter-both p q (x ∷ xs) = filter-both-at p q (p x) (q x) x (filter p xs) (filter (λ y. q y && p y) xs) refl refl (filter-both p q xs)
