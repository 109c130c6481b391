-- Tests and facts of each row of a list.
use Rattle.std.proofs.Common.{◌≡◌, ◌<◌, ◌≤◌, ℕ, ◌+◌, List, [], ◌∷◌, Bool, true, false, cond, Some, refl, sym, ap, ◌∙◌, subst, ◌⊎◌, inl, inr, arith}
use Rattle.std.specs.Prelude.{IsTrue, not, ◌||◌, count_by, find}
use Rattle.std.specs.List.{list_all, list_any, AllByRecursion}
use Rattle.std.proofs.lemmas.List.Sums.{sum_by-cons}
use Rattle.std.proofs.lemmas.Bool.{and_from, and_parts}
use Rattle.s3_rows.specs.Validity.{differ}
use Rattle.row_lemmas.proofs.Tests.{list_any_from_find, false_from_not, list_all_from_list_any}
use Rattle.row_lemmas.proofs.Sums.{list_any_from_count_by, count_by_none}

-- ---- each row

pub list_all_from_each : {R : Type 0} (P : R → Type 0) (q : R → Bool) → ((r : R) → P r → IsTrue (q r)) → (rows : List R)
    → AllByRecursion P rows → IsTrue (list_all q rows)
list_all_from_each P q follows [] each = refl
list_all_from_each P q follows (r ∷ rs) each =
    and_from (q r) (list_all q rs) (follows r each.0) (list_all_from_each P q follows rs each.1)

-- what holds of each row that passes a test and has a fact
pub AllByRecursion_weaker_both : {R : Type 0} (p : R → Bool) (P Q : R → Type 0) → ((r : R) → IsTrue (p r) → P r → Q r)
    → (rows : List R) → IsTrue (list_all p rows) → AllByRecursion P rows → AllByRecursion Q rows
AllByRecursion_weaker_both p P Q follows [] all each = tt
AllByRecursion_weaker_both p P Q follows (r ∷ rs) all each = (
  follows r (and_parts (p r) (list_all p rs) all).0 each.0,
  AllByRecursion_weaker_both p P Q follows rs (and_parts (p r) (list_all p rs) all).1 each.1,
)

-- ---- rows that differ

-- each row of a list is found by a test that only rows like it pass
found_behind : {R : Type 0} (alike own : R → R → Bool) → ((x y : R) → IsTrue (own x y) → IsTrue (alike y x))
    → (r : R) (rows others : List R) → list_any (alike r) others ≡ false
    → AllByRecursion (λ x. find (own x) rows ≡ Some x) others
    → AllByRecursion (λ x. find (own x) (r ∷ rows) ≡ Some x) others
found_behind alike own like r rows [] none found = tt
found_behind alike own like r rows (x ∷ xs) none found = (
  by_case (own x r) refl (alike r x) refl none,
  found_behind alike own like r rows xs (rest (alike r x) (list_any (alike r) xs) none) found.1,
)
  where
    by_case : (b : Bool) → own x r ≡ b → (c : Bool) → alike r x ≡ c → (c || list_any (alike r) xs) ≡ false
        → cond b (Some r) (find (own x) rows) ≡ Some x
    by_case true is true same fails = absurd (cc fails)
    by_case true is false same fails =
        let clash : false ≡ true = sym same ∙ like x r is in
        absurd (cc clash)
    by_case false is c same fails = found.0

    rest : (c b : Bool) → (c || b) ≡ false → b ≡ false
    rest true b fails = absurd (cc fails)
    rest false b fails = fails

pub find_own : {R : Type 0} (alike own : R → R → Bool) → ((x y : R) → IsTrue (own x y) → IsTrue (alike y x))
    → ((x : R) → IsTrue (own x x)) → (rows : List R) → IsTrue (differ alike rows)
    → AllByRecursion (λ x. find (own x) rows ≡ Some x) rows
find_own alike own like itself [] unlike = tt
find_own alike own like itself (r ∷ rs) unlike = (
  ap (λ b. cond b (Some r) (find (own r) rs)) (itself r),
  found_behind alike own like r rs rs
      (false_from_not (list_any (alike r) rs) (and_parts (not (list_any (alike r) rs)) (differ alike rs) unlike).0)
      (find_own alike own like itself rs (and_parts (not (list_any (alike r) rs)) (differ alike rs) unlike).1),
)

-- ---- counts

pub count_by_from_list_any : {R : Type 0} (p : R → Bool) (rows : List R) → list_any p rows ≡ false → count_by p rows ≡ 0
count_by_from_list_any p rows none = count_by_none p rows (list_all_from_list_any p rows (ap not none))

-- where one is counted, some row passes
pub list_any_counted_once : {R : Type 0} (p : R → Bool) (rows : List R) → count_by p rows ≡ 1 → IsTrue (list_any p rows)
list_any_counted_once p rows once = by_case (list_any p rows) refl
  where
    by_case : (b : Bool) → list_any p rows ≡ b → IsTrue b
    by_case true is = refl
    by_case false is = absurd (omega (arith, once, count_by_from_list_any p rows is))

-- the one row that is counted is found by its test, if any test finds it
pub find_counted_once : {R : Type 0} (p q : R → Bool) (rows : List R) (x : R) → count_by p rows ≡ 1
    → find q rows ≡ Some x → IsTrue (p x) → find p rows ≡ Some x
find_counted_once p q [] x once found passes = absurd (cc found)
find_counted_once {R} p q (r ∷ rs) x once found passes =
    by_case (λ count there. find_counted_once p q rs x count there passes) (p r) refl (q r) found
    (sym (sum_by-cons one r rs) ∙ once)
  where
    one : R → ℕ
    one y = cond (p y) 1 0

    by_case : (count_by p rs ≡ 1 → find q rs ≡ Some x → find p rs ≡ Some x) → (b : Bool) → p r ≡ b → (c : Bool)
        → cond c (Some r) (find q rs) ≡ Some x → cond b 1 0 + count_by p rs ≡ 1
        → cond b (Some r) (find p rs) ≡ Some x
    by_case others true is true there count = there
    by_case others true is false there count =
        let none : count_by p rs ≡ 0 = omega (arith, count) in
        let clash : false ≡ true = sym (list_any_from_count_by p rs none) ∙ list_any_from_find q p rs x there passes in
        absurd (cc clash)
    by_case others false is true there count =
        let same : r ≡ x = cc there in
        let clash : false ≡ true = sym is ∙ subst (λ y. IsTrue (p y)) (sym same) passes in
        absurd (cc clash)
    by_case others false is false there count = others (omega (arith, count)) there

-- a test that passes more rows counts as many, or more
pub count_by_weaker : {R : Type 0} (p q : R → Bool) → ((r : R) → IsTrue (p r) → IsTrue (q r)) → (rows : List R)
    → count_by p rows ≤ count_by q rows
count_by_weaker p q follows [] = omega arith
count_by_weaker {R} p q follows (r ∷ rs) =
    omega
    (arith, sum_by-cons one r rs, sum_by-cons two r rs, by_case (p r) refl (q r) refl, count_by_weaker p q follows rs)
  where
    one : R → ℕ
    one x = cond (p x) 1 0

    two : R → ℕ
    two x = cond (q x) 1 0

    by_case : (b : Bool) → p r ≡ b → (c : Bool) → q r ≡ c → cond {A = ℕ} b 1 0 ≤ cond c 1 0
    by_case true is true same = omega arith
    by_case true is false same =
        let clash : false ≡ true = sym same ∙ follows r is in
        absurd (cc clash)
    by_case false is true same = omega arith
    by_case false is false same = omega arith

-- and where it counts no more, no row passes it that does not pass the other
pub count_by_same_or_more : {R : Type 0} (p q : R → Bool) → ((r : R) → IsTrue (p r) → IsTrue (q r)) → (rows : List R)
    → IsTrue (list_all (λ r. not (q r) || p r) rows) ⊎ (count_by p rows < count_by q rows)
count_by_same_or_more p q follows [] = inl refl
count_by_same_or_more {R} p q follows (r ∷ rs) = by_case (p r) refl (q r) refl (count_by_same_or_more p q follows rs)
  where
    one : R → ℕ
    one x = cond (p x) 1 0

    two : R → ℕ
    two x = cond (q x) 1 0

    counted : (b c : Bool) → p r ≡ b → q r ≡ c
        → (count_by p (r ∷ rs) ≡ cond b 1 0 + count_by p rs) × (count_by q (r ∷ rs) ≡ cond c 1 0 + count_by q rs)
    counted b c is same = (
      sum_by-cons one r rs ∙ ap (λ d. cond d 1 0 + count_by p rs) is,
      sum_by-cons two r rs ∙ ap (λ d. cond d 1 0 + count_by q rs) same,
    )

    by_case : (b : Bool) → p r ≡ b → (c : Bool) → q r ≡ c
        → IsTrue (list_all (λ x. not (q x) || p x) rs) ⊎ (count_by p rs < count_by q rs)
        → IsTrue (list_all (λ x. not (q x) || p x) (r ∷ rs)) ⊎ (count_by p (r ∷ rs) < count_by q (r ∷ rs))
    by_case true is true same (inl all) =
        inl (and_from (not (q r) || p r) (list_all (λ x. not (q x) || p x) rs) ((λ i. not (same i) || is i)) all)
    by_case true is true same (inr more) = inr (omega (arith, counted true true is same, more))
    by_case true is false same others =
        let clash : false ≡ true = sym same ∙ follows r is in
        absurd (cc clash)
    by_case false is true same others = inr (omega (arith, counted false true is same, count_by_weaker p q follows rs))
    by_case false is false same (inl all) =
        inl (and_from (not (q r) || p r) (list_all (λ x. not (q x) || p x) rs) ((λ i. not (same i) || is i)) all)
    by_case false is false same (inr more) = inr (omega (arith, counted false false is same, more))
