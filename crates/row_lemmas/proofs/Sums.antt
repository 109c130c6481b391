-- Sums and counts over lists.
use Rattle.std.proofs.Common.{◌≡◌, ℕ, ◌+◌, List, [], ◌∷◌, length, Bool, true, false, cond, refl, sym, ap, ◌∙◌, arith}
use Rattle.std.specs.Prelude.{IsTrue, not, ◌||◌, count_by, sum_by, map}
use Rattle.std.specs.List.{list_all, list_any, AllByRecursion}
use Rattle.std.proofs.lemmas.Bool.{and_parts}
use Rattle.std.proofs.lemmas.List.Sums.{sum_by-cons}
use Rattle.row_lemmas.proofs.Tests.{false_from_not}

-- ---- sum_by

pub sum_by-map : {X Y : Type 0} (f : Y → ℕ) (g : X → Y) (xs : List X) → sum_by f (map g xs) ≡ sum_by (λ x. f (g x)) xs
sum_by-map f g [] = refl
sum_by-map f g (x ∷ xs) =
    sum_by-cons f (g x) (map g xs) ∙ ap (λ n. f (g x) + n) (sum_by-map f g xs) ∙ sym (sum_by-cons (λ y. f (g y)) x xs)

pub sum_by_agree : {X : Type 0} (f g : X → ℕ) (xs : List X) → AllByRecursion (λ x. f x ≡ g x) xs
    → sum_by f xs ≡ sum_by g xs
sum_by_agree f g [] same = refl
sum_by_agree f g (x ∷ xs) same =
    omega (arith, sum_by-cons f x xs, sum_by-cons g x xs, sum_by_agree f g xs same.1, same.0)

sum_by_none : {X : Type 0} (xs : List X) → sum_by (λ x. 0) xs ≡ 0
sum_by_none [] = refl
sum_by_none {X} (x ∷ xs) =
    let zero_of : X → ℕ = λ y. 0 in
    omega (arith, sum_by-cons zero_of x xs, sum_by_none xs)

sum_by_plus : {X : Type 0} (f g : X → ℕ) (xs : List X) → sum_by (λ x. f x + g x) xs ≡ sum_by f xs + sum_by g xs
sum_by_plus f g [] = refl
sum_by_plus f g (x ∷ xs) =
    omega (arith, sum_by-cons (λ y. f y + g y) x xs, sum_by-cons f x xs, sum_by-cons g x xs, sum_by_plus f g xs)

-- row by row or column by column
pub sum_by_comm : {X Y : Type 0} (f : X → Y → ℕ) (xs : List X) (ys : List Y)
    → sum_by (λ x. sum_by (f x) ys) xs ≡ sum_by (λ y. sum_by (λ x. f x y) xs) ys
sum_by_comm f [] ys = sym (sum_by_none ys)
sum_by_comm {X} {Y} f (x ∷ xs) ys =
    let rest : Y → ℕ = λ y. sum_by (λ z. f z y) xs in
    sum_by-cons (λ z. sum_by (f z) ys) x xs ∙ ap (λ n. sum_by (f x) ys + n) (sum_by_comm f xs ys)
    ∙ sym (sum_by_plus (f x) rest ys)
    ∙ sym (sum_by_agree (λ y. sum_by (λ z. f z y) (x ∷ xs)) (λ y. f x y + rest y) ys (each ys))
  where
    each : (ys : List _) → AllByRecursion (λ y. sum_by (λ z. f z y) (x ∷ xs) ≡ f x y + sum_by (λ z. f z y) xs) ys
    each [] = tt
    each (y ∷ zs) = (sum_by-cons (λ z. f z y) x xs, each zs)

-- ---- count_by

pub count_by_true : {X : Type 0} (xs : List X) → count_by (λ (x : X). true) xs ≡ length xs
count_by_true [] = refl
count_by_true {X} (x ∷ xs) =
    let one : X → ℕ = λ y. 1 in
    omega (arith, sum_by-cons one x xs, count_by_true xs)

pub count_by_none : {R : Type 0} (p : R → Bool) (rows : List R) → IsTrue (list_all (λ r. not (p r)) rows)
    → count_by p rows ≡ 0
count_by_none p [] none = refl
count_by_none {R} p (r ∷ rs) none =
    let one : R → ℕ = λ x. cond (p x) 1 0 in
    let parts : IsTrue (not (p r)) × IsTrue (list_all (λ x. not (p x)) rs) =
    and_parts (not (p r)) (list_all (λ x. not (p x)) rs) none in
    sum_by-cons one r rs ∙ ap (λ b. cond b 1 0 + count_by p rs) (false_from_not (p r) parts.0)
    ∙ omega (arith, count_by_none p rs parts.1)

-- where nothing is counted, nothing passes
pub list_any_from_count_by : {R : Type 0} (p : R → Bool) (rows : List R) → count_by p rows ≡ 0
    → list_any p rows ≡ false
list_any_from_count_by p [] none = refl
list_any_from_count_by {R} p (r ∷ rs) none =
    let one : R → ℕ = λ x. cond (p x) 1 0 in
    by_case (list_any_from_count_by p rs) (p r) (sym (sum_by-cons one r rs) ∙ none)
  where
    by_case : (count_by p rs ≡ 0 → list_any p rs ≡ false) → (b : Bool) → cond b 1 0 + count_by p rs ≡ 0
        → (b || list_any p rs) ≡ false
    by_case others true is = absurd (omega (arith, is))
    by_case others false is = others (omega (arith, is))
