-- How often a number stands in a list of what is owed.
use Rattle.std.proofs.Common.{◌≡◌, ◌≤◌, ℕ, ◌+◌, List, [], ◌∷◌, Bool, true, false, cond, refl, ap, ◌∙◌, subst, arith, eq-eqb, eqb-true}
use Rattle.std.specs.Prelude.{IsTrue, not, ◌==◌}
use Rattle.std.specs.List.{list_all}
use Rattle.std.proofs.lemmas.Bool.{and_from, and_parts}
use Rattle.std.proofs.lemmas.List.Sums.{sum_by-cons}
use Rattle.row_lemmas.proofs.Sums.{count_by_none, list_any_from_count_by}
use Rattle.row_lemmas.proofs.Tests.{list_all_from_list_any, list_all_weaker}
use Rattle.block_steps.specs.Owed.{times}

pub times-cons : (id x : ℕ) (ids : List ℕ) → times id (x ∷ ids) ≡ cond (x == id) 1 0 + times id ids
times-cons id x ids =
    let one : ℕ → ℕ = λ y. cond (y == id) 1 0 in
    sum_by-cons one x ids

pub times_first : (id : ℕ) (ids : List ℕ) → times id (id ∷ ids) ≡ 1 + times id ids
times_first id ids = times-cons id id ids ∙ ap (λ b. cond {A = ℕ} b 1 0 + times id ids) (eq-eqb id id refl)

-- what is owed to others than the first
pub times_other : (id x : ℕ) (ids : List ℕ) → (id == x) ≡ false → times x (id ∷ ids) ≡ times x ids
times_other id x ids other =
    let none : cond {A = ℕ} (id == x) 1 0 ≡ 0 = ap (λ b. cond {A = ℕ} b 1 0) other in
    omega (arith, times-cons x id ids, none)

-- a number that fails where all pass stands nowhere
pub times_none : (q : ℕ → Bool) (id : ℕ) (ids : List ℕ) → ((x : ℕ) → IsTrue (q x) → IsTrue (not (x == id))) → IsTrue (list_all q ids) → times id ids ≡ 0
times_none q id ids apart all = count_by_none (λ (x : ℕ). x == id) ids (list_all_weaker q (λ (x : ℕ). not (x == id)) apart ids all)

-- and back
pub list_all_from_times_none : (id : ℕ) (ids : List ℕ) → times id ids ≡ 0 → IsTrue (list_all (λ x. not (x == id)) ids)
list_all_from_times_none id ids none =
    list_all_from_list_any (λ (x : ℕ). x == id) ids (ap not (list_any_from_count_by (λ (x : ℕ). x == id) ids none))

-- what stands there passes what all pass
pub passes_from_times : (q : ℕ → Bool) (id : ℕ) (ids : List ℕ) → IsTrue (list_all q ids) → 1 ≤ times id ids → IsTrue (q id)
passes_from_times q id [] all some =
    let none : times id [] ≡ 0 = refl in
    absurd (omega (arith, some, none))
passes_from_times q id (x ∷ xs) all some = by_case (passes_from_times q id xs parts.1) (x == id) refl
  where
    parts : IsTrue (q x) × IsTrue (list_all q xs)
    parts = and_parts (q x) (list_all q xs) all

    by_case : (1 ≤ times id xs → IsTrue (q id)) → (b : Bool) → (x == id) ≡ b → IsTrue (q id)
    by_case others true is = subst (λ y. IsTrue (q y)) (eqb-true x id is) parts.0
    by_case others false is = others (omega (arith, some, times_other x id xs is))

-- and where all that stands there passes, all pass
pub list_all_from_times : (q : ℕ → Bool) (ids : List ℕ) → ((id : ℕ) → 1 ≤ times id ids → IsTrue (q id)) → IsTrue (list_all q ids)
list_all_from_times q [] each = refl
list_all_from_times q (x ∷ xs) each =
    and_from (q x) (list_all q xs) (each x (omega (arith, times_first x xs)))
    (list_all_from_times q xs (λ id some. each id (omega (arith, times-cons id x xs, some))))
