-- What lists contain.
use Rattle.std.proofs.Common.{◌≡◌, ◌⊎◌, List, [], ◌∷◌, inl, inr, sym, subst, arith}
use Rattle.std.specs.Prelude.{Contains}
use Rattle.std.specs.List.{flat_map}
use Rattle.std.proofs.lemmas.List.Elements.{Contains-append_left, Contains-append_right, Contains-append_cases, Contains-push, Contains-push_cases}

-- ---- one more in front

pub Contains-none : {X : Type 0} (x : X) → Contains [] x → ⊥
Contains-none x there = omega (arith, there.1)

pub Contains-first : {X : Type 0} (a : X) (xs : List X) → Contains (a ∷ xs) a
Contains-first a xs = Contains-append_left (a ∷ []) xs a (Contains-push [] a)

pub Contains-later : {X : Type 0} (a : X) (xs : List X) (x : X) → Contains xs x → Contains (a ∷ xs) x
Contains-later a xs x there = Contains-append_right (a ∷ []) xs x there

pub Contains-cases : {X : Type 0} (a : X) (xs : List X) (x : X) → Contains (a ∷ xs) x → (a ≡ x) ⊎ Contains xs x
Contains-cases a xs x there =
    elim (Contains-append_cases (a ∷ []) xs x there) [
      | inl here ↦ elim (Contains-push_cases [] a x here) [ inl none ↦ absurd (Contains-none x none) | inr same ↦ inl same ]
      | inr later ↦ inr later
    ]

-- ---- what comes of each element

-- a list of which each element is one of the other's gives no more
pub Contains-flat_map : {X A : Type 0} (f : X → List A) (xs : List X) (x : X) (a : A) → Contains xs x → Contains (f x) a → Contains (flat_map f xs) a
Contains-flat_map f [] x a there of_it = absurd (Contains-none x there)
Contains-flat_map {X} {A} f (y ∷ xs) x a there of_it =
    elim (Contains-cases y xs x there) [
      | inl same ↦ Contains-append_left (f y) (flat_map f xs) a (let P : X → Type 0 = λ z. Contains (f z) a in subst P (sym same) of_it)
      | inr later ↦ Contains-append_right (f y) (flat_map f xs) a (Contains-flat_map f xs x a later of_it)
    ]

pub Contains-flat_map_more : {X A : Type 0} (f : X → List A) (xs ys : List X) (a : A) → ((x : X) → Contains xs x → Contains ys x)
    → Contains (flat_map f xs) a → Contains (flat_map f ys) a
Contains-flat_map_more f [] ys a within there = absurd (Contains-none a there)
Contains-flat_map_more f (x ∷ xs) ys a within there =
    elim (Contains-append_cases (f x) (flat_map f xs) a there) [
      | inl here ↦ Contains-flat_map f ys x a (within x (Contains-first x xs)) here
      | inr later ↦ Contains-flat_map_more f xs ys a (λ z of_rest. within z (Contains-later x xs z of_rest)) later
    ]
