-- What is left of lists, and what is counted in them.
use Rattle.std.proofs.Common.{◌≡◌, ℕ, zero, suc, ◌+◌, ◌<◌, List, [], ◌∷◌, ◌++◌, length, drop, get_or, Bool, true, false, cond, Option, None, Some, Result, Ok, Err, OnErr, refl, sym, ap, subst, ◌∙◌, count_by}
use Rattle.std.specs.Prelude.{◌||◌, IfSome}
use Rattle.std.specs.List.{list_any}
use Rattle.std.proofs.lemmas.List.{drop_more}
use Rattle.std.proofs.lemmas.List.Sums.{sum_by-append}

-- the element at an index begins what is left there
pub drop_here : {X : Type 0} (xs : List X) (i : ℕ) (x : X) → i < length xs → x ≡ get_or xs i x → drop i xs ≡ x ∷ drop (i + 1) xs
drop_here xs i x below is = drop_more xs i x below ∙ ap (λ y. y ∷ drop (i + 1) xs) (sym is)

pub first_false : (a b : Bool) → (a || b) ≡ false → a ≡ false
first_false true b is = is
first_false false b is = refl

pub second_false : (a b : Bool) → (a || b) ≡ false → b ≡ false
second_false true b is = absurd (cc is)
second_false false b is = is

pub list_any-drop : {X : Type 0} (p : X → Bool) (n : ℕ) (ys : List X) → list_any p ys ≡ false → list_any p (drop n ys) ≡ false
list_any-drop p zero ys is = is
list_any-drop p (suc n) [] is = is
list_any-drop p (suc n) (y ∷ ys) is = list_any-drop p n ys (second_false (p y) (list_any p ys) is)

pub count_by-append : {X : Type 0} (p : X → Bool) (xs ys : List X) → count_by p (xs ++ ys) ≡ count_by p xs + count_by p ys
count_by-append p xs ys = sum_by-append (λ x. cond (p x) 1 0) xs ys

-- ---- answers

pub OnErr-always : {T E : Type 0} (P : Type 0) → P → (r : Result T E) → OnErr r P
OnErr-always P fact (Ok x) = tt
OnErr-always P fact (Err e) = fact

pub IfSome-weaker : {T : Type 0} (P Q : T → Type 0) → ((x : T) → P x → Q x) → (o : Option T) → IfSome o P → IfSome o Q
IfSome-weaker P Q follows None fact = tt
IfSome-weaker P Q follows (Some x) fact = follows x fact

pub IfSome-there : {T : Type 0} (P : T → Type 0) (o : Option T) (x : T) → o ≡ Some x → IfSome o P → P x
IfSome-there P o x is fact = subst (λ y. IfSome y P) is fact
