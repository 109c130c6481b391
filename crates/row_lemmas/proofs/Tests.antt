-- Tests of the items of a list: that all pass, that some passes, the first that passes, and those that pass.
use Rattle.std.proofs.Common.{◌≡◌, ℕ, zero, suc, List, [], ◌∷◌, take, map, Bool, true, false, cond, Option, None, Some, refl, sym, ap, ◌∙◌, subst, arith, ltb-true, eqb-true}
use Rattle.std.specs.Prelude.{IsTrue, not, ◌&&◌, ◌||◌, ◌==◌, nat_lt, is_some, option_map, find, filter}
use Rattle.std.specs.List.{list_all, list_any, filter_map, cons_option}
use Rattle.std.specs.declared.cmp.Ordering.{Ordering}
use Rattle.std.specs.declared.cmp.Ordering.TheVariants.{Less, Equal, Greater}
use Rattle.std.specs.FinMap.{nat_cmp-IsAntisymmetric}
use Rattle.std.specs.Ordering.{nat_cmp, is_lt, is_eq, is_gt, ordering_then}
use Rattle.std.proofs.lemmas.Bool.{and_parts, and_from}
use Rattle.std.proofs.lemmas.Bool.Decides.{nat_tests}
use Rattle.s3_rows.specs.Keyed.{pair_cmp}
use Rattle.s3_rows.specs.Validity.{differ}

-- ---- answers

pub false_from_not : (b : Bool) → IsTrue (not b) → b ≡ false
false_from_not true is = absurd (cc is)
false_from_not false is = refl

pub is_some-option_map : {X Y : Type 0} (f : X → Y) (found : Option X) → is_some (option_map f found) ≡ is_some found
is_some-option_map f None = refl
is_some-option_map f (Some x) = refl

pub less_from_is_lt : (c : Ordering) → IsTrue (is_lt c) → c ≡ Less
less_from_is_lt Less is = refl
less_from_is_lt Equal is = absurd (cc is)
less_from_is_lt Greater is = absurd (cc is)

pub equal_from_is_eq : (c : Ordering) → IsTrue (is_eq c) → c ≡ Equal
equal_from_is_eq Less is = absurd (cc is)
equal_from_is_eq Equal is = refl
equal_from_is_eq Greater is = absurd (cc is)

pub greater_from_is_gt : (c : Ordering) → IsTrue (is_gt c) → c ≡ Greater
greater_from_is_gt Less is = absurd (cc is)
greater_from_is_gt Equal is = absurd (cc is)
greater_from_is_gt Greater is = refl

-- two tests of equal numbers
-- two numbers are equal either way round
pub eqb_comm : (a b : ℕ) → (a == b) ≡ (b == a)
eqb_comm a b = grind (arith, nat_tests)

pub is_eq-nat_cmp : (a b : ℕ) → is_eq (nat_cmp a b) ≡ (a == b)
is_eq-nat_cmp a b = by_case (nat_lt a b) refl (a == b) refl
  where
    by_case : (c : Bool) → nat_lt a b ≡ c → (d : Bool) → (a == b) ≡ d → is_eq (cond c Less (cond d Equal Greater)) ≡ d
    by_case true less true equal = absurd (omega (arith, ltb-true a b less, eqb-true a b equal))
    by_case true less false equal = refl
    by_case false less true equal = refl
    by_case false less false equal = refl

pub pair_parts : (x y : ℕ × ℕ) → IsTrue (is_eq (pair_cmp x y)) → (x.0 ≡ y.0) × (x.1 ≡ y.1)
pair_parts x y is = by_case (nat_cmp x.0 y.0) refl is
  where
    by_case : (c : Ordering) → nat_cmp x.0 y.0 ≡ c → IsTrue (is_eq (ordering_then c (nat_cmp x.1 y.1)))
        → (x.0 ≡ y.0) × (x.1 ≡ y.1)
    by_case Less one two = absurd (cc two)
    by_case Equal one two =
        (nat_cmp-IsAntisymmetric x.0 y.0 one, nat_cmp-IsAntisymmetric x.1 y.1 (equal_from_is_eq (nat_cmp x.1 y.1) two))
    by_case Greater one two = absurd (cc two)

-- ---- list_all

-- what passes one test passes a test that follows from it
pub list_all_weaker : {R : Type 0} (p q : R → Bool) → ((r : R) → IsTrue (p r) → IsTrue (q r)) → (rows : List R)
    → IsTrue (list_all p rows) → IsTrue (list_all q rows)
list_all_weaker p q follows [] all = refl
list_all_weaker p q follows (r ∷ rs) all =
    let parts : IsTrue (p r) × IsTrue (list_all p rs) = and_parts (p r) (list_all p rs) all in
    and_from (q r) (list_all q rs) (follows r parts.0) (list_all_weaker p q follows rs parts.1)

-- and so for a test that follows from two
pub list_all_weaker_both : {R : Type 0} (p q s : R → Bool) → ((r : R) → IsTrue (p r) → IsTrue (q r) → IsTrue (s r))
    → (rows : List R)
    → IsTrue (list_all p rows) → IsTrue (list_all q rows) → IsTrue (list_all s rows)
list_all_weaker_both p q s follows [] one two = refl
list_all_weaker_both p q s follows (r ∷ rs) one two =
    let left : IsTrue (p r) × IsTrue (list_all p rs) = and_parts (p r) (list_all p rs) one in
    let right : IsTrue (q r) × IsTrue (list_all q rs) = and_parts (q r) (list_all q rs) two in
    and_from (s r) (list_all s rs) (follows r left.0 right.0) (list_all_weaker_both p q s follows rs left.1 right.1)

pub list_all_true : {R : Type 0} (rows : List R) → IsTrue (list_all (λ (r : R). true) rows)
list_all_true [] = refl
list_all_true (r ∷ rs) = list_all_true rs

pub list_all-take : {R : Type 0} (p : R → Bool) (n : ℕ) (rows : List R) → IsTrue (list_all p rows)
    → IsTrue (list_all p (take n rows))
list_all-take p zero rows all = refl
list_all-take p (suc n) [] all = refl
list_all-take p (suc n) (r ∷ rs) all =
    let parts : IsTrue (p r) × IsTrue (list_all p rs) = and_parts (p r) (list_all p rs) all in
    and_from (p r) (list_all p (take n rs)) parts.0 (list_all-take p n rs parts.1)

list_all-cond : {R : Type 0} (q : R → Bool) (b : Bool) (r : R) (rs : List R) → (b ≡ true → IsTrue (q r))
    → IsTrue (list_all q rs) → IsTrue (list_all q (cond b (r ∷ rs) rs))
list_all-cond q true r rs passes all = and_from (q r) (list_all q rs) (passes refl) all
list_all-cond q false r rs passes all = all

-- what is left by a filter has passed the same tests
pub list_all-filter : {R : Type 0} (p q : R → Bool) (rows : List R) → IsTrue (list_all q rows)
    → IsTrue (list_all q (filter p rows))
list_all-filter p q [] all = refl
list_all-filter p q (r ∷ rs) all =
    let parts : IsTrue (q r) × IsTrue (list_all q rs) = and_parts (q r) (list_all q rs) all in
    list_all-cond q (p r) r (filter p rs) (λ is. parts.0) (list_all-filter p q rs parts.1)

-- and the filter's
pub list_all-filter_same : {R : Type 0} (p : R → Bool) (rows : List R) → IsTrue (list_all p (filter p rows))
list_all-filter_same p [] = refl
list_all-filter_same p (r ∷ rs) = list_all-cond p (p r) r (filter p rs) (λ is. is) (list_all-filter_same p rs)

-- ---- find

pub find_passes : {R : Type 0} (p : R → Bool) (rows : List R) (x : R) → find p rows ≡ Some x → IsTrue (p x)
find_passes p [] x is = absurd (cc is)
find_passes p (r ∷ rs) x is = by_case (find_passes p rs x) (p r) refl is
  where
    by_case : (find p rs ≡ Some x → IsTrue (p x)) → (b : Bool) → p r ≡ b → cond b (Some r) (find p rs) ≡ Some x
        → IsTrue (p x)
    by_case others true passes found =
        let same : r ≡ x = cc found in
        subst (λ y. IsTrue (p y)) same passes
    by_case others false fails found = others found

-- what is found passes a test that all pass
pub find_passes_all : {R : Type 0} (p q : R → Bool) (rows : List R) (x : R) → IsTrue (list_all q rows)
    → find p rows ≡ Some x → IsTrue (q x)
find_passes_all p q [] x all is = absurd (cc is)
find_passes_all p q (r ∷ rs) x all is = by_case (find_passes_all p q rs x parts.1) (p r) is
  where
    parts : IsTrue (q r) × IsTrue (list_all q rs)
    parts = and_parts (q r) (list_all q rs) all

    by_case : (find p rs ≡ Some x → IsTrue (q x)) → (b : Bool) → cond b (Some r) (find p rs) ≡ Some x → IsTrue (q x)
    by_case others true found =
        let same : r ≡ x = cc found in
        subst (λ y. IsTrue (q y)) same parts.0
    by_case others false found = others found

-- nothing is found where all pass a test that excludes the wanted one
pub find_none : {R : Type 0} (p q : R → Bool) → ((r : R) → IsTrue (q r) → p r ≡ false) → (rows : List R)
    → IsTrue (list_all q rows) → find p rows ≡ None
find_none p q fails [] all = refl
find_none p q fails (r ∷ rs) all =
    let parts : IsTrue (q r) × IsTrue (list_all q rs) = and_parts (q r) (list_all q rs) all in
    ap (λ b. cond b (Some r) (find p rs)) (fails r parts.0) ∙ find_none p q fails rs parts.1

-- where nothing is found, all fail
pub list_all_from_find : {R : Type 0} (p : R → Bool) (rows : List R) → find p rows ≡ None
    → IsTrue (list_all (λ r. not (p r)) rows)
list_all_from_find p [] none = refl
list_all_from_find p (r ∷ rs) none = by_case (list_all_from_find p rs) (p r) none
  where
    by_case : (find p rs ≡ None → IsTrue (list_all (λ x. not (p x)) rs)) → (b : Bool)
        → cond b (Some r) (find p rs) ≡ None → IsTrue (not b && list_all (λ x. not (p x)) rs)
    by_case others true is = absurd (cc is)
    by_case others false is = others is

-- and back
pub is_some-find_none : {R : Type 0} (p : R → Bool) (rows : List R) → IsTrue (list_all (λ r. not (p r)) rows)
    → is_some (find p rows) ≡ false
is_some-find_none p rows all = ap is_some (find_none p (λ r. not (p r)) (λ r is. false_from_not (p r) is) rows all)

-- ---- list_any

-- some row passes where one is found
pub list_any-find : {R : Type 0} (p : R → Bool) (rows : List R) → list_any p rows ≡ is_some (find p rows)
list_any-find p [] = refl
list_any-find p (r ∷ rs) = by_case (list_any-find p rs) (p r)
  where
    by_case : list_any p rs ≡ is_some (find p rs) → (b : Bool)
        → (b || list_any p rs) ≡ is_some (cond b (Some r) (find p rs))
    by_case others true = refl
    by_case others false = others

-- what is found passes any test that it passes, so some row does
pub list_any_from_find : {R : Type 0} (p q : R → Bool) (rows : List R) (x : R) → find p rows ≡ Some x → IsTrue (q x)
    → IsTrue (list_any q rows)
list_any_from_find p q [] x is passes = absurd (cc is)
list_any_from_find p q (r ∷ rs) x is passes =
    by_case (λ found. list_any_from_find p q rs x found passes) (p r) is (q r) refl
  where
    by_case : (find p rs ≡ Some x → IsTrue (list_any q rs)) → (b : Bool) → cond b (Some r) (find p rs) ≡ Some x
        → (c : Bool) → q r ≡ c → IsTrue (c || list_any q rs)
    by_case others b found true own = refl
    by_case others true found false own =
        let same : r ≡ x = cc found in
        let no_pass : false ≡ true = sym own ∙ subst (λ y. IsTrue (q y)) (sym same) passes in
        absurd (cc no_pass)
    by_case others false found false own = others found

pub find_from_list_any : {R : Type 0} (p : R → Bool) (rows : List R) → IsTrue (list_any p rows)
    → (x : R) × (find p rows ≡ Some x)
find_from_list_any p [] any = absurd (cc any)
find_from_list_any p (r ∷ rs) any = by_case (find_from_list_any p rs) (p r) any
  where
    by_case : (IsTrue (list_any p rs) → (x : _) × (find p rs ≡ Some x)) → (b : Bool) → IsTrue (b || list_any p rs)
        → (x : _) × (cond b (Some r) (find p rs) ≡ Some x)
    by_case others true passes = (r, refl)
    by_case others false passes = others passes

pub list_any_weaker : {R : Type 0} (p q : R → Bool) → ((r : R) → IsTrue (p r) → IsTrue (q r)) → (rows : List R)
    → IsTrue (list_any p rows) → IsTrue (list_any q rows)
list_any_weaker p q follows rows any =
    let x = find_from_list_any p rows any in
    list_any_from_find p q rows x.0 x.1 (follows x.0 (find_passes p rows x.0 x.1))

pub list_any-map : {R X : Type 0} (p : X → Bool) (f : R → X) (rows : List R)
    → list_any (λ r. p (f r)) rows ≡ list_any p (map f rows)
list_any-map p f [] = refl
list_any-map p f (r ∷ rs) = ap (λ b. p (f r) || b) (list_any-map p f rs)

-- no row passes where all fail
pub list_any_from_list_all : {R : Type 0} (p : R → Bool) (rows : List R) → IsTrue (list_all (λ r. not (p r)) rows)
    → IsTrue (not (list_any p rows))
list_any_from_list_all p rows all = ap not (list_any-find p rows ∙ is_some-find_none p rows all)

-- and back
pub list_all_from_list_any : {R : Type 0} (p : R → Bool) (rows : List R) → IsTrue (not (list_any p rows))
    → IsTrue (list_all (λ r. not (p r)) rows)
list_all_from_list_any p rows none = by_case (find p rows) refl
  where
    by_case : (found : Option _) → find p rows ≡ found → IsTrue (list_all (λ r. not (p r)) rows)
    by_case None is = list_all_from_find p rows is
    by_case (Some x) is =
        let clash : true ≡ false =
        ap is_some (sym is) ∙ sym (list_any-find p rows) ∙ false_from_not (list_any p rows) none in
        absurd (cc clash)

-- ---- filter

-- what is left by a filter is left by it again
pub filter-filter_same : {R : Type 0} (q : R → Bool) (rows : List R) → filter q (filter q rows) ≡ filter q rows
filter-filter_same q [] = refl
filter-filter_same q (r ∷ rs) = again (filter-filter_same q rs) (q r) refl
  where
    again : filter q (filter q rs) ≡ filter q rs → (b : Bool) → q r ≡ b
        → filter q (cond b (r ∷ filter q rs) (filter q rs)) ≡ cond b (r ∷ filter q rs) (filter q rs)
    again others true is = rw is (ap (λ xs. r ∷ xs) others)
    again others false is = others

-- nothing is left where nothing passes
pub filter_none : {R : Type 0} (q : R → Bool) (p : R → Bool) (rows : List R) → ((x : R) → IsTrue (p x) → q x ≡ false)
    → IsTrue (list_all p rows) → filter q rows ≡ []
filter_none q p [] out all = refl
filter_none q p (x ∷ xs) out all =
    let parts : IsTrue (p x) × IsTrue (list_all p xs) = and_parts (p x) (list_all p xs) all in
    ap (λ b. cond b (x ∷ filter q xs) (filter q xs)) (out x parts.0) ∙ filter_none q p xs out parts.1

-- what two functions make of rows that are left, where they make the same of each row
pub filter_map-filter_agree : {R X : Type 0} (f g : R → Option X) (q p : R → Bool) (rows : List R)
    → ((x : R) → IsTrue (p x) → f x ≡ g x) → IsTrue (list_all p rows)
    → filter_map f (filter q rows) ≡ filter_map g (filter q rows)
filter_map-filter_agree f g q p [] same all = refl
filter_map-filter_agree {R} {X} f g q p (x ∷ xs) same all =
    by_case (filter_map-filter_agree f g q p xs same parts.1) (same x parts.0) (q x)
  where
    parts : IsTrue (p x) × IsTrue (list_all p xs)
    parts = and_parts (p x) (list_all p xs) all

    by_case : filter_map f (filter q xs) ≡ filter_map g (filter q xs) → f x ≡ g x → (b : Bool)
        → filter_map f (cond b (x ∷ filter q xs) (filter q xs)) ≡ filter_map g (cond b (x ∷ filter q xs) (filter q xs))
    by_case others own true = λ i. cons_option (own i) (others i)
    by_case others own false = others

-- ---- differ

list_any_agree : {R : Type 0} (good f g : R → Bool) → ((r : R) → IsTrue (good r) → g r ≡ f r) → (rows : List R)
    → IsTrue (list_all good rows) → list_any g rows ≡ list_any f rows
list_any_agree good f g same [] all = refl
list_any_agree good f g same (r ∷ rs) all =
    let parts : IsTrue (good r) × IsTrue (list_all good rs) = and_parts (good r) (list_all good rs) all in
    λ i. (same r parts.0) i || (list_any_agree good f g same rs parts.1) i

-- two ways to tell rows apart that agree on good rows
pub differ_agree : {R : Type 0} (good : R → Bool) (f g : R → R → Bool)
    → ((a b : R) → IsTrue (good a) → IsTrue (good b) → g a b ≡ f a b) → (rows : List R)
    → IsTrue (list_all good rows) → differ g rows ≡ differ f rows
differ_agree good f g same [] all = refl
differ_agree good f g same (r ∷ rs) all =
    let parts : IsTrue (good r) × IsTrue (list_all good rs) = and_parts (good r) (list_all good rs) all in
    λ i. not (list_any_agree good (f r) (g r)
    (λ x. same r x parts.0) rs parts.1 i) && differ_agree good f g same rs parts.1 i

-- rows that are told apart by a part of them
pub differ-map : {R X : Type 0} (alike : X → X → Bool) (f : R → X) (rows : List R)
    → differ (λ a b. alike (f a) (f b)) rows ≡ differ alike (map f rows)
differ-map alike f [] = refl
differ-map alike f (r ∷ rs) = λ i. not (list_any-map (alike (f r)) f rs i) && differ-map alike f rs i
