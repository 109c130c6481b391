-- What filters leave of any list.
use Rattle.std.proofs.Common.{◌≡◌, List, [], ◌∷◌, Bool, true, false, cond, Some, refl, sym, ap, ◌∙◌}
use Rattle.std.specs.Prelude.{IsTrue, not, ◌&&◌, filter, find}
use Rattle.std.specs.List.{list_all}
use Rattle.std.proofs.lemmas.Bool.{and_parts}

-- what all pass leaves all
pub filter_all : {R : Type 0} (q : R → Bool) (rows : List R) → IsTrue (list_all q rows) → filter q rows ≡ rows
filter_all q [] all = refl
filter_all q (x ∷ xs) all =
    let parts = and_parts (q x) (list_all q xs) all in
    ap (λ b. cond b (x ∷ filter q xs) (filter q xs)) parts.0 ∙ ap (λ ys. x ∷ ys) (filter_all q xs parts.1)

-- the first that passes is found
pub find_from_filter : {R : Type 0} (q : R → Bool) (rows rest : List R) (x : R) → filter q rows ≡ x ∷ rest → find q rows ≡ Some x
find_from_filter q [] rest x is = absurd (cc is)
find_from_filter q (y ∷ ys) rest x is = by_case (find_from_filter q ys rest x) (q y) is
  where
    by_case : (filter q ys ≡ x ∷ rest → find q ys ≡ Some x) → (b : Bool) → cond b (y ∷ filter q ys) (filter q ys) ≡ x ∷ rest → cond b (Some y) (find q ys) ≡ Some x
    by_case others true there =
        let same : y ≡ x = cc there in
        ap Some same
    by_case others false there = others there

-- where none is left, all fail
pub list_all_from_filter : {R : Type 0} (q : R → Bool) (rows : List R) → filter q rows ≡ [] → IsTrue (list_all (λ r. not (q r)) rows)
list_all_from_filter q [] is = refl
list_all_from_filter q (y ∷ ys) is = by_case (list_all_from_filter q ys) (q y) is
  where
    by_case : (filter q ys ≡ [] → IsTrue (list_all (λ r. not (q r)) ys)) → (b : Bool) → cond b (y ∷ filter q ys) (filter q ys) ≡ []
        → IsTrue (not b && list_all (λ r. not (q r)) ys)
    by_case others true there = absurd (cc there)
    by_case others false there = others there

pub filter_comm : {R : Type 0} (p q : R → Bool) (rows : List R) → filter p (filter q rows) ≡ filter q (filter p rows)
filter_comm p q [] = refl
filter_comm {R} p q (r ∷ rs) = by_case (filter_comm p q rs) (p r) refl (q r) refl
  where
    by_case : filter p (filter q rs) ≡ filter q (filter p rs) → (b : Bool) → p r ≡ b → (c : Bool) → q r ≡ c
        → filter p (cond c (r ∷ filter q rs) (filter q rs)) ≡ filter q (cond b (r ∷ filter p rs) (filter p rs))
    by_case others true passes true own =
        ap (λ d. cond d (r ∷ filter p (filter q rs)) (filter p (filter q rs))) passes ∙ ap (λ ys. r ∷ ys) others
        ∙ sym (ap (λ d. cond d (r ∷ filter q (filter p rs)) (filter q (filter p rs))) own)
    by_case others true passes false own = others ∙ sym (ap (λ d. cond d (r ∷ filter q (filter p rs)) (filter q (filter p rs))) own)
    by_case others false passes true own = ap (λ d. cond d (r ∷ filter p (filter q rs)) (filter p (filter q rs))) passes ∙ others
    by_case others false passes false own = others

-- what a second filter leaves is what it leaves alone, where it passes the first
pub filter-filter_weaker : {R : Type 0} (p q : R → Bool) → ((r : R) → q r ≡ true → p r ≡ true) → (rows : List R) → filter q (filter p rows) ≡ filter q rows
filter-filter_weaker p q follows [] = refl
filter-filter_weaker {R} p q follows (r ∷ rs) = by_case (filter-filter_weaker p q follows rs) (p r) refl (q r) refl
  where
    by_case : filter q (filter p rs) ≡ filter q rs → (b : Bool) → p r ≡ b → (c : Bool) → q r ≡ c
        → filter q (cond b (r ∷ filter p rs) (filter p rs)) ≡ cond c (r ∷ filter q rs) (filter q rs)
    by_case others true passes true own = ap (λ d. cond d (r ∷ filter q (filter p rs)) (filter q (filter p rs))) own ∙ ap (λ ys. r ∷ ys) others
    by_case others true passes false own = ap (λ d. cond d (r ∷ filter q (filter p rs)) (filter q (filter p rs))) own ∙ others
    by_case others false passes true own =
        let clash : false ≡ true = sym passes ∙ follows r own in
        absurd (cc clash)
    by_case others false passes false own = others
