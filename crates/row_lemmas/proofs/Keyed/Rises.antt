-- Rows that rise by key, and their parts.
use Rattle.std.proofs.Common.{◌≡◌, ℕ, zero, suc, ◌<◌, List, [], ◌∷◌, length, take, drop, get_or, map, Bool, true, false, cond, refl, ap, ◌∙◌, arith}
use Rattle.std.specs.Prelude.{IsTrue, not, filter}
use Rattle.std.specs.List.{list_all}
use Rattle.std.specs.Cmp.{IsTotalOrder}
use Rattle.std.specs.declared.cmp.Ordering.TheVariants.{Less, Equal, Greater}
use Rattle.std.specs.Ordering.{is_lt, ordering_reverse}
use Rattle.std.proofs.lemmas.Bool.{and_parts, and_from}
use Rattle.std.proofs.lemmas.List.Folds.{list_all-map}
use Rattle.s3_rows.specs.Keyed.{Order, is_past, has_key, rises, without}
use Rattle.row_lemmas.proofs.Tests.{less_from_is_lt, list_all_weaker, list_all-take, list_all-filter}

module _ {K R : Type 0} (o : Order K R) where
  -- the first row is below the others
  pub rises_head : (x : R) (xs : List R) → IsTrue (rises o (x ∷ xs)) → IsTrue (list_all (is_past o (o.key x)) xs)
  rises_head x xs up = (and_parts (list_all (is_past o (o.key x)) xs) (rises o xs) up).0

  pub rises_tail : (x : R) (xs : List R) → IsTrue (rises o (x ∷ xs)) → IsTrue (rises o xs)
  rises_tail x xs up = (and_parts (list_all (is_past o (o.key x)) xs) (rises o xs) up).1

  pub rises-take : (n : ℕ) (rows : List R) → IsTrue (rises o rows) → IsTrue (rises o (take n rows))
  rises-take zero rows up = refl
  rises-take (suc n) [] up = refl
  rises-take (suc n) (x ∷ xs) up =
      and_from (list_all (is_past o (o.key x)) (take n xs)) (rises o (take n xs))
      (list_all-take (is_past o (o.key x)) n xs (rises_head x xs up)) (rises-take n xs (rises_tail x xs up))

  pub rises-drop : (n : ℕ) (rows : List R) → IsTrue (rises o rows) → IsTrue (rises o (drop n rows))
  rises-drop zero rows up = up
  rises-drop (suc n) [] up = refl
  rises-drop (suc n) (x ∷ xs) up = rises-drop n xs (rises_tail x xs up)

  pub rises-filter : (q : R → Bool) (rows : List R) → IsTrue (rises o rows) → IsTrue (rises o (filter q rows))
  rises-filter q [] up = refl
  rises-filter q (x ∷ xs) up = by_case (rises-filter q xs (rises_tail x xs up)) (q x)
    where
      by_case : IsTrue (rises o (filter q xs)) → (b : Bool)
          → IsTrue (rises o (cond b (x ∷ filter q xs) (filter q xs)))
      by_case others true =
          and_from (list_all (is_past o (o.key x)) (filter q xs)) (rises o (filter q xs))
          (list_all-filter q (is_past o (o.key x)) xs (rises_head x xs up)) others
      by_case others false = others

  pub rises-without : (k : K) (rows : List R) → IsTrue (rises o rows) → IsTrue (rises o (without o k rows))
  rises-without k rows up = rises-filter (λ r. not (has_key o k r)) rows up

  -- a row at a later place comes after one at an earlier
  pub rises-get_or : (rows : List R) (i j : ℕ) (d : R) → IsTrue (rises o rows) → i < j → j < length rows
      → IsTrue (is_past o (o.key (get_or rows i d)) (get_or rows j d))
  rises-get_or [] i j d up below short = absurd (omega arith)
  rises-get_or (x ∷ xs) i zero d up below short = absurd (omega arith)
  rises-get_or (x ∷ xs) zero (suc j) d up below short = list_all-get_or xs j (rises_head x xs up) (omega arith)
    where
      list_all-get_or : (ys : List R) (i : ℕ) → IsTrue (list_all (is_past o (o.key x)) ys) → i < length ys
          → IsTrue (is_past o (o.key x) (get_or ys i d))
      list_all-get_or [] i all short = absurd (omega arith)
      list_all-get_or (y ∷ ys) zero all short =
          (and_parts (is_past o (o.key x) y) (list_all (is_past o (o.key x)) ys) all).0
      list_all-get_or (y ∷ ys) (suc i) all short =
          list_all-get_or ys i (and_parts (is_past o (o.key x) y) (list_all (is_past o (o.key x)) ys) all).1
          (omega arith)
  rises-get_or (x ∷ xs) (suc i) (suc j) d up below short =
      rises-get_or xs i j d (rises_tail x xs up) (omega arith) (omega arith)

  module _ (total : IsTotalOrder o.compare) where
    -- a row past a second key is past a first that is below it
    pub is_past_trans : (a b : K) (r : R) → o.compare a b ≡ Less → IsTrue (is_past o b r) → IsTrue (is_past o a r)
    is_past_trans a b r below is =
        ap is_lt (total.trans a b (o.key r) below (less_from_is_lt (o.compare b (o.key r)) is))

    -- and past one that ties with it
    pub is_past_same : (a b : K) (r : R) → o.compare a b ≡ Equal → IsTrue (is_past o b r) → IsTrue (is_past o a r)
    is_past_same a b r same is =
        ap is_lt (total.congr a b (o.key r) same ∙ less_from_is_lt (o.compare b (o.key r)) is)

    -- keys compared the other way round
    pub compare_less_back : (a b : K) → o.compare a b ≡ Less → o.compare b a ≡ Greater
    compare_less_back a b is = total.antisymm b a ∙ ap ordering_reverse is

    pub compare_greater_back : (a b : K) → o.compare a b ≡ Greater → o.compare b a ≡ Less
    compare_greater_back a b is = total.antisymm b a ∙ ap ordering_reverse is

    -- rows that are past the first of two keys and its row, or past a tied key
    pub list_all-is_past_trans : (a b : K) (rows : List R) → o.compare a b ≡ Less
        → IsTrue (list_all (is_past o b) rows) → IsTrue (list_all (is_past o a) rows)
    list_all-is_past_trans a b rows below all =
        list_all_weaker (is_past o b) (is_past o a) (λ y. is_past_trans a b y below) rows all

    pub list_all-is_past_same : (a b : K) (rows : List R) → o.compare a b ≡ Equal
        → IsTrue (list_all (is_past o b) rows) → IsTrue (list_all (is_past o a) rows)
    list_all-is_past_same a b rows same all =
        list_all_weaker (is_past o b) (is_past o a) (λ y. is_past_same a b y same) rows all

    -- a key below the first row is below all
    pub rises_below : (k : K) (x : R) (xs : List R) → IsTrue (rises o (x ∷ xs)) → o.compare k (o.key x) ≡ Less
        → IsTrue (list_all (is_past o k) (x ∷ xs))
    rises_below k x xs up below =
        and_from (is_past o k x) (list_all (is_past o k) xs) (ap is_lt below)
        (list_all-is_past_trans k (o.key x) xs below (rises_head x xs up))

    -- and a key that ties with the first row's is below the others
    pub rises_behind : (k : K) (x : R) (xs : List R) → IsTrue (rises o (x ∷ xs)) → o.compare k (o.key x) ≡ Equal
        → IsTrue (list_all (is_past o k) xs)
    rises_behind k x xs up same = list_all-is_past_same k (o.key x) xs same (rises_head x xs up)

-- rows made of rows, of which the keys compare alike
pub rises-map : {K L R S : Type 0} (o : Order K R) (u : Order L S) (f : R → S)
    → ((x y : R) → is_past u (u.key (f x)) (f y) ≡ is_past o (o.key x) y) → (rows : List R) → IsTrue (rises o rows)
    → IsTrue (rises u (map f rows))
rises-map o u f same [] up = refl
rises-map o u f same (x ∷ xs) up =
    and_from (list_all (is_past u (u.key (f x))) (map f xs)) (rises u (map f xs))
    (list_all-map (is_past u (u.key (f x))) f xs
    ∙ list_all_weaker (is_past o (o.key x)) (λ y. is_past u (u.key (f x)) (f y)) (λ y is. same x y ∙ is) xs
    (rises_head o x xs up))
    (rises-map o u f same xs (rises_tail o x xs up))
