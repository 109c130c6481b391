-- Items that climb by their names: without those that have the name of the one before, they are the sorted items.
use Rattle.std.proofs.Common.{◌≡◌, ℕ, zero, suc, ◌-◌, List, [], ◌∷◌, ◌++◌, Bool, true, false, not, cond, None, Some, length, refl, sym, ap, ◌∙◌, subst, arith, append_assoc, length-append}
use Rattle.std.specs.Prelude.{IsTrue, slice_get}
use Rattle.std.specs.List.{list_all}
use Rattle.std.specs.Cmp.{IsTotalOrder}
use Rattle.std.specs.FinMap.{nat_cmp-IsAntisymmetric, slice_cmp-IsAntisymmetric}
use Rattle.std.specs.declared.cmp.Ordering.{Ordering}
use Rattle.std.specs.declared.cmp.Ordering.TheVariants.{Less, Equal, Greater}
use Rattle.std.specs.Ordering.{is_eq, is_lt, is_gt}
use Rattle.std.proofs.lemmas.Bool.{and_parts, and_from}
use Rattle.std.proofs.lemmas.Cmp.{alike_right, nat_list_cmp_total, tied_itself}
use Rattle.s3_rows.specs.Keyed.{Order, is_past, put, rises, rows_past, sorted_by}
use Rattle.s3_rows.specs.Selections.{bytes_cmp}
use Rattle.row_lemmas.proofs.Filters.{filter_all}
use Rattle.row_lemmas.proofs.Keyed.Filter.{filter-put_false, filter-put_true}
use Rattle.row_lemmas.proofs.Keyed.Put.{put_less, put_equal, list_all-put}
use Rattle.row_lemmas.proofs.Keyed.Rises.{rises_below, rises_behind}
use Rattle.row_lemmas.proofs.Keyed.Sorted.{rises-sorted_by}
use Rattle.row_lemmas.proofs.Tests.{list_all_weaker}
use Rattle.row_lists.specs.Listing.{by_bytes}
use Rattle.mem_keeper.specs.Filed.{apart, last_name}

pub by_answer : {P : Type 0} (c : Ordering) → (c ≡ Less → P) → (c ≡ Equal → P) → (c ≡ Greater → P) → P
by_answer Less less equal greater = less refl
by_answer Equal less equal greater = equal refl
by_answer Greater less equal greater = greater refl

pub bytes_equal : (a b : List ℕ) → bytes_cmp a b ≡ Equal → a ≡ b
bytes_equal a b is = slice_cmp-IsAntisymmetric nat_cmp-IsAntisymmetric a b is

-- ---- not before, in any total order

module _ {K : Type 0} {R : K → K → Ordering} (total : IsTotalOrder R) where
  abbrev pub upto : K → K → Bool
  upto a b = not (is_gt (R a b))

  pub upto_trans : (a b c : K) → IsTrue (upto a b) → IsTrue (upto b c) → IsTrue (upto a c)
  upto_trans a b c one two =
      by_answer (R a b)
      (λ less. by_answer (R b c)
      (λ later. ap (λ d. not (is_gt d)) (total.trans a b c less later))
      (λ same. ap (λ d. not (is_gt d)) (sym (alike_right total b c a same) ∙ less))
      (λ back. absurd (cc (sym (ap (λ d. not (is_gt d)) back) ∙ two))))
      (λ same. ap (λ d. not (is_gt d)) (total.congr a b c same) ∙ two)
      (λ back. absurd (cc (sym (ap (λ d. not (is_gt d)) back) ∙ one)))

  pub less_upto : (a b c : K) → R a b ≡ Less → IsTrue (upto b c) → IsTrue (is_lt (R a c))
  less_upto a b c less two =
      by_answer (R b c)
      (λ later. ap is_lt (total.trans a b c less later))
      (λ same. ap is_lt (sym (alike_right total b c a same) ∙ less))
      (λ back. absurd (cc (sym (ap (λ d. not (is_gt d)) back) ∙ two)))

-- ---- the first item of those that are put

module _ {K T : Type 0} (o : Order K T) (total : IsTotalOrder o.compare) where
  -- no item comes before the key
  abbrev pub all_from : K → List T → Bool
  all_from k xs = list_all (λ x. upto total k (o.key x)) xs

  front : (x : T) (ys : List T) → IsTrue (rises o ys) → IsTrue (all_from (o.key x) ys)
      → put o x ys ≡ x ∷ rows_past o (o.key x) ys
  front x [] up from = refl
  front x (y ∷ ys) up from =
      by_answer (o.compare (o.key x) (o.key y))
      (λ less. put_less o x y ys less ∙ ap (λ l. x ∷ l) (sym (filter_all (is_past o (o.key x)) (y ∷ ys) (rises_below o total (o.key x) y ys up less))))
      (λ same. put_equal o x y ys same
      ∙ ap (λ l. x ∷ l)
      (sym (filter_all (is_past o (o.key x)) ys (rises_behind o total (o.key x) y ys up same))
      ∙ sym (ap (λ c. cond (is_lt c) (y ∷ rows_past o (o.key x) ys) (rows_past o (o.key x) ys)) same)))
      (λ back. absurd (cc (sym (ap (λ d. not (is_gt d)) back) ∙ (and_parts (upto total (o.key x) (o.key y)) (all_from (o.key x) ys) from).0)))

  all_from-sorted_by : (k : K) (xs : List T) → IsTrue (all_from k xs) → IsTrue (all_from k (sorted_by o xs))
  all_from-sorted_by k [] from = refl
  all_from-sorted_by k (x ∷ xs) from =
      let parts = and_parts (upto total k (o.key x)) (all_from k xs) from in
      list_all-put o (λ y. upto total k (o.key y)) x (sorted_by o xs) parts.0 (all_from-sorted_by k xs parts.1)

  pub past_front : (p : K) (x : T) (xs : List T) → o.compare p (o.key x) ≡ Less → IsTrue (all_from (o.key x) xs)
      → rows_past o p (put o x (sorted_by o xs)) ≡ x ∷ rows_past o (o.key x) (sorted_by o xs)
  past_front p x xs less from =
      let up : IsTrue (rises o (sorted_by o xs)) = rises-sorted_by o total xs in
      let all : IsTrue (all_from (o.key x) (sorted_by o xs)) = all_from-sorted_by (o.key x) xs from in
      let past : rows_past o p (sorted_by o xs) ≡ sorted_by o xs =
      filter_all (is_past o p) (sorted_by o xs) (list_all_weaker (λ y. upto total (o.key x) (o.key y)) (is_past o p) (λ y is. less_upto total p (o.key x) (o.key y) less is) (sorted_by o xs) all) in
      filter-put_true o total (is_past o p) x (sorted_by o xs) up (ap is_lt less) ∙ ap (put o x) past ∙ front x (sorted_by o xs) up all

-- ---- items that climb

module _ {T : Type 0} (name_of : T → List ℕ) where
  -- no item comes before the one before it, nor the first before a name
  abbrev pub Climbs : List ℕ → List T → Type 0
  Climbs last [] = Unit {0}
  Climbs last (x ∷ xs) = IsTrue (upto nat_list_cmp_total last (name_of x)) × Climbs (name_of x) xs

  pub climbs_from : (k last : List ℕ) (xs : List T) → IsTrue (upto nat_list_cmp_total k last) → Climbs last xs
      → IsTrue (all_from (by_bytes name_of) nat_list_cmp_total k xs)
  climbs_from k last [] from climbs = refl
  climbs_from k last (x ∷ xs) from climbs =
      let here : IsTrue (upto nat_list_cmp_total k (name_of x)) = upto_trans nat_list_cmp_total k last (name_of x) from climbs.0 in
      and_from (upto nat_list_cmp_total k (name_of x)) (all_from (by_bytes name_of) nat_list_cmp_total k xs) here (climbs_from k (name_of x) xs here climbs.1)

  pub apart_past : (last : List ℕ) (xs : List T) → Climbs last xs
      → apart name_of last xs ≡ rows_past (by_bytes name_of) last (sorted_by (by_bytes name_of) xs)
  apart_past last [] climbs = refl
  apart_past last (x ∷ xs) climbs =
      by_answer (bytes_cmp last (name_of x))
      (λ less.
      ap (λ c. cond (is_eq c) (apart name_of last xs) (x ∷ apart name_of (name_of x) xs)) less
      ∙ ap (λ l. x ∷ l) (apart_past (name_of x) xs climbs.1)
      ∙ sym (past_front (by_bytes name_of) nat_list_cmp_total last x xs less (climbs_from (name_of x) (name_of x) xs (own x) climbs.1)))
      (λ same.
      ap (λ c. cond (is_eq c) (apart name_of last xs) (x ∷ apart name_of (name_of x) xs)) same
      ∙ apart_past last xs (subst (λ k. Climbs k xs) (sym (bytes_equal last (name_of x) same)) climbs.1)
      ∙ sym (filter-put_false (by_bytes name_of) (is_past (by_bytes name_of) last) x (sorted_by (by_bytes name_of) xs) (ap is_lt same)
      (λ y tied. ap is_lt (sym (alike_right nat_list_cmp_total (name_of x) (name_of y) last tied) ∙ same))))
      (λ back. absurd (cc (sym (ap (λ d. not (is_gt d)) back) ∙ climbs.0)))
    where
      own : (y : T) → IsTrue (upto nat_list_cmp_total (name_of y) (name_of y))
      own y = ap (λ d. not (is_gt d)) (tied_itself nat_list_cmp_total (name_of y))

  -- ---- the last item

  last_at : (xs : List T) (x : T) (i : ℕ) → i ≡ length xs → slice_get (xs ++ x ∷ []) i ≡ Some x
  last_at [] x zero is = refl
  last_at [] x (suc i) is = absurd (omega arith)
  last_at (y ∷ ys) x zero is = absurd (omega arith)
  last_at (y ∷ ys) x (suc i) is = last_at ys x i (omega arith)

  last_name-push : (after : List ℕ) (xs : List T) (x : T) → last_name name_of after (xs ++ x ∷ []) ≡ name_of x
  last_name-push after xs x =
      ap (λ v. elim v [ None ↦ after | Some y ↦ name_of y ])
      (last_at xs x (length (xs ++ x ∷ []) - 1) (omega (arith, length-append xs (x ∷ []))))

  pub apart_same : (items : List T) (last : List ℕ) (x : T) (rest : List T) → is_eq (bytes_cmp last (name_of x)) ≡ true
      → items ++ apart name_of last rest ≡ items ++ apart name_of last (x ∷ rest)
  apart_same items last x rest is =
      ap (λ l. items ++ l) (sym (ap (λ b. cond b (apart name_of last rest) (x ∷ apart name_of (name_of x) rest)) is))

  pub apart_pushed : (after : List ℕ) (items : List T) (x : T) (rest : List T)
      → is_eq (bytes_cmp (last_name name_of after items) (name_of x)) ≡ false
      → (items ++ x ∷ []) ++ apart name_of (last_name name_of after (items ++ x ∷ [])) rest
      ≡ items ++ apart name_of (last_name name_of after items) (x ∷ rest)
  apart_pushed after items x rest is =
      ap (λ n. (items ++ x ∷ []) ++ apart name_of n rest) (last_name-push after items x)
      ∙ append_assoc items (x ∷ []) (apart name_of (name_of x) rest)
      ∙ ap (λ l. items ++ l)
      (sym (ap (λ b. cond b (apart name_of (last_name name_of after items) rest) (x ∷ apart name_of (name_of x) rest)) is))
