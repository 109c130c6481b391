-- Lists of rows, read from a part of the rows of a table.
use Rattle.std.proofs.Common.{◌≡◌, ℕ, ◌<◌, List, [], ◌∷◌, Some, All, Bool, true, false, cond, ◌&&◌, ◌==◌, nat_le, nat_lt, map, take, take_all, refl, sym, ap, ◌∙◌, arith}
use Rattle.std.specs.List.{AllByRecursion, filter, find}
use Rattle.std.specs.declared.ops.Bound.TheVariants.{Included, Excluded, Unbounded}
use Rattle.std.specs.Ordering.{nat_cmp}
use Rattle.std.specs.BTreeMap.Range.{range_contains}
use Rattle.std.proofs.lemmas.Bool.Decides.{nat_tests}
use Rattle.std.proofs.lemmas.List.{take-map, length-take}
use Rattle.std.proofs.lemmas.List.Elements.{recursion_from_All}
use Rattle.s3_rows.specs.Rows.{InodeBlock, IsInodeBlock}
use Rattle.s3_rows.specs.Keyed.{pair_cmp}
use Rattle.row_lemmas.proofs.Tests.{list_all-take, list_all-filter_same}
use Rattle.row_lemmas.proofs.Filters.{filter_all}
use Rattle.row_lists.proofs.ListingPages.{filter-map}

module _ {R : Type 0} where
  filter_agree_by : (P : R → Type 0) (p q : R → Bool) → ((r : R) → P r → p r ≡ q r) → (rows : List R)
      → AllByRecursion P rows → filter p rows ≡ filter q rows
  filter_agree_by P p q same [] all = refl
  filter_agree_by P p q same (x ∷ xs) all =
      ap (λ b. cond b (x ∷ filter p xs) (filter p xs)) (same x all.0)
      ∙ ap (λ l. cond (q x) (x ∷ l) l) (filter_agree_by P p q same xs all.1)

  pub filter_agree : (P : R → Type 0) (p q : R → Bool) → ((r : R) → P r → p r ≡ q r) → (rows : List R) → All P rows
      → filter p rows ≡ filter q rows
  filter_agree P p q same rows all = filter_agree_by P p q same rows (recursion_from_All P rows all)

  pub filter-take-filter : (q : R → Bool) (max : ℕ) (rows : List R)
      → filter q (take max (filter q rows)) ≡ take max (filter q rows)
  filter-take-filter q max rows =
      filter_all q (take max (filter q rows)) (list_all-take q max (filter q rows) (list_all-filter_same q rows))

  pub take-take : (max : ℕ) (rows : List R) → take max (take max rows) ≡ take max rows
  take-take max rows = take_all max (take max rows) (omega (arith, length-take max rows))

  -- a list of a part that has all of it
  pub listed_again : (q : R → Bool) (max : ℕ) (all part : List R) → part ≡ take max (filter q all)
      → take max (filter q part) ≡ take max (filter q all)
  listed_again q max all part is =
      ap (λ l. take max (filter q l)) is ∙ ap (take max) (filter-take-filter q max all) ∙ take-take max (filter q all)

  -- and a page
  pub paged_again : {S : Type 0} (f : R → S) (p : S → Bool) (max : ℕ) (all part : List R)
      → part ≡ take max (filter (λ x. p (f x)) all) → take max (filter p (map f part)) ≡ take max (filter p (map f all))
  paged_again f p max all part is =
      ap (take max) (filter-map f p part) ∙ take-map f max (filter (λ x. p (f x)) part)
      ∙ ap (map f) (listed_again (λ x. p (f x)) max all part is)
      ∙ sym (take-map f max (filter (λ x. p (f x)) all)) ∙ ap (take max) (sym (filter-map f p all))

-- the test of a run of blocks, by two bounds
pub in_run : (inode from : ℕ) (r : InodeBlock) → IsInodeBlock r
    → range_contains pair_cmp (Included (inode, from)) (Included (inode, 18446744073709551615)) (r.inode, r.blockno)
    ≡ (r.inode == inode && nat_le from r.blockno)
in_run inode from r is = by_parts inode from r.inode r.blockno (omega (arith, is.blockno))
  where
    by_parts : (i f a b : ℕ) → b < 18446744073709551615
        → range_contains pair_cmp (Included (i, f)) (Included (i, 18446744073709551615)) (a, b) ≡ (a == i && nat_le f b)
    by_parts i f a b low = grind (arith, nat_tests)

-- what passes the one test passes the other, so a filter by the other first changes nothing
module _ {R : Type 0} where
  filter_within_by : (P : R → Type 0) (q p : R → Bool) → ((r : R) → P r → p r ≡ true → q r ≡ true) → (rows : List R)
      → AllByRecursion P rows → filter p (filter q rows) ≡ filter p rows
  filter_within_by P q p follows [] all = refl
  filter_within_by P q p follows (x ∷ xs) all =
      by_case (filter_within_by P q p follows xs all.1) (q x) refl (p x) refl
    where
      by_case : filter p (filter q xs) ≡ filter p xs → (b : Bool) → q x ≡ b → (c : Bool) → p x ≡ c
          → filter p (cond b (x ∷ filter q xs) (filter q xs)) ≡ cond c (x ∷ filter p xs) (filter p xs)
      by_case rest true passes true own =
          ap (λ d. cond d (x ∷ filter p (filter q xs)) (filter p (filter q xs))) own ∙ ap (λ ys. x ∷ ys) rest
      by_case rest true passes false own =
          ap (λ d. cond d (x ∷ filter p (filter q xs)) (filter p (filter q xs))) own ∙ rest
      by_case rest false passes true own =
          let clash : false ≡ true = sym passes ∙ follows x all.0 own in
          absurd (cc clash)
      by_case rest false passes false own = rest

  pub filter_within : (P : R → Type 0) (q p : R → Bool) → ((r : R) → P r → p r ≡ true → q r ≡ true) → (rows : List R)
      → All P rows → filter p (filter q rows) ≡ filter p rows
  filter_within P q p follows rows all = filter_within_by P q p follows rows (recursion_from_All P rows all)

  pub filter_again : (q : R → Bool) (all part : List R) → part ≡ filter q all → filter q part ≡ filter q all
  filter_again q all part is = ap (filter q) is ∙ filter_all q (filter q all) (list_all-filter_same q all)

  pub find-filter_same : (q : R → Bool) (rows : List R) → find q (filter q rows) ≡ find q rows
  find-filter_same q [] = refl
  find-filter_same q (x ∷ xs) = by_case (find-filter_same q xs) (q x) refl
    where
      by_case : find q (filter q xs) ≡ find q xs → (b : Bool) → q x ≡ b
          → find q (cond b (x ∷ filter q xs) (filter q xs)) ≡ cond b (Some x) (find q xs)
      by_case rest true is = ap (λ d. cond d (Some x) (find q (filter q xs))) is
      by_case rest false is = rest

-- ---- tests of keys by two bounds

pub from_number : (from n : ℕ) → range_contains nat_cmp (Included from) Unbounded n ≡ nat_le from n
from_number from n = grind (arith, nat_tests)

pub past_number : (after n : ℕ) → range_contains nat_cmp (Excluded after) Unbounded n ≡ nat_lt after n
past_number after n = grind (arith, nat_tests)
