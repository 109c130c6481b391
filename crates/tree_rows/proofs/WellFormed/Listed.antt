-- What holds of rows holds of those that are listed, and the names of listed rows rise.
use Rattle.std.proofs.Common.{◌≡◌, ◌≤◌, ◌<◌, ◌+◌, ℕ, List, [], ◌∷◌, Bool, true, false, cond, Option, None, Some, refl, arith, ltb-true, leb-true, le-leb}
use Rattle.std.specs.Prelude.{IsTrue, ◌==◌, filter, map, nat_lt, nat_le}
use Rattle.std.specs.List.{list_all, filter_map, cons_option, AllByRecursion}
use Rattle.std.specs.Map.{keys_of}
use Rattle.std.specs.declared.cmp.Ordering.{Ordering}
use Rattle.std.specs.declared.cmp.Ordering.TheVariants.{Less, Equal, Greater}
use Rattle.std.specs.Ordering.{nat_cmp, is_lt}
use Rattle.std.proofs.lemmas.Bool.{and_parts}
use Rattle.plain_tree.specs.Names.{Rise, RiseFrom}
use Rattle.plain_tree.specs.Numbers.{Ascend}
use Rattle.s3_rows.specs.Rows.{Inode}
use Rattle.s3_rows.specs.Keyed.{Order, is_past, rises, put, sorted_by}
use Rattle.s3_rows.specs.Tables.{by_inode}
use Rattle.s3_rows.specs.Selections.{bytes_cmp}
use Rattle.row_lemmas.proofs.Tests.{list_all_weaker, less_from_is_lt}
use Rattle.row_lemmas.proofs.Keyed.Rises.{rises_head, rises_tail}

-- ---- each row

pub AllByRecursion-map : {X Y : Type 0} (P : Y → Type 0) (f : X → Y) (xs : List X) → AllByRecursion (λ x. P (f x)) xs
    → AllByRecursion P (map f xs)
AllByRecursion-map P f [] each = tt
AllByRecursion-map P f (x ∷ xs) each = (each.0, AllByRecursion-map P f xs each.1)

pub AllByRecursion_from_map : {X Y : Type 0} (P : Y → Type 0) (f : X → Y) (xs : List X) → AllByRecursion P (map f xs)
    → AllByRecursion (λ x. P (f x)) xs
AllByRecursion_from_map P f [] each = tt
AllByRecursion_from_map P f (x ∷ xs) each = (each.0, AllByRecursion_from_map P f xs each.1)

pub AllByRecursion-filter : {X : Type 0} (P : X → Type 0) (p : X → Bool) (xs : List X) → AllByRecursion P xs
    → AllByRecursion P (filter p xs)
AllByRecursion-filter P p [] each = tt
AllByRecursion-filter P p (x ∷ xs) each = by_case (p x) (AllByRecursion-filter P p xs each.1)
  where
    by_case : (b : Bool) → AllByRecursion P (filter p xs) → AllByRecursion P (cond b (x ∷ filter p xs) (filter p xs))
    by_case true others = (each.0, others)
    by_case false others = others

pub AllByRecursion-filter_map : {X Y : Type 0} (P : X → Type 0) (Q : Y → Type 0) (h : X → Option Y)
    → ((x : X) (y : Y) → P x → h x ≡ Some y → Q y) → (xs : List X) → AllByRecursion P xs
    → AllByRecursion Q (filter_map h xs)
AllByRecursion-filter_map P Q h follows [] each = tt
AllByRecursion-filter_map P Q h follows (x ∷ xs) each =
    by_case (h x) refl (AllByRecursion-filter_map P Q h follows xs each.1)
  where
    by_case : (found : Option _) → h x ≡ found → AllByRecursion Q (filter_map h xs)
        → AllByRecursion Q (cons_option found (filter_map h xs))
    by_case None is others = others
    by_case (Some y) is others = (follows x y each.0 is, others)

-- ---- sorted rows

module _ {K R : Type 0} (o : Order K R) where
  AllByRecursion-put : (P : R → Type 0) (r : R) (rows : List R) → P r → AllByRecursion P rows
      → AllByRecursion P (put o r rows)
  AllByRecursion-put P r [] own each = (own, tt)
  AllByRecursion-put P r (x ∷ xs) own each =
      by_case (o.compare (o.key r) (o.key x)) (AllByRecursion-put P r xs own each.1)
    where
      by_case : (c : Ordering) → AllByRecursion P (put o r xs)
          → AllByRecursion P (elim c [ Less ↦ r ∷ x ∷ xs | Equal ↦ r ∷ xs | Greater ↦ x ∷ put o r xs ])
      by_case Less others = (own, each)
      by_case Equal others = (own, each.1)
      by_case Greater others = (each.0, others)

  pub AllByRecursion-sorted_by : (P : R → Type 0) (rows : List R) → AllByRecursion P rows
      → AllByRecursion P (sorted_by o rows)
  AllByRecursion-sorted_by P [] each = tt
  AllByRecursion-sorted_by P (r ∷ rs) each =
      AllByRecursion-put P r (sorted_by o rs) each.0 (AllByRecursion-sorted_by P rs each.1)

-- ---- names and numbers that rise

-- rows in the order of their names
abbrev pub by_bytes : {R : Type 0} → (R → List ℕ) → Order (List ℕ) R
by_bytes name = record { compare = bytes_cmp; key = name }

RiseFrom-rises : {R X : Type 0} (name : R → List ℕ) (value : R → X) (low : List ℕ) (rows : List R)
    → IsTrue (list_all (is_past (by_bytes name) low) rows) → IsTrue (rises (by_bytes name) rows)
    → RiseFrom low (keys_of (map (λ r. (name r, value r)) rows))
RiseFrom-rises name value low [] past rise = tt
RiseFrom-rises name value low (r ∷ rs) past rise = (
  less_from_is_lt (bytes_cmp low (name r))
      (and_parts (is_past (by_bytes name) low r) (list_all (is_past (by_bytes name) low) rs) past).0,
  RiseFrom-rises name value (name r) rs
      (rises_head (by_bytes name) r rs rise)
      (rises_tail (by_bytes name) r rs rise),
)

pub Rise-rises : {R X : Type 0} (name : R → List ℕ) (value : R → X) (rows : List R)
    → IsTrue (rises (by_bytes name) rows) → Rise (keys_of (map (λ r. (name r, value r)) rows))
Rise-rises name value [] rise = tt
Rise-rises name value (r ∷ rs) rise =
    RiseFrom-rises name value (name r) rs
    (rises_head (by_bytes name) r rs rise)
    (rises_tail (by_bytes name) r rs rise)

less_from_nat_cmp : (a b : ℕ) → IsTrue (is_lt (nat_cmp a b)) → a < b
less_from_nat_cmp a b is = by_case (nat_lt a b) refl (a == b) is
  where
    by_case : (c : Bool) → nat_lt a b ≡ c → (d : Bool) → IsTrue (is_lt (cond c Less (cond d Equal Greater))) → a < b
    by_case true less d own = ltb-true a b less
    by_case false less true own = absurd (cc own)
    by_case false less false own = absurd (cc own)

pub Ascend-rises : {X : Type 0} (value : Inode → X) (low next : ℕ) (rows : List Inode) → low ≤ next
    → IsTrue (list_all (λ r. nat_le low r.id) rows) → IsTrue (list_all (λ r. nat_lt r.id next) rows)
    → IsTrue (rises by_inode rows)
    → Ascend low (keys_of (map (λ r. (r.id, value r)) rows)) next
Ascend-rises value low next [] within least below rise = within
Ascend-rises value low next (r ∷ rs) within least below rise = (
  leb-true low r.id (and_parts (nat_le low r.id) (list_all (λ (x : Inode). nat_le low x.id) rs) least).0,
  Ascend-rises value (r.id + 1) next rs
      (omega (
        arith,
        ltb-true r.id next
            (and_parts (nat_lt r.id next) (list_all (λ (x : Inode). nat_lt x.id next) rs) below).0,
      ))
      (list_all_weaker (is_past by_inode r.id) (λ x. nat_le (r.id + 1) x.id)
      (λ x past. le-leb (r.id + 1) x.id (omega (arith, less_from_nat_cmp r.id x.id past))) rs
      (rises_head by_inode r rs rise))
      (and_parts (nat_lt r.id next) (list_all (λ (x : Inode). nat_lt x.id next) rs) below).1
      (rises_tail by_inode r rs rise),
)
