-- What the places of an owner give: the rows of the owner with the bytes of their names.
use Rattle.std.proofs.Common.{◌≡◌, ℕ, zero, suc, ◌+◌, ◌<◌, take, List, [], ◌∷◌, Bool, true, false, cond, All, Option, None, Some, not, ◌==◌, refl, sym, ap, ◌∙◌, subst, arith, eq-eqb, eqb-true}
use Rattle.std.specs.Prelude.{IsTrue, IsSome, is_some, option_map, filter, find, IfSome, map}
use Rattle.std.specs.List.{AllByRecursion, cons_option, filter_map, list_all}
use Rattle.std.specs.List.Sorted.{IsStrictlySortedBy}
use Rattle.std.specs.Map.{keys_of, lookup}
use Rattle.std.specs.BTreeMap.{BTreeMap, is_at, get}
use Rattle.std.specs.BTreeMap.Range.{range_contains, entries_between}
use Rattle.std.specs.Cmp.{IsTotalOrder, nat_cmp_is}
use Rattle.std.specs.FinMap.{nat_cmp-IsAntisymmetric}
use Rattle.std.specs.declared.cmp.Ordering.{Ordering}
use Rattle.std.specs.declared.cmp.Ordering.TheVariants.{Less, Equal, Greater}
use Rattle.std.specs.declared.ops.Bound.TheVariants.{Excluded}
use Rattle.std.specs.Ordering.{is_eq, is_lt, is_le, is_gt, nat_cmp, ordering_then}
use Rattle.std.proofs.lemmas.Bool.{and_parts, and_from}
use Rattle.std.proofs.lemmas.Cmp.{ranked, tied_itself, nat_cmp_total, nat_list_cmp_total, then_total, on_total}
use Rattle.std.proofs.lemmas.List.Elements.{recursion_from_All}
use Rattle.std.proofs.lemmas.List.Kept.{IsStrictlySortedBy-filter}
use Rattle.std.proofs.lemmas.Map.Entries.{lookup-filter-keys}
use Rattle.s3_rows.specs.Rows.{Name}
use Rattle.s3_rows.specs.Keyed.{Order, pair_cmp, has_key, is_past, rises, row_at, rows_past, sorted_by}
use Rattle.s3_rows.specs.Tables.{by_name}
use Rattle.s3_rows.specs.Selections.{bytes_cmp}
use Rattle.row_lemmas.proofs.Tests.{equal_from_is_eq, less_from_is_lt, pair_parts}
use Rattle.row_lemmas.proofs.Keyed.Rises.{rises_head, rises_tail, rises-filter}
use Rattle.row_lemmas.proofs.Keyed.RowAt.{row_at_key, row_at_meets, same_from_row_at}
use Rattle.row_lemmas.proofs.Keyed.Filter.{row_at-filter, if_passes}
use Rattle.row_lemmas.proofs.Keyed.Sorted.{rises-sorted_by, row_at-sorted_by}
use Rattle.row_lists.specs.Listing.{by_bytes, with_name}
use Rattle.mem_keeper.specs.Table.{rows_of}
use Rattle.mem_keeper.specs.Filed.{Place, mark_cmp, place_cmp, IsPlaced, named_as, made_of, found, apart}
use Rattle.mem_keeper.proofs.Marks.{keys_of-filter, all_keys, rows_of-found_at}
use Rattle.mem_keeper.proofs.Parts.{find-filter_same}
use Rattle.mem_keeper.proofs.Apart.{bytes_equal, upto, Climbs, apart_past}

pub mark_cmp_total : IsTotalOrder mark_cmp
mark_cmp_total =
    then_total (on_total (λ (p : ℕ × List ℕ). p.0) nat_cmp_total) (on_total (λ (p : ℕ × List ℕ). p.1) nat_list_cmp_total)

-- ---- parts of a comparison

then_equal : (c d : Ordering) → ordering_then c d ≡ Equal → (c ≡ Equal) × (d ≡ Equal)
then_equal Less d is = absurd (cc is)
then_equal Equal d is = (refl, is)
then_equal Greater d is = absurd (cc is)

pub mark_equal : (a b : ℕ × List ℕ) → mark_cmp a b ≡ Equal → a ≡ b
mark_equal a b is =
    let parts = then_equal (nat_cmp a.0 b.0) (bytes_cmp a.1 b.1) is in
    let first : a.0 ≡ b.0 = nat_cmp-IsAntisymmetric a.0 b.0 parts.0 in
    let second : a.1 ≡ b.1 = bytes_equal a.1 b.1 parts.1 in
    λ i. (first i, second i)

pub place_equal : (a b : Place) → place_cmp a b ≡ Equal → a ≡ b
place_equal a b is =
    let parts = then_equal (mark_cmp a.0 b.0) (nat_cmp a.1 b.1) is in
    let first : a.0 ≡ b.0 = mark_equal a.0 b.0 parts.0 in
    let second : a.1 ≡ b.1 = nat_cmp-IsAntisymmetric a.1 b.1 parts.1 in
    λ i. (first i, second i)

-- of places of one owner, one that is below another has no greater name
names_upto : (a b : Place) → a.0.0 ≡ b.0.0 → place_cmp a b ≡ Less → IsTrue (upto nat_list_cmp_total a.0.1 b.0.1)
names_upto a b owner less =
    by_first (bytes_cmp a.0.1 b.0.1)
    (sym (ap (λ c. ordering_then (ordering_then c (bytes_cmp a.0.1 b.0.1)) (nat_cmp a.1 b.1)) (ap (λ n. nat_cmp a.0.0 n) (sym owner) ∙ tied_itself nat_cmp_total a.0.0)) ∙ less)
  where
    by_first : (c : Ordering) → ordering_then c (nat_cmp a.1 b.1) ≡ Less → IsTrue (not (is_gt c))
    by_first Less is = refl
    by_first Equal is = refl
    by_first Greater is = absurd (cc is)

-- ---- the places of an owner past a name

abbrev pub within : ℕ → List ℕ → Place → Bool
within owner after p = range_contains place_cmp (Excluded ((owner, after), 18446744073709551615)) (Excluded ((owner + 1, []), 0)) p

empty_first : (b : List ℕ) (n : ℕ) → IsTrue (not (is_le (ordering_then (ordering_then Equal (bytes_cmp [] b)) (nat_cmp 0 n)))) → ⊥
empty_first [] n is = by_number (nat_cmp 0 n) refl is
  where
    by_number : (c : Ordering) → nat_cmp 0 n ≡ c → IsTrue (not (is_le c)) → ⊥
    by_number Less one is = cc is
    by_number Equal one is = cc is
    by_number Greater one is =
        let low : n < 0 = ranked 0 n Greater (sym one) in
        omega arith
empty_first (x ∷ xs) n is = cc is

below_end : (owner : ℕ) (p : Place) → IsTrue (not (is_le (place_cmp ((owner + 1, []), 0) p))) → p.0.0 < owner + 1
below_end owner p is = by_first (nat_cmp (owner + 1) p.0.0) refl is
  where
    by_first : (c : Ordering) → nat_cmp (owner + 1) p.0.0 ≡ c
        → IsTrue (not (is_le (ordering_then (ordering_then c (bytes_cmp [] p.0.1)) (nat_cmp 0 p.1)))) → p.0.0 < owner + 1
    by_first Less one is = absurd (cc is)
    by_first Equal one is = absurd (empty_first p.0.1 p.1 is)
    by_first Greater one is = ranked (owner + 1) p.0.0 Greater (sym one)

from_start : (owner : ℕ) (after : List ℕ) (p : Place) → IsTrue (is_lt (place_cmp ((owner, after), 18446744073709551615) p))
    → p.0.0 < owner + 1 → (p.0.0 ≡ owner) × IsTrue (upto nat_list_cmp_total after p.0.1)
from_start owner after p is low = by_first (nat_cmp owner p.0.0) refl is
  where
    by_bytes_too : (c : Ordering) → IsTrue (is_lt (ordering_then c (nat_cmp 18446744073709551615 p.1))) → IsTrue (not (is_gt c))
    by_bytes_too Less is = refl
    by_bytes_too Equal is = refl
    by_bytes_too Greater is = absurd (cc is)

    by_first : (c : Ordering) → nat_cmp owner p.0.0 ≡ c
        → IsTrue (is_lt (ordering_then (ordering_then c (bytes_cmp after p.0.1)) (nat_cmp 18446744073709551615 p.1)))
        → (p.0.0 ≡ owner) × IsTrue (upto nat_list_cmp_total after p.0.1)
    by_first Less one is =
        let high : owner < p.0.0 = ranked owner p.0.0 Less (sym one) in
        absurd (omega arith)
    by_first Equal one is = (sym (nat_cmp-IsAntisymmetric owner p.0.0 one), by_bytes_too (bytes_cmp after p.0.1) is)
    by_first Greater one is = absurd (cc is)

pub in_within : (owner : ℕ) (after : List ℕ) (p : Place) → within owner after p ≡ true
    → (p.0.0 ≡ owner) × IsTrue (upto nat_list_cmp_total after p.0.1)
in_within owner after p is =
    let parts = and_parts (is_lt (place_cmp ((owner, after), 18446744073709551615) p)) (not (is_le (place_cmp ((owner + 1, []), 0) p))) is in
    from_start owner after p parts.0 (below_end owner p parts.1)

pub within_own : (owner : ℕ) (after bytes : List ℕ) (id : ℕ) → bytes_cmp after bytes ≡ Less → within owner after ((owner, bytes), id) ≡ true
within_own owner after bytes id less =
    and_from (is_lt (place_cmp ((owner, after), 18446744073709551615) ((owner, bytes), id))) (not (is_le (place_cmp ((owner + 1, []), 0) ((owner, bytes), id))))
    (ap (λ c. is_lt (ordering_then (ordering_then c (bytes_cmp after bytes)) (nat_cmp 18446744073709551615 id))) (tied_itself nat_cmp_total owner)
    ∙ ap (λ c. is_lt (ordering_then c (nat_cmp 18446744073709551615 id))) less)
    (ap (λ c. not (is_le (ordering_then (ordering_then c (bytes_cmp [] bytes)) (nat_cmp 0 id)))) (sym (nat_cmp_is (owner + 1) owner Greater (omega arith))))

pub forward : (owner : ℕ) (after : List ℕ) → place_cmp ((owner, after), 18446744073709551615) ((owner + 1, []), 0) ≡ Less
forward owner after =
    ap (λ c. ordering_then (ordering_then c (bytes_cmp after [])) (nat_cmp 18446744073709551615 0)) (sym (nat_cmp_is owner (owner + 1) Less (omega arith)))

-- ---- the owner past which there is none

pub no_own : {R : Type 0} (key : R → ℕ × ℕ) (owner : ℕ) (rows : List R) → AllByRecursion (λ r. (key r).0 < owner) rows
    → filter (λ r. (key r).0 == owner) rows ≡ []
no_own key owner [] low = refl
no_own key owner (r ∷ rs) low = by_test ((key r).0 == owner) refl (no_own key owner rs low.1)
  where
    by_test : (b : Bool) → ((key r).0 == owner) ≡ b → filter (λ s. (key s).0 == owner) rs ≡ []
        → cond b (r ∷ filter (λ s. (key s).0 == owner) rs) (filter (λ s. (key s).0 == owner) rs) ≡ []
    by_test true is rest = absurd (omega (arith, low.0, eqb-true (key r).0 owner is))
    by_test false is rest = rest

pub take_none : {X : Type 0} (n : ℕ) (xs : List X) → xs ≡ [] → take n xs ≡ []
take_none zero xs is = refl
take_none (suc n) [] is = refl
take_none (suc n) (x ∷ xs) is = absurd (cc is)

-- ---- the items of places

module _ {R T : Type 0} (key : R → ℕ × ℕ) (made : R → List ℕ → T) (name_of : T → List ℕ) (names : List Name) where
  abbrev pub by_owner : Order (ℕ × ℕ) R
  by_owner = record { compare = pair_cmp; key = key }

  abbrev pub item : R → Option T
  item r = with_name (λ s. (key s).1) made names r

  abbrev pub at : List R → Place → Option T
  at rows p = found by_owner made name_of names rows p

  named : (bytes : List ℕ) (v : Option T) (x : T) → named_as name_of bytes v ≡ Some x → bytes ≡ name_of x
  named bytes None x is = absurd (cc is)
  named bytes (Some y) x is = by_test (is_eq (bytes_cmp bytes (name_of y))) refl is
    where
      by_test : (b : Bool) → is_eq (bytes_cmp bytes (name_of y)) ≡ b → cond b (Some y) None ≡ Some x → bytes ≡ name_of x
      by_test true tied same =
          let one : y ≡ x = cc same in
          bytes_equal bytes (name_of y) (equal_from_is_eq (bytes_cmp bytes (name_of y)) tied) ∙ ap name_of one
      by_test false tied none = absurd (cc none)

  -- ---- they climb

  abbrev Above : ℕ → List ℕ → Place → Type 0
  Above owner last p = (p.0.0 ≡ owner) × IsTrue (upto nat_list_cmp_total last p.0.1)

  above_next : (owner : ℕ) (last : List ℕ) (p : Place) (ps : List Place) → p.0.0 ≡ owner → AllByRecursion (Above owner last) ps
      → AllByRecursion (λ q. place_cmp p q ≡ Less) ps → AllByRecursion (Above owner p.0.1) ps
  above_next owner last p [] own above less = tt
  above_next owner last p (q ∷ qs) own above less =
      ((above.0.0, names_upto p q (own ∙ sym above.0.0) less.0), above_next owner last p qs own above.1 less.1)

  pub climbs_found : (rows : List R) (owner : ℕ) (last : List ℕ) (ps : List Place) → AllByRecursion (Above owner last) ps
      → IsStrictlySortedBy place_cmp ps → Climbs name_of last (filter_map (at rows) ps)
  unfolding IsStrictlySortedBy
  climbs_found rows owner last [] above up = tt
  climbs_found rows owner last (p ∷ ps) above up =
      by_item (climbs_found rows owner last ps above.1 up.1) (climbs_found rows owner p.0.1 ps (above_next owner last p ps above.0.0 above.1 up.0) up.1) (at rows p) refl
    where
      by_item : Climbs name_of last (filter_map (at rows) ps) → Climbs name_of p.0.1 (filter_map (at rows) ps) → (v : Option T) → at rows p ≡ v
          → Climbs name_of last (cons_option v (filter_map (at rows) ps))
      by_item without with_it None is = without
      by_item without with_it (Some x) is =
          let name : p.0.1 ≡ name_of x = named p.0.1 (made_of key made names (row_at by_owner (p.0.0, p.1) rows)) x is in
          (subst (λ n. IsTrue (upto nat_list_cmp_total last n)) name above.0.1, subst (λ n. Climbs name_of n (filter_map (at rows) ps)) name with_it)

  -- ---- the rows of an owner, by the numbers of their names

  abbrev by_id : Order ℕ R
  by_id = record { compare = nat_cmp; key = λ r. (key r).1 }

  module _ (owner : ℕ) where
    abbrev own : R → Bool
    own r = (key r).0 == owner

    passes_own : (p q : R → Bool) → ((r : R) → own r ≡ true → IsTrue (p r) → IsTrue (q r)) → (rows : List R)
        → IsTrue (list_all p rows) → IsTrue (list_all q (filter own rows))
    passes_own p q follows [] all = refl
    passes_own p q follows (r ∷ rs) all =
        let parts = and_parts (p r) (list_all p rs) all in
        by_own (own r) refl parts.0 (passes_own p q follows rs parts.1)
      where
        by_own : (b : Bool) → own r ≡ b → IsTrue (p r) → IsTrue (list_all q (filter own rs))
            → IsTrue (list_all q (cond b (r ∷ filter own rs) (filter own rs)))
        by_own true is here rest = and_from (q r) (list_all q (filter own rs)) (follows r is here) rest
        by_own false is here rest = rest

    rises_own : (rows : List R) → IsTrue (rises by_owner rows) → IsTrue (rises by_id (filter own rows))
    rises_own [] up = refl
    rises_own (r ∷ rs) up =
        by_own (own r) refl (rises_own rs (rises_tail by_owner r rs up))
      where
        later : (x : R) → own r ≡ true → own x ≡ true → IsTrue (is_past by_owner (key r) x) → IsTrue (is_past by_id (key r).1 x)
        later x first second past =
            let one : (key r).0 ≡ owner = eqb-true (key r).0 owner first in
            let two : (key x).0 ≡ owner = eqb-true (key x).0 owner second in
            let tied : nat_cmp (key r).0 (key x).0 ≡ Equal = ap (λ n. nat_cmp (key r).0 n) (two ∙ sym one) ∙ tied_itself nat_cmp_total (key r).0 in
            sym (ap (λ c. is_lt (ordering_then c (nat_cmp (key r).1 (key x).1))) tied) ∙ past

        by_own : (b : Bool) → own r ≡ b → IsTrue (rises by_id (filter own rs))
            → IsTrue (rises by_id (cond b (r ∷ filter own rs) (filter own rs)))
        by_own true is rest =
            and_from (list_all (is_past by_id (key r).1) (filter own rs)) (rises by_id (filter own rs))
            (passes_own (is_past by_owner (key r)) (is_past by_id (key r).1) (λ x mine past. later x is mine past) rs (rises_head by_owner r rs up))
            rest
        by_own false is rest = rest

    row_at_own : (id : ℕ) (rows : List R) → row_at by_id id (filter own rows) ≡ row_at by_owner (owner, id) rows
    row_at_own id [] = refl
    row_at_own id (r ∷ rs) = by_own (own r) refl (row_at_own id rs)
      where
        other : (c d : Ordering) → nat_cmp owner (key r).0 ≡ c → own r ≡ false → is_eq (ordering_then c d) ≡ false
        other Less d one is = refl
        other Equal d one is =
            let same : own r ≡ true = eq-eqb (key r).0 owner (sym (nat_cmp-IsAntisymmetric owner (key r).0 one)) in
            absurd (cc (sym is ∙ same))
        other Greater d one is = refl

        by_own : (b : Bool) → own r ≡ b → row_at by_id id (filter own rs) ≡ row_at by_owner (owner, id) rs
            → row_at by_id id (cond b (r ∷ filter own rs) (filter own rs)) ≡ row_at by_owner (owner, id) (r ∷ rs)
        by_own true is rest =
            let tied : nat_cmp owner (key r).0 ≡ Equal = ap (λ n. nat_cmp owner n) (eqb-true (key r).0 owner is) ∙ tied_itself nat_cmp_total owner in
            ap (λ l. cond (has_key by_id id r) (Some r) l) rest
            ∙ sym (ap (λ c. cond (is_eq (ordering_then c (nat_cmp id (key r).1))) (Some r) (row_at by_owner (owner, id) rs)) tied)
        by_own false is rest =
            rest ∙ sym (ap (λ b. cond b (Some r) (row_at by_owner (owner, id) rs)) (other (nat_cmp owner (key r).0) (nat_cmp id (key r).1) refl is))

    -- ---- those of one name

    module _ (bytes : List ℕ) where
      abbrev is_named : T → Bool
      is_named x = is_eq (bytes_cmp bytes (name_of x))

      abbrev item_named : Option T → Bool
      item_named z = elim z [ None ↦ false | Some x ↦ is_named x ]

      abbrev row_named : R → Bool
      row_named r = item_named (item r)

      abbrev same_name : Place → Bool
      same_name p = is_eq (bytes_cmp bytes p.0.1)

      one_row : (r : R) (A : List T) (B : List R) → filter is_named A ≡ filter_map item B → (z : Option T) → item r ≡ z
          → filter is_named (cons_option (named_as name_of bytes z) A) ≡ filter_map item (cons_option (cond (item_named z) (Some r) None) B)
      one_row r A B rest None is = rest
      one_row r A B rest (Some x) is = by_test (is_named x) refl
        where
          by_test : (b : Bool) → is_named x ≡ b
              → filter is_named (cons_option (cond b (Some x) None) A) ≡ filter_map item (cons_option (cond b (Some r) None) B)
          by_test true passes =
              ap (λ b. cond b (x ∷ filter is_named A) (filter is_named A)) passes ∙ ap (λ l. x ∷ l) rest
              ∙ sym (ap (λ z. cons_option z (filter_map item B)) is)
          by_test false passes = rest

      one_found : (v : Option R) (A : List T) (B : List R) → filter is_named A ≡ filter_map item B
          → filter is_named (cons_option (named_as name_of bytes (made_of key made names v)) A) ≡ filter_map item (cons_option (if_passes row_named v) B)
      one_found None A B rest = rest
      one_found (Some r) A B rest = one_row r A B rest (item r) refl

      one_other : (other : List ℕ) (v : Option T) (A : List T) → is_eq (bytes_cmp bytes other) ≡ false
          → filter is_named (cons_option (named_as name_of other v) A) ≡ filter is_named A
      one_other other v A apart = by_item (named_as name_of other v) refl
        where
          by_item : (z : Option T) → named_as name_of other v ≡ z → filter is_named (cons_option z A) ≡ filter is_named A
          by_item None is = refl
          by_item (Some x) is =
              let name : other ≡ name_of x = named other v x is in
              ap (λ b. cond b (x ∷ filter is_named A) (filter is_named A)) (sym (ap (λ n. is_eq (bytes_cmp bytes n)) name) ∙ apart)

      rows_named : (rs : List R) → filter is_named (filter_map item rs) ≡ filter_map item (filter row_named rs)
      rows_named [] = refl
      rows_named (r ∷ rs) = by_item (item r) refl (rows_named rs)
        where
          by_item : (z : Option T) → item r ≡ z → filter is_named (filter_map item rs) ≡ filter_map item (filter row_named rs)
              → filter is_named (cons_option z (filter_map item rs)) ≡ filter_map item (cond (item_named z) (r ∷ filter row_named rs) (filter row_named rs))
          by_item None is rest = rest
          by_item (Some x) is rest = by_test (is_named x) refl
            where
              by_test : (b : Bool) → is_named x ≡ b
                  → cond b (x ∷ filter is_named (filter_map item rs)) (filter is_named (filter_map item rs))
                  ≡ filter_map item (cond b (r ∷ filter row_named rs) (filter row_named rs))
              by_test true passes = ap (λ l. x ∷ l) rest ∙ sym (ap (λ z. cons_option z (filter_map item (filter row_named rs))) is)
              by_test false passes = rest

      abbrev row_found : List R → ℕ → Option R
      row_found rows id = if_passes row_named (row_at by_id id (filter own rows))

      module _ {X : Type 0} (rows : List R) where
        items_named : (es : List (Place × X)) → AllByRecursion (λ p. p.0.0 ≡ owner) (keys_of es)
            → filter is_named (filter_map (at rows) (keys_of es))
            ≡ filter_map item (rows_of (map (λ e. (e.0.1, row_found rows e.0.1)) (filter (λ e. same_name e.0) es)))
        items_named [] own_all = refl
        items_named (e ∷ es) own_all =
            by_name_test (same_name e.0) refl (items_named es own_all.1)
          where
            by_name_test : (b : Bool) → same_name e.0 ≡ b → filter is_named (filter_map (at rows) (keys_of es))
                ≡ filter_map item (rows_of (map (λ e. (e.0.1, row_found rows e.0.1)) (filter (λ e. same_name e.0) es)))
                → filter is_named (cons_option (at rows e.0) (filter_map (at rows) (keys_of es)))
                ≡ filter_map item (rows_of (map (λ e. (e.0.1, row_found rows e.0.1)) (cond b (e ∷ filter (λ e. same_name e.0) es) (filter (λ e. same_name e.0) es))))
            by_name_test true is rest =
                let name : e.0.0.1 ≡ bytes = sym (bytes_equal bytes e.0.0.1 (equal_from_is_eq (bytes_cmp bytes e.0.0.1) is)) in
                let row : row_at by_owner (e.0.0.0, e.0.1) rows ≡ row_at by_id e.0.1 (filter own rows) =
                ap (λ n. row_at by_owner (n, e.0.1) rows) own_all.0 ∙ sym (row_at_own e.0.1 rows) in
                ap (λ n. filter is_named (cons_option (named_as name_of n (made_of key made names (row_at by_owner (e.0.0.0, e.0.1) rows))) (filter_map (at rows) (keys_of es)))) name
                ∙ ap (λ v. filter is_named (cons_option (named_as name_of bytes (made_of key made names v)) (filter_map (at rows) (keys_of es)))) row
                ∙ one_found (row_at by_id e.0.1 (filter own rows)) (filter_map (at rows) (keys_of es)) (rows_of (map (λ e. (e.0.1, row_found rows e.0.1)) (filter (λ e. same_name e.0) es))) rest
            by_name_test false is rest =
                one_other e.0.0.1 (made_of key made names (row_at by_owner (e.0.0.0, e.0.1) rows)) (filter_map (at rows) (keys_of es)) is ∙ rest

        marks_same : (es : List (Place × X)) → AllByRecursion (λ p. p.0.0 ≡ owner) (keys_of es)
            → AllByRecursion (λ p. mark_cmp (owner, bytes) p.0 ≡ Equal) (keys_of (filter (λ e. same_name e.0) es))
        marks_same [] own_all = tt
        marks_same (e ∷ es) own_all = by_name_test (same_name e.0) refl (marks_same es own_all.1)
          where
            by_name_test : (b : Bool) → same_name e.0 ≡ b
                → AllByRecursion (λ p. mark_cmp (owner, bytes) p.0 ≡ Equal) (keys_of (filter (λ e. same_name e.0) es))
                → AllByRecursion (λ p. mark_cmp (owner, bytes) p.0 ≡ Equal) (keys_of (cond b (e ∷ filter (λ e. same_name e.0) es) (filter (λ e. same_name e.0) es)))
            by_name_test true is rest = (
              ap (λ c. ordering_then c (bytes_cmp bytes e.0.0.1)) (ap (λ n. nat_cmp owner n) own_all.0 ∙ tied_itself nat_cmp_total owner)
                  ∙ equal_from_is_eq (bytes_cmp bytes e.0.0.1) is,
              rest,
            )
            by_name_test false is rest = rest

        -- of one name, the same is found first
        find_same : (es : List (Place × X)) → IsTrue (rises by_owner rows) → AllByRecursion (λ p. p.0.0 ≡ owner) (keys_of es)
            → IsStrictlySortedBy place_cmp (keys_of es)
            → ((q : ℕ) (r : R) → row_at by_id q (filter own rows) ≡ Some r → row_named r ≡ true
            → is_some (lookup (is_at (place_cmp ((owner, bytes), q))) (filter (λ e. same_name e.0) es)) ≡ true)
            → find is_named (filter_map (at rows) (keys_of es)) ≡ find is_named (filter_map item (filter own rows))
        find_same es up own_all sorted listed =
            sym (find-filter_same is_named (filter_map (at rows) (keys_of es)))
            ∙ ap (find is_named)
            (items_named es own_all
            ∙ ap (filter_map item)
            (rows_of-found_at mark_cmp mark_cmp_total by_id nat_cmp_total row_named (owner, bytes) (filter own rows) (filter (λ e. same_name e.0) es) (rises_own rows up) (marks_same es own_all)
            (subst (IsStrictlySortedBy place_cmp) (sym (keys_of-filter same_name es)) (IsStrictlySortedBy-filter place_cmp same_name (keys_of es) sorted))
            listed)
            ∙ sym (rows_named (filter own rows)))
            ∙ find-filter_same is_named (filter_map item (filter own rows))

  -- ---- all that is filed

  module _ (keeps : (r : R) (n : List ℕ) → name_of (made r n) ≡ n) (rows : List R) (places : BTreeMap Place (Unit {0})) (owner : ℕ) (after : List ℕ)
      (up : IsTrue (rises by_owner rows)) (sorted : IsStrictlySortedBy place_cmp (keys_of places.entries))
      (filed : All (λ r. IsPlaced places names (key r)) rows) where
    abbrev between : List (Place × Unit {0})
    between = filter (λ e. within owner after e.0) places.entries

    -- an item that has the bytes is that of a name with these bytes
    name_of_item : (bytes : List ℕ) (r : R) (v : Option Name) → row_at by_name (key r).1 names ≡ v → row_named owner bytes r ≡ true
        → IfSome v (λ n. IsSome (get place_cmp places (((key r).0, n.name), (key r).1)))
        → IsSome (get place_cmp places (((key r).0, bytes), (key r).1))
    name_of_item bytes r None is named_so placed =
        absurd (cc (sym (ap (λ v. item_named owner bytes (option_map (λ n. made r n.name) v)) is) ∙ named_so))
    name_of_item bytes r (Some n) is named_so placed =
        let tied : is_eq (bytes_cmp bytes (name_of (made r n.name))) ≡ true =
        sym (ap (λ v. item_named owner bytes (option_map (λ m. made r m.name) v)) is) ∙ named_so in
        let same : bytes ≡ n.name = bytes_equal bytes (name_of (made r n.name)) (equal_from_is_eq (bytes_cmp bytes (name_of (made r n.name))) tied) ∙ keeps r n.name in
        subst (λ b. IsSome (get place_cmp places (((key r).0, b), (key r).1))) (sym same) placed

    listed_between : (bytes : List ℕ) → bytes_cmp after bytes ≡ Less → (q : ℕ) (r : R) → row_at by_id q (filter (own owner) rows) ≡ Some r
        → row_named owner bytes r ≡ true
        → is_some (lookup (is_at (place_cmp ((owner, bytes), q))) (filter (λ e. same_name owner bytes e.0) between)) ≡ true
    listed_between bytes less q r there named_so =
        ap is_some
        (lookup-filter-keys (is_at (place_cmp ((owner, bytes), q))) (same_name owner bytes) true agrees_name between
        ∙ lookup-filter-keys (is_at (place_cmp ((owner, bytes), q))) (within owner after) true agrees_within places.entries)
        ∙ subst (λ k. is_some (lookup (is_at (place_cmp ((k.0, bytes), k.1))) places.entries) ≡ true) (sym own_key)
        (name_of_item bytes r (row_at by_name (key r).1 names) refl named_so
        (row_at_meets by_owner (λ s. IsPlaced places names (key s)) (owner, q) rows r (recursion_from_All (λ s. IsPlaced places names (key s)) rows filed) found_there))
      where
        found_there : row_at by_owner (owner, q) rows ≡ Some r
        found_there = sym (row_at_own owner q rows) ∙ there

        own_key : (owner, q) ≡ key r
        own_key =
            let parts = pair_parts (owner, q) (key r) (ap is_eq (row_at_key by_owner (owner, q) rows r found_there)) in
            λ i. (parts.0 i, parts.1 i)

        agrees_name : (k : Place) → is_eq (place_cmp ((owner, bytes), q) k) ≡ true → same_name owner bytes k ≡ true
        agrees_name k tied =
            subst (λ z. same_name owner bytes z ≡ true) (place_equal ((owner, bytes), q) k (equal_from_is_eq (place_cmp ((owner, bytes), q) k) tied))
            (ap is_eq (tied_itself nat_list_cmp_total bytes))

        agrees_within : (k : Place) → is_eq (place_cmp ((owner, bytes), q) k) ≡ true → within owner after k ≡ true
        agrees_within k tied =
            subst (λ z. within owner after z ≡ true) (place_equal ((owner, bytes), q) k (equal_from_is_eq (place_cmp ((owner, bytes), q) k) tied))
            (within_own owner after bytes q less)

    not_past : (bytes : List ℕ) (xs : List T) → is_lt (bytes_cmp after bytes) ≡ false
        → if_passes (is_past (by_bytes name_of) after) (row_at (by_bytes name_of) bytes xs) ≡ None
    not_past bytes xs early = by_found (row_at (by_bytes name_of) bytes xs) refl
      where
        by_found : (v : Option T) → row_at (by_bytes name_of) bytes xs ≡ v → if_passes (is_past (by_bytes name_of) after) v ≡ None
        by_found None is = refl
        by_found (Some x) is =
            let name : bytes ≡ name_of x = bytes_equal bytes (name_of x) (row_at_key (by_bytes name_of) bytes xs x is) in
            ap (λ b. cond b (Some x) None) (sym (ap (λ n. is_lt (bytes_cmp after n)) name) ∙ early)

    abbrev items : List T
    items = filter_map (at rows) (keys_of between)

    abbrev all_items : List T
    all_items = filter_map item (filter (own owner) rows)

    own_between : AllByRecursion (λ p. p.0.0 ≡ owner) (keys_of between)
    own_between = all_keys (λ p. p.0.0 ≡ owner) (within owner after) (λ p is. (in_within owner after p is).0) places.entries

    sorted_between : IsStrictlySortedBy place_cmp (keys_of between)
    sorted_between =
        subst (IsStrictlySortedBy place_cmp) (sym (keys_of-filter (within owner after) places.entries))
        (IsStrictlySortedBy-filter place_cmp (within owner after) (keys_of places.entries) sorted)

    pub climbs_between : Climbs name_of after items
    climbs_between =
        climbs_found rows owner after (keys_of between)
        (all_keys (λ p. (p.0.0 ≡ owner) × IsTrue (upto nat_list_cmp_total after p.0.1)) (within owner after) (in_within owner after) places.entries)
        sorted_between

    past_same : (xs : List T) (bytes : List ℕ)
        → row_at (by_bytes name_of) bytes (rows_past (by_bytes name_of) after (sorted_by (by_bytes name_of) xs))
        ≡ if_passes (is_past (by_bytes name_of) after) (row_at (by_bytes name_of) bytes xs)
    past_same xs bytes =
        row_at-filter (by_bytes name_of) nat_list_cmp_total (is_past (by_bytes name_of) after) bytes (sorted_by (by_bytes name_of) xs) (rises-sorted_by (by_bytes name_of) nat_list_cmp_total xs)
        ∙ ap (if_passes (is_past (by_bytes name_of) after)) (row_at-sorted_by (by_bytes name_of) nat_list_cmp_total bytes xs)

    pub page_found : rows_past (by_bytes name_of) after (sorted_by (by_bytes name_of) items)
        ≡ rows_past (by_bytes name_of) after (sorted_by (by_bytes name_of) all_items)
    page_found =
        same_from_row_at (by_bytes name_of) nat_list_cmp_total
        (rows_past (by_bytes name_of) after (sorted_by (by_bytes name_of) items))
        (rows_past (by_bytes name_of) after (sorted_by (by_bytes name_of) all_items))
        (rises-filter (by_bytes name_of) (is_past (by_bytes name_of) after) (sorted_by (by_bytes name_of) items) (rises-sorted_by (by_bytes name_of) nat_list_cmp_total items))
        (rises-filter (by_bytes name_of) (is_past (by_bytes name_of) after) (sorted_by (by_bytes name_of) all_items) (rises-sorted_by (by_bytes name_of) nat_list_cmp_total all_items))
        (λ bytes. past_same items bytes ∙ by_past bytes (is_lt (bytes_cmp after bytes)) refl ∙ sym (past_same all_items bytes))
      where
        by_past : (bytes : List ℕ) (b : Bool) → is_lt (bytes_cmp after bytes) ≡ b
            → if_passes (is_past (by_bytes name_of) after) (row_at (by_bytes name_of) bytes items)
            ≡ if_passes (is_past (by_bytes name_of) after) (row_at (by_bytes name_of) bytes all_items)
        by_past bytes true late =
            ap (if_passes (is_past (by_bytes name_of) after))
            (find_same owner bytes rows between up own_between sorted_between (listed_between bytes (less_from_is_lt (bytes_cmp after bytes) late)))
        by_past bytes false early = not_past bytes items early ∙ sym (not_past bytes all_items early)

    -- what a walk over a part of the places gives
    pub walked : (es : List (Place × Unit {0})) (start none : List ℕ) → start ≡ after → none ≡ []
        → es ≡ entries_between place_cmp (Excluded ((owner, start), 18446744073709551615)) (Excluded ((owner + 1, none), 0)) places.entries
        → apart name_of after (filter_map (at rows) (keys_of es))
        ≡ rows_past (by_bytes name_of) after (sorted_by (by_bytes name_of) all_items)
    walked es start none from to part =
        ap (λ l. apart name_of after (filter_map (at rows) (keys_of l)))
        (part
        ∙ ap (λ s. entries_between place_cmp (Excluded ((owner, s), 18446744073709551615)) (Excluded ((owner + 1, none), 0)) places.entries) from
        ∙ ap (λ n. entries_between place_cmp (Excluded ((owner, after), 18446744073709551615)) (Excluded ((owner + 1, n), 0)) places.entries) to)
        ∙ apart_past name_of after items climbs_between
        ∙ page_found
