-- Rows by a mark and their keys: what a walk over all places of one mark finds.
use Rattle.std.proofs.Common.{◌≡◌, List, [], ◌∷◌, Bool, true, false, cond, Option, None, Some, map, refl, sym, ap, ◌∙◌}
use Rattle.std.specs.Prelude.{IsTrue, IfSome, is_some, option_map, filter}
use Rattle.std.specs.List.{AllByRecursion}
use Rattle.std.specs.List.Sorted.{IsStrictlySortedBy}
use Rattle.std.specs.Map.{keys_of, lookup}
use Rattle.std.specs.BTreeMap.{is_at}
use Rattle.std.specs.Cmp.{IsTotalOrder}
use Rattle.std.specs.declared.cmp.Ordering.{Ordering}
use Rattle.std.specs.declared.cmp.Ordering.TheVariants.{Less, Equal}
use Rattle.std.specs.Ordering.{is_eq, ordering_then}
use Rattle.std.proofs.lemmas.Bool.{false≢true}
use Rattle.s3_rows.specs.Keyed.{Order, rises, row_at}
use Rattle.row_lemmas.proofs.Tests.{equal_from_is_eq}
use Rattle.row_lemmas.proofs.Keyed.Rises.{rises-filter}
use Rattle.row_lemmas.proofs.Keyed.RowAt.{row_at_key, row_at_tied, same_from_row_at}
use Rattle.row_lemmas.proofs.Keyed.Filter.{row_at-filter, if_passes}
use Rattle.mem_keeper.specs.Table.{rows_of, held_in, IsTable}
use Rattle.mem_keeper.proofs.Tabled.{row_at-rows_of, rises-rows_of}

-- ---- filters of entries by their keys

pub keys_of-filter : {K X : Type 0} (p : K → Bool) (es : List (K × X)) → keys_of (filter (λ e. p e.0) es) ≡ filter p (keys_of es)
keys_of-filter p [] = refl
keys_of-filter p (e ∷ es) = by_case (p e.0) (keys_of-filter p es)
  where
    by_case : (b : Bool) → keys_of (filter (λ e. p e.0) es) ≡ filter p (keys_of es)
        → keys_of (cond b (e ∷ filter (λ e. p e.0) es) (filter (λ e. p e.0) es)) ≡ cond b (e.0 ∷ filter p (keys_of es)) (filter p (keys_of es))
    by_case true rest = ap (λ ks. e.0 ∷ ks) rest
    by_case false rest = rest

pub all_keys : {K X : Type 0} (P : K → Type 0) (p : K → Bool) → ((k : K) → p k ≡ true → P k) → (es : List (K × X))
    → AllByRecursion P (keys_of (filter (λ e. p e.0) es))
all_keys P p meets [] = tt
all_keys P p meets (e ∷ es) = by_case (p e.0) refl (all_keys P p meets es)
  where
    by_case : (b : Bool) → p e.0 ≡ b → AllByRecursion P (keys_of (filter (λ e. p e.0) es))
        → AllByRecursion P (keys_of (cond b (e ∷ filter (λ e. p e.0) es) (filter (λ e. p e.0) es)))
    by_case true passes rest = (meets e.0 passes, rest)
    by_case false passes rest = rest

-- ---- what is found of a row

passed : {R : Type 0} (test : R → Bool) (v : Option R) (r : R) → if_passes test v ≡ Some r → (v ≡ Some r) × (test r ≡ true)
passed test None r is = absurd (cc is)
passed test (Some x) r is = by_case (test x) refl is
  where
    by_case : (b : Bool) → test x ≡ b → cond b (Some x) None ≡ Some r → (Some x ≡ Some r) × (test r ≡ true)
    by_case true passes same =
        let one : x ≡ r = cc same in
        (same, sym (ap test one) ∙ passes)
    by_case false passes none = absurd (cc none)

held_where : {R X : Type 0} (w : Option X) (z : Option R) → ((r : R) → z ≡ Some r → is_some w ≡ true)
    → held_in (option_map (λ x. z) w) ≡ z
held_where None None there = refl
held_where None (Some r) there = absurd (false≢true (there r refl))
held_where (Some x) z there = refl

module _ {M K R : Type 0} (mo : M → M → Ordering) (mt : IsTotalOrder mo) (o : Order K R) (total : IsTotalOrder o.compare) where
  -- places by their marks and then by their keys
  abbrev pub by_mark : M × K → M × K → Ordering
  by_mark a b = ordering_then (mo a.0 b.0) (o.compare a.1 b.1)

  at_same : (m n : M) (q k : K) → mo m n ≡ Equal → by_mark (m, q) (n, k) ≡ o.compare q k
  at_same m n q k same = ap (λ c. ordering_then c (o.compare q k)) same

  module _ {X : Type 0} where
    -- what is found at the keys of places
    abbrev pub found_at : (K → Option R) → List ((M × K) × X) → List (K × Option R)
    found_at found ps = map (λ e. (e.0.1, found e.0.1)) ps

    found_past : (found : K → Option R) (m n : M) (k : K) (ps : List ((M × K) × X)) → mo m n ≡ Equal
        → AllByRecursion (λ a. mo m a.0 ≡ Equal) (keys_of ps) → AllByRecursion (λ y. by_mark (n, k) y ≡ Less) (keys_of ps)
        → AllByRecursion (λ y. o.compare k y ≡ Less) (keys_of (found_at found ps))
    found_past found m n k [] same marks past = tt
    found_past found m n k (e ∷ ps) same marks past =
        (sym (at_same n e.0.0 k e.0.1 (sym (mt.congr m n e.0.0 same) ∙ marks.0)) ∙ past.0, found_past found m n k ps same marks.1 past.1)

    found_sorted : (found : K → Option R) (m : M) (ps : List ((M × K) × X))
        → AllByRecursion (λ a. mo m a.0 ≡ Equal) (keys_of ps) → IsStrictlySortedBy by_mark (keys_of ps)
        → IsStrictlySortedBy o.compare (keys_of (found_at found ps))
    unfolding IsStrictlySortedBy
    found_sorted found m [] marks up = tt
    found_sorted found m (e ∷ ps) marks up =
        (found_past found m e.0.0 e.0.1 ps marks.0 marks.1 up.0, found_sorted found m ps marks.1 up.1)

    found_keyed : (found : K → Option R) (ps : List ((M × K) × X))
        → ((k : K) → IfSome (found k) (λ r. o.compare k (o.key r) ≡ Equal))
        → AllByRecursion (λ e. IfSome e.1 (λ r. o.compare e.0 (o.key r) ≡ Equal)) (found_at found ps)
    found_keyed found [] own = tt
    found_keyed found (e ∷ ps) own = (own e.0.1, found_keyed found ps own)

    lookup-found_at : (found : K → Option R) → ((q k : K) → o.compare q k ≡ Equal → found q ≡ found k) → (m : M) (q : K)
        (ps : List ((M × K) × X)) → AllByRecursion (λ a. mo m a.0 ≡ Equal) (keys_of ps)
        → lookup (is_at (o.compare q)) (found_at found ps) ≡ option_map (λ x. found q) (lookup (is_at (by_mark (m, q))) ps)
    lookup-found_at found agrees m q [] marks = refl
    lookup-found_at found agrees m q (e ∷ ps) marks =
        by_case (is_eq (o.compare q e.0.1)) refl (lookup-found_at found agrees m q ps marks.1)
        ∙ ap (λ c. option_map (λ x. found q) (cond (is_eq c) (Some e.1) (lookup (is_at (by_mark (m, q))) ps)))
        (sym (at_same m e.0.0 q e.0.1 marks.0))
      where
        by_case : (b : Bool) → is_eq (o.compare q e.0.1) ≡ b
            → lookup (is_at (o.compare q)) (found_at found ps) ≡ option_map (λ x. found q) (lookup (is_at (by_mark (m, q))) ps)
            → cond b (Some (found e.0.1)) (lookup (is_at (o.compare q)) (found_at found ps))
            ≡ option_map (λ x. found q) (cond b (Some e.1) (lookup (is_at (by_mark (m, q))) ps))
        by_case true is rest = ap Some (sym (agrees q e.0.1 (equal_from_is_eq (o.compare q e.0.1) is)))
        by_case false is rest = rest

    -- the rows that pass a test, where each has a place
    pub rows_of-found_at : (test : R → Bool) (m : M) (rows : List R) (ps : List ((M × K) × X)) → IsTrue (rises o rows)
        → AllByRecursion (λ a. mo m a.0 ≡ Equal) (keys_of ps) → IsStrictlySortedBy by_mark (keys_of ps)
        → ((q : K) (r : R) → row_at o q rows ≡ Some r → test r ≡ true → is_some (lookup (is_at (by_mark (m, q))) ps) ≡ true)
        → rows_of (found_at (λ k. if_passes test (row_at o k rows)) ps) ≡ filter test rows
    rows_of-found_at test m rows ps up marks sorted listed =
        same_from_row_at o total (rows_of (found_at found ps)) (filter test rows) (rises-rows_of o total (found_at found ps) table) (rises-filter o test rows up)
        (λ q. row_at-rows_of o total q (found_at found ps) table ∙ ap held_in (lookup-found_at found agrees m q ps marks)
        ∙ held_where (lookup (is_at (by_mark (m, q))) ps) (found q)
        (λ r is. let both = passed test (row_at o q rows) r is in listed q r both.0 both.1)
        ∙ sym (row_at-filter o total test q rows up))
      where
        found : K → Option R
        found k = if_passes test (row_at o k rows)

        own : (k : K) → IfSome (found k) (λ r. o.compare k (o.key r) ≡ Equal)
        own k = by_row (row_at o k rows) refl
          where
            by_row : (v : Option R) → row_at o k rows ≡ v → IfSome (if_passes test v) (λ r. o.compare k (o.key r) ≡ Equal)
            by_row None is = tt
            by_row (Some r) is = by_test (test r)
              where
                by_test : (b : Bool) → IfSome (cond b (Some r) None) (λ r. o.compare k (o.key r) ≡ Equal)
                by_test true = row_at_key o k rows r is
                by_test false = tt

        agrees : (q k : K) → o.compare q k ≡ Equal → found q ≡ found k
        agrees q k same = ap (if_passes test) (row_at_tied o total q k rows same)

        table : IsTable o (found_at found ps)
        table = record { ordered = found_sorted found m ps marks sorted; keyed = found_keyed found ps own }
