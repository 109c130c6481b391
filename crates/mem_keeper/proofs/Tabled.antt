-- Rows by their keys in a map: their look-ups, and what changes of the map make of them.
use Rattle.std.proofs.Common.{◌≡◌, ℕ, ◌+◌, ◌<◌, ◌≤◌, arith, drop, get_or, append-nil, take_all, length, take, ◌++◌, not, ◌&&◌, List, [], ◌∷◌, Bool, true, false, cond, Option, None, Some, refl, sym, ap, ◌∙◌, subst}
use Rattle.std.specs.Prelude.{IsTrue, IfSome, IsSome, is_some}
use Rattle.std.specs.List.{AllByRecursion, list_all, filter, cons_option}
use Rattle.std.specs.List.Sorted.{IsStrictlySortedBy}
use Rattle.std.specs.Map.{keys_of, lookup, remove_entry}
use Rattle.std.specs.BTreeMap.{is_at, insert_entry}
use Rattle.std.specs.Cmp.{IsTotalOrder, alike_right, tied_back}
use Rattle.std.specs.declared.cmp.Ordering.{Ordering}
use Rattle.std.specs.declared.cmp.Ordering.TheVariants.{Less, Equal, Greater}
use Rattle.std.specs.Ordering.{is_eq, is_lt, is_le, match_ordering}
use Rattle.std.specs.declared.ops.Bound.{Bound}
use Rattle.std.specs.declared.ops.Bound.TheVariants.{Included, Excluded, Unbounded}
use Rattle.std.specs.BTreeMap.Range.{is_from_start, is_past_end, range_contains}
use Rattle.std.proofs.lemmas.Bool.{and_from, and_parts}
use Rattle.std.proofs.lemmas.List.{drop_more, take-append-le}
use Rattle.s3_rows.specs.Keyed.{Order, is_past, has_key, rises, put, without, row_at}
use Rattle.row_lemmas.proofs.Tests.{equal_from_is_eq, less_from_is_lt}
use Rattle.row_lemmas.proofs.Keyed.Rises.{rises_head, rises-drop, rises-without}
use Rattle.row_lemmas.proofs.Keyed.RowAt.{same_from_row_at}
use Rattle.row_lemmas.proofs.Keyed.Put.{put_less, rises-put, row_at-put}
use Rattle.row_lemmas.proofs.Keyed.Without.{row_at-without, without_none}
use Rattle.mem_keeper.specs.Table.{rows_of, held_in, held_at, IsTable}

module _ {K R : Type 0} (o : Order K R) where
  -- the row of an entry is at its key
  abbrev IsKeyed : K × Option R → Type 0
  IsKeyed e = IfSome e.1 (λ r. o.compare e.0 (o.key r) ≡ Equal)

  module _ (total : IsTotalOrder o.compare) where
    ends_past : (k : K) (es : List (K × Option R)) → AllByRecursion (λ y. o.compare k y ≡ Less) (keys_of es)
        → lookup (is_at (o.compare k)) es ≡ None
    ends_past k [] past = refl
    ends_past k (e ∷ es) past =
        ap (λ c. cond (is_eq c) (Some e.1) (lookup (is_at (o.compare k)) es)) past.0 ∙ ends_past k es past.1

    all_tied : (k q : K) (ks : List K) → o.compare k q ≡ Equal → AllByRecursion (λ y. o.compare q y ≡ Less) ks
        → AllByRecursion (λ y. o.compare k y ≡ Less) ks
    all_tied k q [] tied past = tt
    all_tied k q (x ∷ xs) tied past = (total.congr k q x tied ∙ past.0, all_tied k q xs tied past.1)

    -- no later entry has the key of the first
    none_later : (k q : K) (es : List (K × Option R)) → o.compare k q ≡ Equal
        → AllByRecursion (λ y. o.compare q y ≡ Less) (keys_of es) → held_at o.compare k es ≡ None
    none_later k q es tied past =
        ap held_in (ends_past k es (all_tied k q (keys_of es) tied past))

    row_at-rows_of_by : (k : K) (es : List (K × Option R)) → IsStrictlySortedBy o.compare (keys_of es)
        → AllByRecursion IsKeyed es → row_at o k (rows_of es) ≡ held_at o.compare k es
    unfolding IsStrictlySortedBy
    row_at-rows_of_by k [] up keyed = refl
    row_at-rows_of_by k ((q, Some r) ∷ es) up keyed =
        let same : has_key o k r ≡ is_eq (o.compare k q) = ap is_eq (sym (alike_right total q (o.key r) k keyed.0)) in
        ap (λ b. cond b (Some r) (row_at o k (rows_of es))) same
        ∙ by_case (is_eq (o.compare k q)) (row_at-rows_of_by k es up.1 keyed.1)
      where
        by_case : (b : Bool) → row_at o k (rows_of es) ≡ held_at o.compare k es
            → cond b (Some r) (row_at o k (rows_of es))
            ≡ held_in (cond b (Some (Some r)) (lookup (is_at (o.compare k)) es))
        by_case true rest = refl
        by_case false rest = rest
    row_at-rows_of_by k ((q, None) ∷ es) up keyed =
        by_case (is_eq (o.compare k q)) refl (row_at-rows_of_by k es up.1 keyed.1)
      where
        by_case : (b : Bool) → is_eq (o.compare k q) ≡ b → row_at o k (rows_of es) ≡ held_at o.compare k es
            → row_at o k (rows_of es)
            ≡ held_in (cond b (Some None) (lookup (is_at (o.compare k)) es))
        by_case true is rest = rest ∙ none_later k q es (equal_from_is_eq (o.compare k q) is) up.0
        by_case false is rest = rest

    -- the row of a key is the one that the map has there
    pub row_at-rows_of : (k : K) (es : List (K × Option R)) → IsTable o es
        → row_at o k (rows_of es) ≡ held_at o.compare k es
    row_at-rows_of k es table = row_at-rows_of_by k es table.ordered table.keyed

    all_past : (k : K) (es : List (K × Option R)) → AllByRecursion (λ y. o.compare k y ≡ Less) (keys_of es)
        → AllByRecursion IsKeyed es → IsTrue (list_all (is_past o k) (rows_of es))
    all_past k [] past keyed = refl
    all_past k ((q, Some r) ∷ es) past keyed =
        and_from (is_past o k r) (list_all (is_past o k) (rows_of es))
        (ap is_lt (sym (alike_right total q (o.key r) k keyed.0) ∙ past.0)) (all_past k es past.1 keyed.1)
    all_past k ((q, None) ∷ es) past keyed = all_past k es past.1 keyed.1

    rises-rows_of_by : (es : List (K × Option R)) → IsStrictlySortedBy o.compare (keys_of es)
        → AllByRecursion IsKeyed es → IsTrue (rises o (rows_of es))
    unfolding IsStrictlySortedBy
    rises-rows_of_by [] up keyed = refl
    rises-rows_of_by ((q, Some r) ∷ es) up keyed =
        and_from (list_all (is_past o (o.key r)) (rows_of es)) (rises o (rows_of es))
        (all_past (o.key r) es (all_tied (o.key r) q (keys_of es) (tied_back total q (o.key r) keyed.0) up.0) keyed.1)
        (rises-rows_of_by es up.1 keyed.1)
    rises-rows_of_by ((q, None) ∷ es) up keyed = rises-rows_of_by es up.1 keyed.1

    pub rises-rows_of : (es : List (K × Option R)) → IsTable o es → IsTrue (rises o (rows_of es))
    rises-rows_of es table = rises-rows_of_by es table.ordered table.keyed

    -- ---- changes of the map

    pub keyed-insert_entry : (es : List (K × Option R)) (k : K) (v : Option R) → IsKeyed (k, v)
        → AllByRecursion IsKeyed es → AllByRecursion IsKeyed (insert_entry o.compare es k v)
    keyed-insert_entry [] k v here keyed = (here, tt)
    keyed-insert_entry (e ∷ es) k v here keyed =
        by_case (keyed-insert_entry es k v here keyed.1) (o.compare k e.0) refl
      where
        moved : (w : Option R) → o.compare k e.0 ≡ Equal → IsKeyed (k, w) → IsKeyed (e.0, w)
        moved None is h = tt
        moved (Some r) is h = sym (total.congr k e.0 (o.key r) is) ∙ h

        by_case : AllByRecursion IsKeyed (insert_entry o.compare es k v) → (c : Ordering) → o.compare k e.0 ≡ c
            → AllByRecursion IsKeyed (match_ordering c ((k, v) ∷ e ∷ es) ((e.0, v) ∷ es) (e ∷ insert_entry o.compare es k v))
        by_case rest Less is = (here, keyed)
        by_case rest Equal is = (moved v is here, keyed.1)
        by_case rest Greater is = (keyed.0, rest)

    pub keyed-remove_entry : (test : K → Bool) (es : List (K × Option R)) → AllByRecursion IsKeyed es
        → AllByRecursion IsKeyed (remove_entry test es)
    keyed-remove_entry test [] keyed = tt
    keyed-remove_entry test (e ∷ es) keyed = by_case (test e.0) (keyed-remove_entry test es keyed.1)
      where
        by_case : (b : Bool) → AllByRecursion IsKeyed (remove_entry test es)
            → AllByRecursion IsKeyed (cond b es (e ∷ remove_entry test es))
        by_case true rest = keyed.1
        by_case false rest = (keyed.0, rest)

    -- the second list has the value at the key, and at other keys what the first has
    abbrev pub IsUpdated : K → Option (Option R) → List (K × Option R) → List (K × Option R) → Type 0
    IsUpdated k w es fs =
        (q : K) → lookup (is_at (o.compare q)) fs ≡ cond (is_at (o.compare k) q) w (lookup (is_at (o.compare q)) es)

    flip : (k q : K) → is_eq (o.compare k q) ≡ is_eq (o.compare q k)
    flip k q = by_case (is_eq (o.compare k q)) (is_eq (o.compare q k)) refl refl
      where
        by_case : (b c : Bool) → is_eq (o.compare k q) ≡ b → is_eq (o.compare q k) ≡ c → b ≡ c
        by_case true true kq qk = refl
        by_case false false kq qk = refl
        by_case true false kq qk =
            sym (ap is_eq (tied_back total k q (equal_from_is_eq (o.compare k q) kq))) ∙ qk
        by_case false true kq qk =
            sym kq ∙ ap is_eq (tied_back total q k (equal_from_is_eq (o.compare q k) qk))

    pub rows_of-put : (r : R) (es fs : List (K × Option R)) → IsTable o es → IsTable o fs
        → IsUpdated (o.key r) (Some (Some r)) es fs → rows_of fs ≡ put o r (rows_of es)
    rows_of-put r es fs from to updated =
        same_from_row_at o total (rows_of fs) (put o r (rows_of es)) (rises-rows_of fs to)
        (rises-put o total r (rows_of es) (rises-rows_of es from))
        (λ q. row_at-rows_of q fs to ∙ ap held_in (updated q)
        ∙ by_case q (is_eq (o.compare (o.key r) q)) (is_eq (o.compare q (o.key r))) (flip (o.key r) q) (row_at-rows_of q es from)
        ∙ sym (row_at-put o total q r (rows_of es)))
      where
        by_case : (q : K) (b c : Bool) → b ≡ c → row_at o q (rows_of es) ≡ held_at o.compare q es
            → held_in (cond b (Some (Some r)) (lookup (is_at (o.compare q)) es))
            ≡ cond c (Some r) (row_at o q (rows_of es))
        by_case q true true same rest = refl
        by_case q false false same rest = sym rest
        by_case q true false same rest = absurd (cc same)
        by_case q false true same rest = absurd (cc same)

    -- where there is no row at the key any more
    pub rows_of-without : (k : K) (w : Option (Option R)) (es fs : List (K × Option R)) → IsTable o es → IsTable o fs
        → held_in w ≡ None → IsUpdated k w es fs
        → rows_of fs ≡ without o k (rows_of es)
    rows_of-without k w es fs from to gone updated =
        same_from_row_at o total (rows_of fs) (without o k (rows_of es)) (rises-rows_of fs to)
        (rises-without o k (rows_of es) (rises-rows_of es from))
        (λ q. row_at-rows_of q fs to ∙ ap held_in (updated q)
        ∙ by_case q (is_eq (o.compare k q)) (row_at-rows_of q es from)
        ∙ sym (row_at-without o total k q (rows_of es)))
      where
        by_case : (q : K) (b : Bool) → row_at o q (rows_of es) ≡ held_at o.compare q es
            → held_in (cond b w (lookup (is_at (o.compare q)) es))
            ≡ cond b None (row_at o q (rows_of es))
        by_case q true rest = gone
        by_case q false rest = sym rest

    -- where there was none before, and is none
    pub rows_of-same : (k : K) (w : Option (Option R)) (es fs : List (K × Option R)) → IsTable o es → IsTable o fs
        → held_in w ≡ None → held_at o.compare k es ≡ None → IsUpdated k w es fs
        → rows_of fs ≡ rows_of es
    rows_of-same k w es fs from to gone none updated =
        rows_of-without k w es fs from to gone updated
        ∙ without_none o k (rows_of es) (ap is_some (row_at-rows_of k es from ∙ none))

-- what is not there holds no row
pub none_held : {R : Type 0} (v : Option (Option R)) → is_some v ≡ false
    → held_in v ≡ None
none_held None is = refl
none_held (Some held) is = absurd (cc is)

-- rows between two bounds
module _ {K R : Type 0} (o : Order K R) (total : IsTotalOrder o.compare) where
  from_start_same : (low : Bound K) (a b : K) → o.compare a b ≡ Equal
      → is_from_start o.compare low a ≡ is_from_start o.compare low b
  from_start_same (Included x) a b same = ap is_le (alike_right total a b x same)
  from_start_same (Excluded x) a b same = ap is_lt (alike_right total a b x same)
  from_start_same Unbounded a b same = refl

  past_end_same : (high : Bound K) (a b : K) → o.compare a b ≡ Equal
      → is_past_end o.compare high a ≡ is_past_end o.compare high b
  past_end_same (Included x) a b same = ap is_lt (alike_right total a b x same)
  past_end_same (Excluded x) a b same = ap is_le (alike_right total a b x same)
  past_end_same Unbounded a b same = refl

  contains_same : (low high : Bound K) (a b : K) → o.compare a b ≡ Equal
      → range_contains o.compare low high a ≡ range_contains o.compare low high b
  contains_same low high a b same =
      ap (λ x. x && not (is_past_end o.compare high a)) (from_start_same low a b same)
      ∙ ap (λ x. is_from_start o.compare low b && not x) (past_end_same high a b same)

  pub rows_of-entries_between : (low high : Bound K) (es : List (K × Option R)) → AllByRecursion (IsKeyed o) es
      → rows_of (filter (λ e. range_contains o.compare low high e.0) es)
      ≡ filter (λ r. range_contains o.compare low high (o.key r)) (rows_of es)
  rows_of-entries_between low high [] keyed = refl
  rows_of-entries_between low high ((q, Some r) ∷ es) keyed =
      by_case (range_contains o.compare low high q) (rows_of-entries_between low high es keyed.1)
      ∙ ap (λ b. cond b (r ∷ filter (λ r. range_contains o.compare low high (o.key r)) (rows_of es)) (filter (λ r. range_contains o.compare low high (o.key r)) (rows_of es)))
      (contains_same low high q (o.key r) keyed.0)
    where
      by_case : (b : Bool)
          → rows_of (filter (λ e. range_contains o.compare low high e.0) es)
          ≡ filter (λ r. range_contains o.compare low high (o.key r)) (rows_of es)
          → rows_of (cond b ((q, Some r) ∷ filter (λ e. range_contains o.compare low high e.0) es) (filter (λ e. range_contains o.compare low high e.0) es))
          ≡ cond b (r ∷ filter (λ r. range_contains o.compare low high (o.key r)) (rows_of es)) (filter (λ r. range_contains o.compare low high (o.key r)) (rows_of es))
      by_case true rest = ap (λ l. r ∷ l) rest
      by_case false rest = rest
  rows_of-entries_between low high ((q, None) ∷ es) keyed =
      by_case (range_contains o.compare low high q) (rows_of-entries_between low high es keyed.1)
    where
      by_case : (b : Bool)
          → rows_of (filter (λ e. range_contains o.compare low high e.0) es)
          ≡ filter (λ r. range_contains o.compare low high (o.key r)) (rows_of es)
          → rows_of (cond b ((q, None) ∷ filter (λ e. range_contains o.compare low high e.0) es) (filter (λ e. range_contains o.compare low high e.0) es))
          ≡ filter (λ r. range_contains o.compare low high (o.key r)) (rows_of es)
      by_case true rest = rest
      by_case false rest = rest

  -- a row that comes before all
  pub put_front : (r : R) (rows : List R) → IsTrue (rises o (r ∷ rows)) → put o r rows ≡ r ∷ rows
  put_front r [] up = refl
  put_front r (x ∷ xs) up =
      put_less o r x xs (less_from_is_lt _ (and_parts (is_past o (o.key r) x) (list_all (is_past o (o.key r)) xs) (rises_head o r (x ∷ xs) up)).0)

  -- a row of rows in order goes before those behind it
  pub put-drop : (i : ℕ) (r : R) (rows : List R) → IsTrue (rises o rows) → i < length rows → r ≡ get_or rows i r
      → put o r (drop (i + 1) rows) ≡ drop i rows
  put-drop i r rows up short read =
      let parts : drop i rows ≡ r ∷ drop (i + 1) rows = drop_more rows i r short ∙ ap (λ x. x ∷ drop (i + 1) rows) (sym read) in
      put_front r (drop (i + 1) rows) (subst (λ l. IsTrue (rises o l)) parts (rises-drop o i rows up)) ∙ sym parts

-- the first of rows of which all are known
pub take_full : {R : Type 0} (front rest : List R) (max : ℕ) → length front ≡ max → front ≡ take max (front ++ rest)
take_full front rest max is =
    sym (take-append-le max front rest (omega (arith, is)) ∙ take_all max front (omega (arith, is)))

pub take_whole : {R : Type 0} (front rest : List R) (max : ℕ) → length front ≤ max → rest ≡ [] → front ≡ take max (front ++ rest)
take_whole front rest max few none =
    sym (ap (λ l. take max (front ++ l)) none ∙ ap (take max) (append-nil front) ∙ take_all max front few)

-- ---- walks over all entries

pub filter-more : {K R : Type 0} (test : R → Bool) (k : K) (v : Option R) (es : List (K × Option R))
    → filter test (cons_option v []) ++ filter test (rows_of es) ≡ filter test (rows_of ((k, v) ∷ es))
filter-more test k None es = refl
filter-more test k (Some r) es = by_case (test r)
  where
    by_case : (b : Bool) → cond b (r ∷ []) [] ++ filter test (rows_of es) ≡ cond b (r ∷ filter test (rows_of es)) (filter test (rows_of es))
    by_case true = refl
    by_case false = refl

pub all_held : {K R : Type 0} (P : R → Type 0) (k : K) (v : Option R) (es : List (K × Option R)) → IfSome v P
    → AllByRecursion P (rows_of es) → AllByRecursion P (rows_of ((k, v) ∷ es))
all_held P k None es here all = all
all_held P k (Some r) es here all = (here, all)

pub if_held : {R : Type 0} (P Q : R → Type 0) → ((r : R) → P r → Q r) → (v : Option R) → IfSome v P → IfSome v Q
if_held P Q weaker None here = tt
if_held P Q weaker (Some r) here = weaker r here

pub entries_everywhere : {K X : Type 0} (cmp : K → K → Ordering) (es : List (K × X))
    → filter (λ e. range_contains cmp Unbounded Unbounded e.0) es ≡ es
entries_everywhere cmp [] = refl
entries_everywhere cmp (e ∷ es) = ap (λ l. e ∷ l) (entries_everywhere cmp es)

-- a change at one key leaves what is at others
pub kept_apart : {K X : Type 0} (cmp : K → K → Ordering) (k q : K) (es fs : List (K × X)) → (cmp k q ≡ Equal → ⊥)
    → lookup (is_at (cmp q)) fs ≡ cond (is_at (cmp k) q) None (lookup (is_at (cmp q)) es)
    → IsSome (lookup (is_at (cmp q)) es) → IsSome (lookup (is_at (cmp q)) fs)
kept_apart cmp k q es fs apart updated there = by_case (is_eq (cmp k q)) refl updated
  where
    by_case : (b : Bool) → is_eq (cmp k q) ≡ b
        → lookup (is_at (cmp q)) fs ≡ cond b None (lookup (is_at (cmp q)) es) → IsSome (lookup (is_at (cmp q)) fs)
    by_case true is gone = absurd (apart (equal_from_is_eq (cmp k q) is))
    by_case false is same = subst IsSome (sym same) there
