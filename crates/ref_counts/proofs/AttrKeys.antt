-- The attributes of an inode, found one after the other by their keys.
use Rattle.std.proofs.Common.{◌≡◌, ◌<◌, ◌+◌, ◌-◌, ◌^◌, ◌⊎◌, inl, inr, ℕ, List, [], ◌∷◌, ◌++◌, Bool, true, false, cond, Option, None, Some, Result, Ok, Err, refl, sym, ap, ◌∙◌, subst, arith, eqb-true, eq-eqb, ltb-true}
use Rattle.std.proofs.lemmas.List.{append-nil, append_assoc}
use Rattle.std.specs.Prelude.{IsTrue, ◌&&◌, ◌==◌, filter, find, length, map, nat_le, nat_lt, option_map, take, OnOk}
use Rattle.std.specs.List.{list_all, slice_get}
use Rattle.std.specs.Option.{ForSome}
use Rattle.std.specs.Cmp.{nat_cmp_is}
use Rattle.std.proofs.lemmas.Bool.{and_parts}
use Rattle.std.specs.FinMap.{nat_cmp-IsAntisymmetric}
use Rattle.std.specs.declared.cmp.Ordering.{Ordering}
use Rattle.std.specs.declared.cmp.Ordering.TheVariants.{Less, Equal, Greater}
use Rattle.std.specs.Ordering.{nat_cmp, is_lt, ordering_then}
use Rattle.s3_rows.specs.declared.change.Change.{Change}
use Rattle.s3_rows.specs.declared.change.Change.TheVariants as changes
use Rattle.s3_rows.specs.declared.table_rows.Row.{Row}
use Rattle.s3_rows.specs.declared.table_rows.Row.TheVariants as rows
use Rattle.s3_rows.specs.declared.table_rows.RowKey.TheVariants as keys
use Rattle.s3_rows.specs.declared.table_rows.TableName.TheVariants as tables
use Rattle.s3_rows.specs.Rows.{Attr}
use Rattle.s3_rows.specs.Keyed.{is_past, pair_cmp, rows_past}
use Rattle.s3_rows.specs.Tables.{Tables, IsOrdered, by_attr}
use Rattle.s3_rows.specs.Batches.{tables_after}
use Rattle.s3_rows.specs.Selections.{is_pair_past, is_row_past, page_of}
use Rattle.s3_rows.specs.Told.{is_page_of, is_row_of, rows_rise}
use Rattle.row_lemmas.proofs.Filters.{filter-filter_weaker}
use Rattle.row_lemmas.proofs.Tests.{filter_none, find_passes, list_all-filter_same}
use Rattle.row_lemmas.proofs.Keyed.Rest.{rows_past_first, rows_past_none}
use Rattle.row_lemmas.proofs.Tables.{pair_cmp_total, tables_after-tables_after}
use Rattle.ref_counts.specs.Names.{lowered_at}
use Rattle.ref_counts.specs.Removals.{attr_dropped, attr_key, attr_key_of, attrs_dropped, attrs_of, next_attr_key}

-- ---- the first row of a page of one

page_found : (k : ℕ × ℕ) (attrs : List Attr) → slice_get (take 1 (filter (is_row_past (keys.Two k.0 k.1)) (map rows.Attr attrs))) 0 ≡ option_map rows.Attr (find (is_past by_attr k) attrs)
page_found k [] = refl
page_found k (x ∷ xs) = by_case (page_found k xs) (is_past by_attr k x)
  where
    by_case : slice_get (take 1 (filter (is_row_past (keys.Two k.0 k.1)) (map rows.Attr xs))) 0 ≡ option_map rows.Attr (find (is_past by_attr k) xs) → (b : Bool)
        → slice_get (take 1 (cond b (rows.Attr x ∷ filter (is_row_past (keys.Two k.0 k.1)) (map rows.Attr xs)) (filter (is_row_past (keys.Two k.0 k.1)) (map rows.Attr xs)))) 0
        ≡ option_map rows.Attr (cond b (Some x) (find (is_past by_attr k) xs))
    by_case others true = refl
    by_case others false = others

found_key : (row : Row) (found : Option Attr) → Some row ≡ option_map rows.Attr found → attr_key_of row ≡ option_map attr_key found
found_key row None is = absurd (cc is)
found_key row (Some x) is =
    let same : row ≡ rows.Attr x = cc is in
    ap attr_key_of same

no_key : (found : Option Attr) → None ≡ option_map rows.Attr found → None ≡ option_map attr_key found
no_key None is = refl
no_key (Some x) is = absurd (cc is)

module _ (t : Tables) (k : ℕ × ℕ) (page : List Row) (is : page ≡ page_of t tables.Attrs (keys.Two k.0 k.1) 1) where
  pub found_is_next : (row : Row) → Some row ≡ slice_get page 0 → attr_key_of row ≡ next_attr_key t k
  found_is_next row first = found_key row (find (is_past by_attr k) t.attrs) (first ∙ ap (λ (l : List Row). slice_get l 0) is ∙ page_found k t.attrs)

  pub none_is_next : None ≡ slice_get page 0 → None ≡ next_attr_key t k
  none_is_next none = no_key (find (is_past by_attr k) t.attrs) (none ∙ ap (λ (l : List Row). slice_get l 0) is ∙ page_found k t.attrs)

-- its key is past
past_of_row : (a b : ℕ) (row : Row) → IsTrue (is_row_past (keys.Two a b) row) → ForSome (attr_key_of row) (λ k. IsTrue (is_pair_past (keys.Two a b) k))
past_of_row a b (rows.Attr x) past = λ k is.
    let same : attr_key x ≡ k = cc is in
    subst (λ y. IsTrue (is_pair_past (keys.Two a b) y)) same past
past_of_row a b _ past = λ k none. absurd (cc none)

pub first_is_past : (a b max : ℕ) (page : List Row) (row : Row) → Some row ≡ slice_get page 0 → IsTrue (is_page_of tables.Attrs (keys.Two a b) max page)
    → ForSome (attr_key_of row) (λ k. IsTrue (is_pair_past (keys.Two a b) k))
first_is_past a b max [] row first fits = absurd (cc first)
first_is_past a b max (x ∷ xs) row first fits =
    let same : row ≡ x = cc first in
    let all : IsTrue (list_all (is_row_past (keys.Two a b)) (x ∷ xs)) =
    (and_parts (nat_le (length (x ∷ xs)) max && list_all (is_row_of tables.Attrs) (x ∷ xs)) (list_all (is_row_past (keys.Two a b)) (x ∷ xs))
    (and_parts (nat_le (length (x ∷ xs)) max && list_all (is_row_of tables.Attrs) (x ∷ xs) && list_all (is_row_past (keys.Two a b)) (x ∷ xs)) (rows_rise (x ∷ xs)) fits).0).1 in
    past_of_row a b row (ap (is_row_past (keys.Two a b)) same ∙ (and_parts (is_row_past (keys.Two a b) x) (list_all (is_row_past (keys.Two a b)) xs) all).0)

-- ---- keys

is_lt-nat_cmp : (a b : ℕ) → is_lt (nat_cmp a b) ≡ nat_lt a b
is_lt-nat_cmp a b = by_case (nat_lt a b) (a == b)
  where
    by_case : (c d : Bool) → is_lt (cond c Less (cond d Equal Greater)) ≡ c
    by_case true d = refl
    by_case false true = refl
    by_case false false = refl

-- a key past another is greater in its first part, or in its second
pub greater_part : (a b c d : ℕ) → IsTrue (is_lt (pair_cmp (a, b) (c, d))) → (a < c) ⊎ ((a ≡ c) × (b < d))
greater_part a b c d is = by_case (nat_cmp a c) refl is
  where
    by_case : (o : Ordering) → nat_cmp a c ≡ o → IsTrue (is_lt (ordering_then o (nat_cmp b d))) → (a < c) ⊎ ((a ≡ c) × (b < d))
    by_case Less one two = inl (ltb-true a c (sym (is_lt-nat_cmp a c) ∙ ap is_lt one))
    by_case Equal one two = inr (nat_cmp-IsAntisymmetric a c one, ltb-true b d (sym (is_lt-nat_cmp b d) ∙ two))
    by_case Greater one two = absurd (cc two)

-- no attribute of another inode is between the key and those of the inode
abbrev pub IsJustBefore : ℕ → ℕ → ℕ → Type 0
IsJustBefore inode last_inode last_name = (last_inode ≡ inode) ⊎ ((last_inode + 1 ≡ inode) × (last_name + 1 ≡ 2 ^ 64))

above : (inode a b c d : ℕ) → IsJustBefore inode a b → d < 2 ^ 62 → (c ≡ inode → ⊥) → (a < c) ⊎ ((a ≡ c) × (b < d)) → inode < c
above inode a b c d (inl same) few other (inl less) = omega (arith, same, less)
above inode a b c d (inl same) few other (inr equal) = absurd (other (sym equal.0 ∙ same))
above inode a b c d (inr before) few other (inl less) =
    let not_same : inode ≡ c → ⊥ = λ (equal : inode ≡ c). other (sym equal) in
    grind (arith, before.0, less, not_same)
above inode a b c d (inr before) few other (inr equal) = absurd (omega (arith, before.1, equal.1, few))

-- ---- what is left

-- the attributes of an inode past a key
abbrev pub attrs_past : Tables → ℕ → ℕ → ℕ → List Attr
attrs_past t inode last_inode last_name = filter (λ (r : Attr). r.inode == inode) (rows_past by_attr (last_inode, last_name) t.attrs)

pub attrs_past_all : (t : Tables) (inode last_name : ℕ) → 0 < inode → attrs_past t inode (inode - 1) last_name ≡ attrs_of t inode
attrs_past_all t inode last_name some =
    filter-filter_weaker (is_past by_attr (inode - 1, last_name)) (λ (r : Attr). r.inode == inode)
    (λ r own.
    let less : inode - 1 < r.inode = omega (arith, some, eqb-true r.inode inode own) in
    ap (λ o. is_lt (ordering_then o (nat_cmp last_name r.name_id))) (sym (nat_cmp_is (inode - 1) r.inode Less less))) t.attrs

-- where the first attribute past the key is of another inode, or there is none
abbrev pub IsOtherOrNone : ℕ → Option (ℕ × ℕ) → Type 0
IsOtherOrNone inode None = Unit {0}
IsOtherOrNone inode (Some k) = (k.0 ≡ inode → ⊥) × (k.1 < 2 ^ 62)

pub IsOtherOrNone-none : (inode : ℕ) (found : Option (ℕ × ℕ)) → ((k : ℕ × ℕ) → found ≡ Some k → ⊥) → IsOtherOrNone inode found
IsOtherOrNone-none inode None none = tt
IsOtherOrNone-none inode (Some k) none = absurd (none k refl)

pub IsOtherOrNone-some : (inode : ℕ) (found : Option (ℕ × ℕ)) (k : ℕ × ℕ) → found ≡ Some k → (k.0 ≡ inode → ⊥) → ForSome found (λ x. x.1 < 2 ^ 62) → IsOtherOrNone inode found
IsOtherOrNone-some inode None k is other short = absurd (cc is)
IsOtherOrNone-some inode (Some x) k is other short =
    let same : x ≡ k = cc is in
    ((λ own. other (sym (ap (λ (y : ℕ × ℕ). y.0) same) ∙ own)), short x refl)

-- what holds of the key that is there
pub ForSome_there : (found : Option (ℕ × ℕ)) (P : ℕ × ℕ → Type 0) (k : ℕ × ℕ) → found ≡ Some k → ForSome found P → P k
ForSome_there found P k is all = all k is

attrs_past_none : (t : Tables) (inode last_inode last_name : ℕ) (found : Option (ℕ × ℕ)) → IsOrdered t → IsJustBefore inode last_inode last_name
    → found ≡ next_attr_key t (last_inode, last_name) → IsOtherOrNone inode found
    → attrs_past t inode last_inode last_name ≡ []
attrs_past_none t inode last_inode last_name found o before is other =
    by_row (find (is_past by_attr (last_inode, last_name)) t.attrs) refl (subst (IsOtherOrNone inode) is other)
  where
    by_row : (row : Option Attr) → find (is_past by_attr (last_inode, last_name)) t.attrs ≡ row → IsOtherOrNone inode (option_map attr_key row)
        → attrs_past t inode last_inode last_name ≡ []
    by_row None there none = ap (filter (λ (r : Attr). r.inode == inode)) (rows_past_none by_attr (last_inode, last_name) t.attrs there)
    by_row (Some a) there apart =
        ap (filter (λ (r : Attr). r.inode == inode)) (rows_past_first by_attr pair_cmp_total (last_inode, last_name) t.attrs a o.attrs there)
        ∙ ap (λ b. cond b (a ∷ rest) rest) (not_it a.inode greater)
        ∙ filter_none (λ (r : Attr). r.inode == inode) (is_past by_attr (a.inode, a.name_id)) (rows_past by_attr (a.inode, a.name_id) t.attrs)
        (λ x past. not_it x.inode (further x (greater_part a.inode a.name_id x.inode x.name_id past)))
        (list_all-filter_same (is_past by_attr (a.inode, a.name_id)) t.attrs)
      where
        rest : List Attr
        rest = filter (λ (r : Attr). r.inode == inode) (rows_past by_attr (a.inode, a.name_id) t.attrs)

        greater : inode < a.inode
        greater =
            above inode last_inode last_name a.inode a.name_id before apart.1 apart.0
            (greater_part last_inode last_name a.inode a.name_id (find_passes (is_past by_attr (last_inode, last_name)) t.attrs a there))

        not_it : (x : ℕ) → inode < x → (x == inode) ≡ false
        not_it x more = by_case (x == inode) refl
          where
            by_case : (b : Bool) → (x == inode) ≡ b → b ≡ false
            by_case true own = absurd (omega (arith, more, eqb-true x inode own))
            by_case false own = refl

        further : (x : Attr) → (a.inode < x.inode) ⊎ ((a.inode ≡ x.inode) × (a.name_id < x.name_id)) → inode < x.inode
        further x (inl less) = omega (arith, greater, less)
        further x (inr equal) = omega (arith, greater, equal.0)

-- ---- what is added

-- one more attribute is dropped
pub one_dropped : (t : Tables) (batch after : List Change) (inode : ℕ) (last key : ℕ × ℕ) (found : Option (ℕ × ℕ)) → IsOrdered t
    → found ≡ next_attr_key t last → found ≡ Some key
    → key.0 ≡ inode → after ≡ batch ++ attr_dropped key.0 key.1 (tables_after batch t)
    → after ++ attrs_dropped (attrs_past t inode key.0 key.1) (tables_after after t)
    ≡ batch ++ attrs_dropped (attrs_past t inode last.0 last.1) (tables_after batch t)
one_dropped t batch after inode last key found o is here own added = by_row (find (is_past by_attr last) t.attrs) refl (sym here ∙ is)
  where
    by_row : (row : Option Attr) → find (is_past by_attr last) t.attrs ≡ row → Some key ≡ option_map attr_key row
        → after ++ attrs_dropped (attrs_past t inode key.0 key.1) (tables_after after t)
        ≡ batch ++ attrs_dropped (attrs_past t inode last.0 last.1) (tables_after batch t)
    by_row None there same = absurd (cc same)
    by_row (Some a) there same =
        let key_is : key ≡ attr_key a = cc same in
        let past : ℕ × ℕ → List Attr = λ k. attrs_past t inode k.0 k.1 in
        let this : List Change = attr_dropped a.inode a.name_id (tables_after batch t) in
        let left : past last ≡ a ∷ past (attr_key a) =
        ap (filter (λ (r : Attr). r.inode == inode)) (rows_past_first by_attr pair_cmp_total last t.attrs a o.attrs there)
        ∙ ap (λ b. cond b (a ∷ past (attr_key a)) (past (attr_key a))) (eq-eqb a.inode inode (sym (ap (λ (k : ℕ × ℕ). k.0) key_is) ∙ own)) in
        let added_here : after ≡ batch ++ this = added ∙ ap (λ (k : ℕ × ℕ). batch ++ attr_dropped k.0 k.1 (tables_after batch t)) key_is in
        ap (λ (k : ℕ × ℕ). after ++ attrs_dropped (past k) (tables_after after t)) key_is
        ∙ ap (λ (b : List Change). b ++ attrs_dropped (past (attr_key a)) (tables_after b t)) added_here
        ∙ ap (λ (u : Tables). batch ++ this ++ attrs_dropped (past (attr_key a)) u) (sym (tables_after-tables_after batch this t))
        ∙ append_assoc batch this (attrs_dropped (past (attr_key a)) (tables_after this (tables_after batch t)))
        ∙ ap (λ (attrs : List Attr). batch ++ attrs_dropped attrs (tables_after batch t)) (sym left)

-- the changes of one attribute
pub attr_added : (t : Tables) (batch pushed after : List Change) (inode name_id : ℕ) → pushed ≡ batch ++ changes.DeleteAttr inode name_id ∷ []
    → after ≡ pushed ++ lowered_at (tables_after pushed t) name_id → after ≡ batch ++ attr_dropped inode name_id (tables_after batch t)
attr_added t batch pushed after inode name_id is added =
    added ∙ ap (λ (b : List Change). b ++ lowered_at (tables_after b t) name_id) is
    ∙ ap (λ (u : Tables). batch ++ changes.DeleteAttr inode name_id ∷ [] ++ lowered_at u name_id) (sym (tables_after-tables_after batch (changes.DeleteAttr inode name_id ∷ []) t))
    ∙ append_assoc batch (changes.DeleteAttr inode name_id ∷ []) (lowered_at (tables_after batch t) name_id)

-- each key is nearer to the end
pub nearer : (inode : ℕ) (last key : ℕ × ℕ) → IsJustBefore inode last.0 last.1 → key.0 ≡ inode → key.1 < 2 ^ 62
    → IsTrue (is_pair_past (keys.Two last.0 last.1) key)
    → cond (key.0 == inode) (2 ^ 64 - key.1) (2 ^ 64 + 1) < cond (last.0 == inode) (2 ^ 64 - last.1) (2 ^ 64 + 1)
nearer inode last key before own short past =
    let here : cond (key.0 == inode) (2 ^ 64 - key.1) (2 ^ 64 + 1) ≡ 2 ^ 64 - key.1 = ap (λ b. cond b (2 ^ 64 - key.1) (2 ^ 64 + 1)) (eq-eqb key.0 inode own) in
    by_case before (greater_part last.0 last.1 key.0 key.1 past) (last.0 == inode) refl here
  where
    by_case : IsJustBefore inode last.0 last.1 → (last.0 < key.0) ⊎ ((last.0 ≡ key.0) × (last.1 < key.1)) → (b : Bool) → (last.0 == inode) ≡ b
        → cond (key.0 == inode) (2 ^ 64 - key.1) (2 ^ 64 + 1) ≡ 2 ^ 64 - key.1
        → cond (key.0 == inode) (2 ^ 64 - key.1) (2 ^ 64 + 1) < cond b (2 ^ 64 - last.1) (2 ^ 64 + 1)
    by_case is either false at here = omega (arith, here)
    by_case is (inl less) true at here = absurd (omega (arith, less, own, eqb-true last.0 inode at))
    by_case is (inr equal) true at here = omega (arith, here, equal.1, short)

-- no more
pub all_dropped : (t : Tables) (batch first : List Change) (inode last_inode last_name : ℕ) (found : Option (ℕ × ℕ)) → IsOrdered t
    → IsJustBefore inode last_inode last_name
    → found ≡ next_attr_key t (last_inode, last_name) → IsOtherOrNone inode found
    → batch ++ attrs_dropped (attrs_past t inode last_inode last_name) (tables_after batch t) ≡ first ++ attrs_dropped (attrs_of t inode) (tables_after first t)
    → batch ≡ first ++ attrs_dropped (attrs_of t inode) (tables_after first t)
all_dropped t batch first inode last_inode last_name found o before is other left =
    sym (append-nil batch)
    ∙ ap (λ (attrs : List Attr). batch ++ attrs_dropped attrs (tables_after batch t)) (sym (attrs_past_none t inode last_inode last_name found o before is other))
    ∙ left

-- a fact where a call succeeded, from another
pub on_ok : {T E : Type 0} (P Q : Type 0) → (P → Q) → (r : Result T E) → OnOk r P → OnOk r Q
on_ok P Q follows (Ok x) fact = follows fact
on_ok P Q follows (Err e) fact = tt
