-- The attributes of a node behind a name, found one after the other, and what is added for each.
use Rattle.std.proofs.Common.{◌≡◌, ℕ, ◌+◌, List, [], ◌∷◌, ◌++◌, Bool, true, false, cond, Option, None, Some, refl, sym, ap, ◌∙◌, subst, append_assoc}
use Rattle.std.proofs.lemmas.Cmp.{nat_list_cmp_total}
use Rattle.std.proofs.lemmas.List.{append-nil}
use Rattle.std.specs.Cmp.{nat_cmp_total}
use Rattle.std.specs.List.{filter_map, list_all, slice_get}
use Rattle.std.specs.Ordering.{is_eq, is_lt}
use Rattle.std.specs.Prelude.{IsTrue, not, ◌&&◌, ◌==◌, ◌^◌, filter, find, is_some, nat_lt, take}
use Rattle.plain_tree.specs.Checks.{attribute_name_check}
use Rattle.s3_rows.specs.declared.change.Change.{Change}
use Rattle.s3_rows.specs.declared.change.Change.TheVariants as changes
use Rattle.s3_rows.specs.declared.lists.NamedAttr.{NamedAttr}
use Rattle.s3_rows.specs.Batches.{after_change, tables_after}
use Rattle.s3_rows.specs.Keyed.{is_past, put, rises, rows_past}
use Rattle.s3_rows.specs.Rows.{Name, Parameters}
use Rattle.s3_rows.specs.Selections.{attrs_listed, by_attr_name, bytes_cmp, name_of_bytes, named_attrs, with_attr_name}
use Rattle.s3_rows.specs.Tables.{IsOrdered, Tables, by_name}
use Rattle.s3_rows.specs.Validity.{HasUniqueNames, differ, have_same_bytes}
use Rattle.row_lemmas.proofs.Filters.{filter_all}
use Rattle.row_lemmas.proofs.Keyed.Put.{differ-put, map-put_there}
use Rattle.row_lemmas.proofs.Keyed.Rest.{rows_past_first, rows_past_none}
use Rattle.row_lemmas.proofs.Keyed.RowAt.{list_all_from_row_at, row_at_from_find}
use Rattle.row_lemmas.proofs.Keyed.Sorted.{rises-sorted_by}
use Rattle.row_lemmas.proofs.Tables.{IsOrdered-tables_after, tables_after-tables_after}
use Rattle.row_lemmas.proofs.Tests.{differ-map, list_all_from_find, list_all_weaker}
use Rattle.ref_counts.specs.Names.{IsRaised, Raised, StaysUnique, raised, raised_of}
use Rattle.ref_counts.proofs.Named.{has_bytes}
use Rattle.row_steps.proofs.Owed.Contents.{bytes_turned}
use Rattle.row_steps.proofs.Owed.Names.{bytes_of_row}
use Rattle.tree_copy.specs.CopiedNames.{AreAttrNames}
use Rattle.tree_copy.specs.CopiedRows.{attr_copied, attrs_copied, attrs_fit, with_use}

-- ---- names stay unique

abbrev same_text : List ℕ → List ℕ → Bool
same_text a b = is_eq (bytes_cmp a b)

-- a use more of a name that is there, or a new name
raised_unique : (u : Tables) (name : List ℕ) (more : Raised) → IsTrue (rises by_name u.names) → HasUniqueNames u → raised u name ≡ Some more → StaysUnique more.changes u
raised_unique u name more up unique is = by_found (name_of_bytes u name) refl u.params is
  where
    up_unique : (n : Name) → name_of_bytes u name ≡ Some n → IsTrue (differ have_same_bytes (put by_name (record n { refcount = n.refcount + 1 }) u.names))
    up_unique n found =
        let one : Name = record n { refcount = n.refcount + 1 } in
        differ-map same_text bytes_of_row (put by_name one u.names)
        ∙ ap (differ same_text)
        (map-put_there by_name nat_cmp_total bytes_of_row one n u.names up (row_at_from_find by_name nat_cmp_total (has_bytes name) u.names n up found) refl)
        ∙ sym (differ-map same_text bytes_of_row u.names) ∙ unique

    new_unique : (id : ℕ) → name_of_bytes u name ≡ None → IsTrue (differ have_same_bytes (put by_name (record { id = id; refcount = 1; name = name }) u.names))
    new_unique id none =
        let first : Name = record { id = id; refcount = 1; name = name } in
        let after : IsTrue (list_all (λ x. not (have_same_bytes x first)) u.names) = list_all_from_find (has_bytes name) u.names none in
        differ-put by_name have_same_bytes first u.names
        (list_all_weaker (λ x. not (have_same_bytes x first)) (λ x. not (have_same_bytes first x)) (λ x other. ap not (bytes_turned name x.name) ∙ other) u.names after)
        after unique

    by_count : (n : Name) → name_of_bytes u name ≡ Some n → (b : Bool)
        → cond b (Some (record { id = n.id; changes = changes.PutName (record n { refcount = n.refcount + 1 }) ∷ [] })) None ≡ Some more → StaysUnique more.changes u
    by_count n found true row =
        let r : Raised = record { id = n.id; changes = changes.PutName (record n { refcount = n.refcount + 1 }) ∷ [] } in
        let same : r ≡ more = cc row in
        subst (λ (m : Raised). StaysUnique m.changes u) same (unique, up_unique n found)
    by_count n found false row = absurd (cc row)

    by_next : (p : Parameters) → name_of_bytes u name ≡ None → (b : Bool)
        → cond b (Some (record { id = p.next_name; changes = changes.PutName (record { id = p.next_name; refcount = 1; name = name }) ∷ changes.SetParams (record p { next_name = p.next_name + 1 }) ∷ [] })) None ≡ Some more
        → StaysUnique more.changes u
    by_next p none true row =
        let r : Raised = record { id = p.next_name; changes = changes.PutName (record { id = p.next_name; refcount = 1; name = name }) ∷ changes.SetParams (record p { next_name = p.next_name + 1 }) ∷ [] } in
        let same : r ≡ more = cc row in
        subst (λ (m : Raised). StaysUnique m.changes u) same (unique, (new_unique p.next_name none, new_unique p.next_name none))
    by_next p none false row = absurd (cc row)

    by_found : (found : Option Name) → name_of_bytes u name ≡ found → (params : Option Parameters) → raised_of name found params ≡ Some more → StaysUnique more.changes u
    by_found (Some n) found params row = by_count n found (nat_lt (n.refcount + 1) (2 ^ 62)) row
    by_found None found None row = absurd (cc row)
    by_found None found (Some p) row = by_next p found (nat_lt p.next_name (2 ^ 62)) row

pub StaysUnique-append : (a b : List Change) (t : Tables) → StaysUnique a t → StaysUnique b (tables_after a t) → StaysUnique (a ++ b) t
StaysUnique-append [] b t first second = second
StaysUnique-append (c ∷ a) b t first second = (first.0, StaysUnique-append a b (after_change c t) first.1 second)

pub unique_end : (a : List Change) (t : Tables) → StaysUnique a t → HasUniqueNames (tables_after a t)
unique_end [] t unique = unique
unique_end (c ∷ a) t unique = unique_end a (after_change c t) unique.1

-- a name is used once more, by a row that is no name
pub StaysUnique-use : (t : Tables) (batch : List Change) (name : List ℕ) (more : Raised) (c : Change) → IsOrdered t → StaysUnique batch t
    → raised (tables_after batch t) name ≡ Some more → ((u : Tables) → HasUniqueNames u → HasUniqueNames (after_change c u)) → StaysUnique (batch ++ (more.changes ++ c ∷ [])) t
StaysUnique-use t batch name more c o unique used keeps =
    let u : Tables = tables_after batch t in
    let raise : StaysUnique more.changes u = raised_unique u name more (IsOrdered-tables_after batch t o).names (unique_end batch t unique) used in
    let end : HasUniqueNames (tables_after more.changes u) = unique_end more.changes u raise in
    StaysUnique-append batch (more.changes ++ c ∷ []) t unique
    (StaysUnique-append more.changes (c ∷ []) u raise (end, keeps (tables_after more.changes u) end))

-- ---- one attribute

used_in : (found : Option Raised) → IsTrue (is_some found) → (more : Raised) × (found ≡ Some more)
used_in None some = absurd (cc some)
used_in (Some more) some = (more, refl)

-- whether the name is used
pub use_fits : (found : Option Raised) (before after : List Change) (answer : Option ℕ) → IsRaised found before answer after → is_some answer ≡ is_some found
use_fits None before after answer is = ap is_some is.0
use_fits (Some more) before after answer is = ap is_some is.0

-- a row that has the id of the name comes behind its use
pub use_added : (found : Option Raised) (before middle after : List Change) (id : ℕ) (row : ℕ → Change) → IsRaised found before (Some id) middle
    → after ≡ middle ++ row id ∷ [] → after ≡ before ++ with_use found (λ name_id. row name_id ∷ [])
use_added None before middle after id row is added = absurd (cc is.0)
use_added (Some more) before middle after id row is added =
    let same : id ≡ more.id = cc is.0 in
    added ∙ ap (λ k. middle ++ row k ∷ []) same ∙ ap (λ (b : List Change). b ++ row more.id ∷ []) is.1 ∙ append_assoc before more.changes (row more.id ∷ [])

pub attr_added : (found : Option Raised) (before middle after : List Change) (id copy : ℕ) (a : NamedAttr) → IsRaised found before (Some id) middle
    → after ≡ middle ++ changes.PutAttr (record { inode = copy; name_id = id; value = a.row.value }) ∷ []
    → after ≡ before ++ with_use found (λ name_id. changes.PutAttr (record { inode = copy; name_id = name_id; value = a.row.value }) ∷ [])
attr_added found before middle after id copy a = use_added found before middle after id (λ k. changes.PutAttr (record { inode = copy; name_id = k; value = a.row.value }))

-- ---- a page of one

page_found : (p : NamedAttr → Bool) (rows : List NamedAttr) → slice_get (take 1 (filter p rows)) 0 ≡ find p rows
page_found p [] = refl
page_found p (x ∷ xs) = by_case (page_found p xs) (p x)
  where
    by_case : slice_get (take 1 (filter p xs)) 0 ≡ find p xs → (b : Bool) → slice_get (take 1 (cond b (x ∷ filter p xs) (filter p xs))) 0 ≡ cond b (Some x) (find p xs)
    by_case others true = refl
    by_case others false = others

pub found_attr : (t : Tables) (inode : ℕ) (last : List ℕ) (found : Option NamedAttr) → found ≡ slice_get (attrs_listed t inode last 1) 0
    → found ≡ find (is_past by_attr_name last) (named_attrs t inode)
found_attr t inode last found is = is ∙ page_found (is_past by_attr_name last) (named_attrs t inode)

-- ---- all attributes

rising : (t : Tables) (inode : ℕ) → IsTrue (rises by_attr_name (named_attrs t inode))
rising t inode = rises-sorted_by by_attr_name nat_list_cmp_total (filter_map (with_attr_name t) (filter (λ r. r.inode == inode) t.attrs))

-- a name comes after none
name_later : (name : List ℕ) → attribute_name_check name ≡ None → IsTrue (is_lt (bytes_cmp [] name))
name_later [] is = absurd (cc is)
name_later (b ∷ bs) is = refl

all_behind : (t : Tables) (inode : ℕ) → AreAttrNames t inode → rows_past by_attr_name [] (named_attrs t inode) ≡ named_attrs t inode
all_behind t inode names =
    filter_all (is_past by_attr_name []) (named_attrs t inode)
    (list_all_from_row_at by_attr_name nat_list_cmp_total (is_past by_attr_name []) (named_attrs t inode) (rising t inode) (λ k a found. name_later a.name (names k a found)))

-- what is left makes of the batch what all makes of the first
pub record IsLeft (t : Tables) (inode copy : ℕ) (last : List ℕ) (first batch : List Change) : Type 0 where
  pub added : batch ++ attrs_copied copy (rows_past by_attr_name last (named_attrs t inode)) (tables_after batch t)
      ≡ first ++ attrs_copied copy (named_attrs t inode) (tables_after first t)
  pub fits : attrs_fit copy (rows_past by_attr_name last (named_attrs t inode)) (tables_after batch t) ≡ attrs_fit copy (named_attrs t inode) (tables_after first t)
  pub unique : StaysUnique batch t

pub left_first : (t : Tables) (inode copy : ℕ) (batch : List Change) → StaysUnique batch t → AreAttrNames t inode → IsLeft t inode copy [] batch batch
left_first t inode copy batch unique names = record {
  added = ap (λ (rows : List NamedAttr). batch ++ attrs_copied copy rows (tables_after batch t)) (all_behind t inode names);
  fits = ap (λ (rows : List NamedAttr). attrs_fit copy rows (tables_after batch t)) (all_behind t inode names);
  unique = unique;
}

-- the next attribute has a name
pub next_named : (t : Tables) (inode : ℕ) (last : List ℕ) (a : NamedAttr) → AreAttrNames t inode → Some a ≡ find (is_past by_attr_name last) (named_attrs t inode)
    → attribute_name_check a.name ≡ None
next_named t inode last a names next =
    names a.name a (row_at_from_find by_attr_name nat_list_cmp_total (is_past by_attr_name last) (named_attrs t inode) a (rising t inode) (sym next))

-- one that fits
pub left_more : (t : Tables) (inode copy : ℕ) (last : List ℕ) (first batch after : List Change) (a : NamedAttr) → IsOrdered t → IsLeft t inode copy last first batch
    → Some a ≡ find (is_past by_attr_name last) (named_attrs t inode) → true ≡ is_some (raised (tables_after batch t) a.name)
    → after ≡ batch ++ attr_copied copy a (tables_after batch t) → IsLeft t inode copy a.name first after
left_more t inode copy last first batch after a o left next fits added =
    let this : List Change = attr_copied copy a (tables_after batch t) in
    let rest : List NamedAttr = rows_past by_attr_name a.name (named_attrs t inode) in
    let rows : rows_past by_attr_name last (named_attrs t inode) ≡ a ∷ rest =
    rows_past_first by_attr_name nat_list_cmp_total last (named_attrs t inode) a (rising t inode) (sym next) in
    let joined : tables_after this (tables_after batch t) ≡ tables_after (batch ++ this) t = tables_after-tables_after batch this t in
    let more = used_in (raised (tables_after batch t) a.name) (sym fits) in
    let put_it : ℕ → Change = λ k. changes.PutAttr (record { inode = copy; name_id = k; value = a.row.value }) in
    record {
      added =
          ap (λ (b : List Change). b ++ attrs_copied copy rest (tables_after b t)) added
          ∙ ap (λ (u : Tables). batch ++ this ++ attrs_copied copy rest u) (sym joined)
          ∙ append_assoc batch this (attrs_copied copy rest (tables_after this (tables_after batch t)))
          ∙ ap (λ (rs : List NamedAttr). batch ++ attrs_copied copy rs (tables_after batch t)) (sym rows) ∙ left.added;
      fits =
          ap (λ (b : List Change). attrs_fit copy rest (tables_after b t)) added ∙ ap (attrs_fit copy rest) (sym joined)
          ∙ ap (λ b. b && attrs_fit copy rest (tables_after this (tables_after batch t))) fits
          ∙ ap (λ (rs : List NamedAttr). attrs_fit copy rs (tables_after batch t)) (sym rows) ∙ left.fits;
      unique =
          subst (λ (b : List Change). StaysUnique b t)
          (sym (added ∙ ap (λ (m : Option Raised). batch ++ with_use m (λ k. put_it k ∷ [])) more.1))
          (StaysUnique-use t batch a.name more.0 (put_it more.0.id) o left.unique more.1 (λ u unique. unique));
    }

-- one that does not
pub left_worn : (t : Tables) (inode copy : ℕ) (last : List ℕ) (first batch : List Change) (a : NamedAttr) → IsLeft t inode copy last first batch
    → Some a ≡ find (is_past by_attr_name last) (named_attrs t inode) → false ≡ is_some (raised (tables_after batch t) a.name)
    → false ≡ attrs_fit copy (named_attrs t inode) (tables_after first t)
left_worn t inode copy last first batch a left next fits =
    ap (λ b. b && attrs_fit copy (rows_past by_attr_name a.name (named_attrs t inode)) (tables_after (attr_copied copy a (tables_after batch t)) (tables_after batch t))) fits
    ∙ ap (λ (rs : List NamedAttr). attrs_fit copy rs (tables_after batch t))
    (sym (rows_past_first by_attr_name nat_list_cmp_total last (named_attrs t inode) a (rising t inode) (sym next))) ∙ left.fits

-- none is left
pub left_none : (t : Tables) (inode copy : ℕ) (last : List ℕ) (first batch : List Change) → IsLeft t inode copy last first batch
    → None ≡ find (is_past by_attr_name last) (named_attrs t inode)
    → (batch ≡ first ++ attrs_copied copy (named_attrs t inode) (tables_after first t)) × (true ≡ attrs_fit copy (named_attrs t inode) (tables_after first t))
left_none t inode copy last first batch left next =
    let rows : rows_past by_attr_name last (named_attrs t inode) ≡ [] = rows_past_none by_attr_name last (named_attrs t inode) (sym next) in (
      sym (append-nil batch) ∙ ap (λ (rs : List NamedAttr). batch ++ attrs_copied copy rs (tables_after batch t)) (sym rows) ∙ left.added,
      ap (λ (rs : List NamedAttr). attrs_fit copy rs (tables_after batch t)) (sym rows) ∙ left.fits,
    )
