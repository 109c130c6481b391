-- A copy draws no name but the one that its own entry has.
use Rattle.std.proofs.Common.{◌≡◌, ◌≤◌, ◌<◌, ℕ, ◌+◌, ◌^◌, List, [], ◌∷◌, ◌++◌, Bool, true, false, cond, Option, None, Some, refl, sym, ap, ◌∙◌, subst, arith, ltb-true}
use Rattle.std.proofs.lemmas.Bool.{and_parts}
use Rattle.std.proofs.lemmas.Cmp.{nat_list_cmp_total}
use Rattle.std.specs.Cmp.{nat_cmp_total, tied_itself}
use Rattle.std.specs.FinMap.{nat_cmp-IsAntisymmetric}
use Rattle.std.specs.List.{cons_option, filter_map, list_all}
use Rattle.std.specs.Ordering.{is_eq}
use Rattle.std.specs.Prelude.{IsTrue, ◌==◌, filter, find, is_some, nat_lt, option_map, unwrap_or}
use Rattle.plain_tree.specs.Below.{is_among}
use Rattle.plain_tree.specs.Subtrees.{copy_number}
use Rattle.s3_rows.specs.declared.change.Change.{Change}
use Rattle.s3_rows.specs.declared.change.Change.TheVariants as changes
use Rattle.s3_rows.specs.declared.lists.NamedAttr.{NamedAttr}
use Rattle.s3_rows.specs.declared.lists.NamedEntry.{NamedEntry}
use Rattle.s3_rows.specs.Batches.{after_change, tables_after}
use Rattle.s3_rows.specs.Keyed.{Order, has_key, put, rises, row_at}
use Rattle.s3_rows.specs.Rows.{Attr, Block, Content, Inode, InodeBlock, Name, Parameters, Target}
use Rattle.s3_rows.specs.Selections.{block_at, by_attr_name, by_entry_name, bytes_cmp, inode_at, name_at, name_of_bytes, named_attrs, named_entries, target_at, with_attr_name, with_entry_name}
use Rattle.s3_rows.specs.Tables.{IsOrdered, Tables, by_name}
use Rattle.row_lemmas.proofs.Keyed.Put.{list_all-put, row_at-put_other, row_at-put_same}
use Rattle.row_lemmas.proofs.Keyed.RowAt.{list_all_from_row_at, row_at_from_find, row_at_key}
use Rattle.row_lemmas.proofs.Keyed.Sorted.{rises-sorted_by, row_at-sorted_by}
use Rattle.row_lemmas.proofs.Tables.{IsOrdered-tables_after, tables_after-tables_after}
use Rattle.row_lemmas.proofs.Tests.{find_passes, find_passes_all, list_any-find, list_any_from_find}
use Rattle.ref_counts.specs.Names.{raised, raised_of}
use Rattle.s3_rows.specs.Validity.{IsValid}
use Rattle.ref_counts.specs.Links.{places_from}
use Rattle.ref_counts.specs.Plans.{next_name_of}
use Rattle.row_steps.specs.RowChanges.{touched_row}
use Rattle.tree_copy.specs.CopiedPlaces.{file_copied, files_copied, place_changes, place_copied}
use Rattle.tree_copy.specs.CopySteps.{inodes_seen, tree_copied}
use Rattle.tree_copy.specs.CopiedRows.{AreVisits, IsVisit, Visit, attr_copied, attrs_copied, child_copied, child_of_visit, copied_row, drawing, entry_copied, link_counted, names_copied, node_copied, row_copied, source_copied, seen_after, target_copied, visit_copied, visits_copied, with_use}

abbrev pub has_name : Tables → List ℕ → Bool
has_name t b = is_some (name_of_bytes t b)

abbrev below : ℕ → Name → Bool
below next r = nat_lt r.id next

-- the names that were there are there still, and no id was drawn
pub record KeepsNames (t u : Tables) : Type 0 where
  pub names : (b : List ℕ) → has_name t b ≡ true → has_name u b ≡ true
  pub next : next_name_of u ≡ next_name_of t
  pub ids : IsTrue (list_all (below (next_name_of t)) t.names) → IsTrue (list_all (below (next_name_of t)) u.names)

pub KeepsNames-trans : (t u w : Tables) → KeepsNames t u → KeepsNames u w → KeepsNames t w
KeepsNames-trans t u w first second = record {
  names = λ b has. second.names b (first.names b has);
  next = second.next ∙ first.next;
  ids = λ all.
      subst (λ n. IsTrue (list_all (below n) w.names)) first.next
      (second.ids (subst (λ n. IsTrue (list_all (below n) u.names)) (sym first.next) (first.ids all)));
}

pub KeepsNames-same : (t u : Tables) → u.names ≡ t.names → next_name_of u ≡ next_name_of t → KeepsNames t u
KeepsNames-same t u names next = record {
  names = λ b has. ap (λ (rows : List Name). is_some (find (λ r. is_eq (bytes_cmp r.name b)) rows)) names ∙ has;
  next = next;
  ids = λ all. subst (λ (rows : List Name). IsTrue (list_all (below (next_name_of t)) rows)) (sym names) all;
}

-- a row is put in place of one with its bytes, if any
pub put_keeps : (rows : List Name) (row : Name) → IsTrue (rises by_name rows) → ((old : Name) → row_at by_name row.id rows ≡ Some old → old.name ≡ row.name) → (b : List ℕ)
    → is_some (find (λ r. is_eq (bytes_cmp r.name b)) rows) ≡ true → is_some (find (λ r. is_eq (bytes_cmp r.name b)) (put by_name row rows)) ≡ true
put_keeps rows row up old b has = by_found (find test rows) refl has
  where
    test : Name → Bool
    test r = is_eq (bytes_cmp r.name b)

    by_found : (found : Option Name) → find test rows ≡ found → is_some found ≡ true → is_some (find test (put by_name row rows)) ≡ true
    by_found None is some = absurd (cc some)
    by_found (Some x) is some = by_key (has_key by_name x.id row) refl
      where
        passes : IsTrue (test x)
        passes = find_passes test rows x is

        there : row_at by_name x.id rows ≡ Some x
        there = row_at_from_find by_name nat_cmp_total test rows x up is

        found_in : (k : ℕ) (y : Name) → row_at by_name k (put by_name row rows) ≡ Some y → IsTrue (test y) → is_some (find test (put by_name row rows)) ≡ true
        found_in k y at own = sym (list_any-find test (put by_name row rows)) ∙ list_any_from_find (has_key by_name k) test (put by_name row rows) y at own

        by_key : (k : Bool) → has_key by_name x.id row ≡ k → is_some (find test (put by_name row rows)) ≡ true
        by_key true same =
            let id : x.id ≡ row.id = key_same same in
            let text : x.name ≡ row.name = old x (ap (λ k. row_at by_name k rows) (sym id) ∙ there) in
            found_in row.id row (row_at-put_same by_name nat_cmp_total row rows) (ap (λ (n : List ℕ). is_eq (bytes_cmp n b)) (sym text) ∙ passes)
          where
            key_same : has_key by_name x.id row ≡ true → x.id ≡ row.id
            key_same tied = nat_cmp-IsAntisymmetric x.id row.id (row_at_key by_name x.id (row ∷ []) row (ap (λ c. cond c (Some row) None) tied))
        by_key false other = found_in x.id x (row_at-put_other by_name nat_cmp_total x.id row rows other ∙ there) passes

-- a use of a name that is there draws no id
pub use_keeps : (t : Tables) (b : List ℕ) (row : ℕ → Change) → ((k : ℕ) (u : Tables) → (after_change (row k) u).names ≡ u.names) → ((k : ℕ) (u : Tables) → (after_change (row k) u).params ≡ u.params)
    → IsOrdered t → has_name t b ≡ true → KeepsNames t (tables_after (with_use (raised t b) (λ k. row k ∷ [])) t)
use_keeps t b row same_names same_params o has = by_name_of (name_of_bytes t b) refl has
  where
    by_name_of : (found : Option Name) → name_of_bytes t b ≡ found → is_some found ≡ true → KeepsNames t (tables_after (with_use (raised t b) (λ k. row k ∷ [])) t)
    by_name_of None is some = absurd (cc some)
    by_name_of (Some n) is some =
        subst (λ (found : Option Name). KeepsNames t (tables_after (with_use (raised_of b found t.params) (λ k. row k ∷ [])) t)) (sym is) (by_room (nat_lt (n.refcount + 1) (2 ^ 62)))
      where
        there : row_at by_name n.id t.names ≡ Some n
        there = row_at_from_find by_name nat_cmp_total (λ r. is_eq (bytes_cmp r.name b)) t.names n o.names is

        put_more : KeepsNames t (after_change (changes.PutName (record n { refcount = n.refcount + 1 })) t)
        put_more = record {
          names = λ c own. put_keeps t.names (record n { refcount = n.refcount + 1 }) o.names (λ old at_id. ap (λ (x : Name). x.name) (one old at_id)) c own;
          next = refl;
          ids = λ all.
              list_all-put by_name (below (next_name_of t)) (record n { refcount = n.refcount + 1 }) t.names
              (find_passes_all (has_key by_name n.id) (below (next_name_of t)) t.names n all there) all;
        }
          where
            one : (old : Name) → row_at by_name n.id t.names ≡ Some old → old ≡ n
            one old at_id =
                let both : Some old ≡ Some n = sym at_id ∙ there in
                cc both

        by_room : (c : Bool) → KeepsNames t (tables_after (with_use (cond c (Some (record { id = n.id; changes = changes.PutName (record n { refcount = n.refcount + 1 }) ∷ [] })) None) (λ k. row k ∷ [])) t)
        by_room true =
            KeepsNames-trans t (after_change (changes.PutName (record n { refcount = n.refcount + 1 })) t) (after_change (row n.id) (after_change (changes.PutName (record n { refcount = n.refcount + 1 })) t)) put_more
            (KeepsNames-same (after_change (changes.PutName (record n { refcount = n.refcount + 1 })) t) (after_change (row n.id) (after_change (changes.PutName (record n { refcount = n.refcount + 1 })) t))
            (same_names n.id (after_change (changes.PutName (record n { refcount = n.refcount + 1 })) t))
            (ap (λ (p : Option Parameters). unwrap_or (option_map (λ (q : Parameters). q.next_name) p) 0) (same_params n.id (after_change (changes.PutName (record n { refcount = n.refcount + 1 })) t))))
        by_room false = KeepsNames-same t t refl refl

pub entry_keeps : (directory id : ℕ) (name : List ℕ) (t : Tables) → IsOrdered t → has_name t name ≡ true → KeepsNames t (tables_after (entry_copied directory name id t) t)
entry_keeps directory id name t o has =
    use_keeps t name (λ k. changes.PutContent (record { parent = directory; name_id = k; inode = id })) (λ k u. refl) (λ k u. refl) o has

abbrev pub named_in : Tables → NamedAttr → Bool
named_in t a = has_name t a.name

attrs_keep : (id : ℕ) (attrs : List NamedAttr) (told base t : Tables) → ((b : List ℕ) → has_name told b ≡ true → has_name base b ≡ true) → IsTrue (list_all (named_in told) attrs) → IsOrdered t → KeepsNames base t
    → KeepsNames base (tables_after (attrs_copied id attrs t) t)
attrs_keep id [] told base t given all o keeps = keeps
attrs_keep id (a ∷ attrs) told base t given all o keeps =
    let parts = and_parts (named_in told a) (list_all (named_in told) attrs) all in
    let one : List Change = attr_copied id a t in
    let first : KeepsNames t (tables_after one t) =
    use_keeps t a.name (λ k. changes.PutAttr (record { inode = id; name_id = k; value = a.row.value })) (λ k u. refl) (λ k u. refl) o (keeps.names a.name (given a.name parts.0)) in
    subst (λ (u : Tables). KeepsNames base u) (tables_after-tables_after one (attrs_copied id attrs (tables_after one t)) t)
    (attrs_keep id attrs told base (tables_after one t) given parts.1 (IsOrdered-tables_after one t o) (KeepsNames-trans base t (tables_after one t) keeps first))

-- the names of rows are there
with_name : (t : Tables) (id : ℕ) (n : Name) → name_at t id ≡ Some n → has_name t n.name ≡ true
with_name t id n is =
    sym (list_any-find (λ (r : Name). is_eq (bytes_cmp r.name n.name)) t.names)
    ∙ list_any_from_find (has_key by_name id) (λ (r : Name). is_eq (bytes_cmp r.name n.name)) t.names n is (ap is_eq (tied_itself nat_list_cmp_total n.name))

-- what is found among rows that were made of others was made of one
found_made : {R S : Type 0} (o : Order (List ℕ) S) (P : S → Type 0) (f : R → Option S) → ((r : R) (y : S) → f r ≡ Some y → P y) → (k : List ℕ) (y : S) (rows : List R)
    → row_at o k (filter_map f rows) ≡ Some y → P y
found_made o P f made k y [] is = absurd (cc is)
found_made {R} {S} o P f made k y (r ∷ rows) is = by_made (found_made o P f made k y rows) (f r) refl is
  where
    by_made : (row_at o k (filter_map f rows) ≡ Some y → P y) → (found : Option S) → f r ≡ found → row_at o k (cons_option found (filter_map f rows)) ≡ Some y → P y
    by_made rest None at own = rest own
    by_made rest (Some x) at own = by_key (has_key o k x) own
      where
        by_key : (c : Bool) → cond c (Some x) (row_at o k (filter_map f rows)) ≡ Some y → P y
        by_key true first =
            let same : x ≡ y = cc first in
            made r y (at ∙ ap Some same)
        by_key false later = rest later

pub attrs_named : (t : Tables) (x : ℕ) → IsTrue (list_all (named_in t) (named_attrs t x))
attrs_named t x =
    list_all_from_row_at by_attr_name nat_list_cmp_total (named_in t) (named_attrs t x)
    (rises-sorted_by by_attr_name nat_list_cmp_total (filter_map (with_attr_name t) (filter (λ r. r.inode == x) t.attrs)))
    (λ k a found.
    found_made by_attr_name (λ (y : NamedAttr). has_name t y.name ≡ true) (with_attr_name t) (λ r y is. made r y (name_at t r.name_id) refl is) k a (filter (λ r. r.inode == x) t.attrs)
    (sym (row_at-sorted_by by_attr_name nat_list_cmp_total k (filter_map (with_attr_name t) (filter (λ r. r.inode == x) t.attrs))) ∙ found))
  where
    made : (r : Attr) (a : NamedAttr) (found : Option Name) → name_at t r.name_id ≡ found → option_map (λ (n : Name). record { row = r; name = n.name }) found ≡ Some a → has_name t a.name ≡ true
    made r a None at none = absurd (cc none)
    made r a (Some n) at own =
        let same : record { row = r; name = n.name } ≡ a = cc own in
        subst (λ (y : NamedAttr). has_name t y.name ≡ true) same (with_name t r.name_id n at)

pub entry_named : (t : Tables) (x : ℕ) (k : List ℕ) (e : NamedEntry) → row_at by_entry_name k (named_entries t x) ≡ Some e → has_name t e.name ≡ true
entry_named t x k e found =
    found_made by_entry_name (λ (y : NamedEntry). has_name t y.name ≡ true) (with_entry_name t) (λ r y is. made r y (name_at t r.name_id) refl is) k e (filter (λ r. r.parent == x) t.contents)
    (sym (row_at-sorted_by by_entry_name nat_list_cmp_total k (filter_map (with_entry_name t) (filter (λ r. r.parent == x) t.contents))) ∙ found)
  where
    made : (r : Content) (a : NamedEntry) (found : Option Name) → name_at t r.name_id ≡ found → option_map (λ (n : Name). record { row = r; name = n.name }) found ≡ Some a → has_name t a.name ≡ true
    made r a None at none = absurd (cc none)
    made r a (Some n) at own =
        let same : record { row = r; name = n.name } ≡ a = cc own in
        subst (λ (y : NamedEntry). has_name t y.name ≡ true) same (with_name t r.name_id n at)

pub node_keeps : (told base : Tables) (id now : ℕ) (r : Inode) (t : Tables) → ((b : List ℕ) → has_name told b ≡ true → has_name base b ≡ true) → IsOrdered t → KeepsNames base t
    → KeepsNames base (tables_after (node_copied told id now r t) t)
node_keeps told base id now r t given o keeps =
    let row : List Change = row_copied told id now r t in
    subst (λ (u : Tables). KeepsNames base u) (tables_after-tables_after row (attrs_copied id (named_attrs told r.id) (tables_after row t)) t)
    (attrs_keep id (named_attrs told r.id) told base (tables_after row t) given (attrs_named told r.id) (IsOrdered-tables_after row t o)
    (KeepsNames-trans base t (tables_after row t) keeps (by_case t.params refl (target_at told r.id))))
  where
    by_case : (p : Option Parameters) → t.params ≡ p → (x : Option Target)
        → KeepsNames t (tables_after (drawing t.params ++ target_copied id x ++ changes.PutInode (copied_row id now r) ∷ []) t)
    by_case p is x =
        subst (λ (q : Option Parameters). KeepsNames t (tables_after (drawing q ++ target_copied id x ++ changes.PutInode (copied_row id now r) ∷ []) t)) (sym is) (by_both p is x)
      where
        by_both : (q : Option Parameters) → t.params ≡ q → (y : Option Target)
            → KeepsNames t (tables_after (drawing q ++ target_copied id y ++ changes.PutInode (copied_row id now r) ∷ []) t)
        by_both None own None = KeepsNames-same t _ refl refl
        by_both None own (Some y) = KeepsNames-same t _ refl refl
        by_both (Some q) own None = KeepsNames-same t _ refl (sym (ap (λ (z : Option Parameters). unwrap_or (option_map (λ (y : Parameters). y.next_name) z) 0) own))
        by_both (Some q) own (Some y) = KeepsNames-same t _ refl (sym (ap (λ (z : Option Parameters). unwrap_or (option_map (λ (w : Parameters). w.next_name) z) 0) own))

-- ---- visits

child_keeps : (b : Bool) (told base : Tables) (id now : ℕ) (r : Inode) (t : Tables) → ((b : List ℕ) → has_name told b ≡ true → has_name base b ≡ true) → IsOrdered t → KeepsNames base t
    → KeepsNames base (tables_after (child_copied b told id now r t) t)
child_keeps true told base id now r t given o keeps = KeepsNames-trans base t (tables_after (link_counted (inode_at t id)) t) keeps (by_row (inode_at t id))
  where
    by_row : (found : Option Inode) → KeepsNames t (tables_after (link_counted found) t)
    by_row None = KeepsNames-same t t refl refl
    by_row (Some x) = KeepsNames-same t (tables_after (link_counted (Some x)) t) refl refl
child_keeps false told base id now r t given o keeps = node_keeps told base id now r t given o keeps

visit_keeps : (told base : Tables) (next now : ℕ) (seen : List ℕ) (v : Visit) (t : Tables) → ((b : List ℕ) → has_name told b ≡ true → has_name base b ≡ true) → IsVisit told seen v → IsOrdered t → KeepsNames base t
    → KeepsNames base (tables_after (visit_copied told next now seen v t) t)
visit_keeps told base next now seen v t given is o keeps =
    let child : List Change = child_of_visit told next now seen v t in
    let w : Tables = tables_after child t in
    let entry : List Change = entry_copied (copy_number next seen v.directory) v.entry.name (copy_number next seen v.child.id) w in
    let first : KeepsNames base w = child_keeps (is_among seen v.child.id) told base (copy_number next seen v.child.id) now v.child t given o keeps in
    subst (λ (u : Tables). KeepsNames base u) (tables_after-tables_after child entry t)
    (KeepsNames-trans base w (tables_after entry w) first
    (entry_keeps (copy_number next seen v.directory) (copy_number next seen v.child.id) v.entry.name w (IsOrdered-tables_after child t o)
    (first.names v.entry.name (given v.entry.name (entry_named told v.directory v.entry.name v.entry is.named)))))

visits_keep : (told base : Tables) (next now : ℕ) (visits : List Visit) (seen : List ℕ) (done : List Visit) (t : Tables) → ((b : List ℕ) → has_name told b ≡ true → has_name base b ≡ true) → AreVisits told seen done visits → IsOrdered t
    → KeepsNames base t → KeepsNames base (tables_after (visits_copied told next now seen visits t) t)
visits_keep told base next now [] seen done t given are o keeps = keeps
visits_keep told base next now (v ∷ visits) seen done t given are o keeps =
    let one : List Change = visit_copied told next now seen v t in
    subst (λ (u : Tables). KeepsNames base u) (tables_after-tables_after one (visits_copied told next now (seen_after seen v) visits (tables_after one t)) t)
    (visits_keep told base next now visits (seen_after seen v) (done ++ v ∷ []) (tables_after one t) given are.2 (IsOrdered-tables_after one t o)
    (visit_keeps told base next now seen v t given are.0 o keeps))

-- ---- the source

-- names stay, and at most one id is drawn
pub record DrawsOne (t u : Tables) : Type 0 where
  pub names : (b : List ℕ) → has_name t b ≡ true → has_name u b ≡ true
  pub next : next_name_of u ≤ next_name_of t + 1

draws_kept : (t u : Tables) → KeepsNames t u → DrawsOne t u
draws_kept t u keeps = record { names = keeps.names; next = omega (arith, keeps.next) }

entry_draws : (directory id : ℕ) (name : List ℕ) (told w : Tables) → IsTrue (list_all (below (next_name_of told)) told.names) → IsOrdered w → KeepsNames told w
    → DrawsOne told (tables_after (entry_copied directory name id w) w)
entry_draws directory id name told w free o keeps = by_name_of (name_of_bytes w name) refl
  where
    by_name_of : (found : Option Name) → name_of_bytes w name ≡ found → DrawsOne told (tables_after (entry_copied directory name id w) w)
    by_name_of (Some n) is =
        draws_kept told (tables_after (entry_copied directory name id w) w)
        (KeepsNames-trans told w (tables_after (entry_copied directory name id w) w) keeps (entry_keeps directory id name w o (ap is_some is)))
    by_name_of None is =
        subst (λ (found : Option Name). DrawsOne told (tables_after (with_use (raised_of name found w.params) (λ k. changes.PutContent (record { parent = directory; name_id = k; inode = id }) ∷ [])) w)) (sym is)
        (by_params w.params refl)
      where
        by_params : (p : Option Parameters) → w.params ≡ p
            → DrawsOne told (tables_after (with_use (raised_of name None p) (λ k. changes.PutContent (record { parent = directory; name_id = k; inode = id }) ∷ [])) w)
        by_params None made = draws_kept told w keeps
        by_params (Some q) made = by_room (nat_lt q.next_name (2 ^ 62))
          where
            number : q.next_name ≡ next_name_of told
            number = sym (ap (λ (p : Option Parameters). unwrap_or (option_map (λ (y : Parameters). y.next_name) p) 0) made) ∙ keeps.next

            none_there : (old : Name) → row_at by_name q.next_name w.names ≡ Some old → old.name ≡ name
            none_there old at =
                let less : old.id < next_name_of told = ltb-true old.id (next_name_of told) (find_passes_all (has_key by_name q.next_name) (below (next_name_of told)) w.names old (keeps.ids free) at) in
                let key : q.next_name ≡ old.id = nat_cmp-IsAntisymmetric q.next_name old.id (row_at_key by_name q.next_name w.names old at) in
                absurd (omega (arith, less, key, number))

            by_room : (c : Bool) → DrawsOne told (tables_after (with_use (cond c (Some (record {
              id = q.next_name;
              changes = changes.PutName (record { id = q.next_name; refcount = 1; name = name }) ∷ changes.SetParams (record q { next_name = q.next_name + 1 }) ∷ [];
            })) None) (λ k. changes.PutContent (record { parent = directory; name_id = k; inode = id }) ∷ [])) w)
            by_room true = record {
              names = λ b has. put_keeps w.names (record { id = q.next_name; refcount = 1; name = name }) o.names none_there b (keeps.names b has);
              next = omega (arith, number);
            }
            by_room false = draws_kept told w keeps

source_draws : (told : Tables) (next now : ℕ) (top directory : Inode) (name : List ℕ) → IsValid told → DrawsOne told (tables_after (source_copied told next now top directory name) told)
source_draws told next now top directory name v =
    let node : List Change = node_copied told next now top told in
    let w : Tables = tables_after node told in
    let entry : List Change = entry_copied directory.id name next w in
    let touch : List Change = changes.PutInode (touched_row now directory) ∷ [] in
    let start : KeepsNames told w = node_keeps told told next now top told (λ b has. has) v.ordered (KeepsNames-same told told refl refl) in
    let free : IsTrue (list_all (below (next_name_of told)) told.names) =
    subst (λ n. IsTrue (list_all (below n) told.names)) (sym (ap (λ (p : Option Parameters). unwrap_or (option_map (λ (y : Parameters). y.next_name) p) 0) v.is_made)) v.free.names in
    let drawn : DrawsOne told (tables_after entry w) = entry_draws directory.id next name told w free (IsOrdered-tables_after node told v.ordered) start in
    let touched : KeepsNames (tables_after entry w) (tables_after touch (tables_after entry w)) = KeepsNames-same (tables_after entry w) (tables_after touch (tables_after entry w)) refl refl in
    let both : DrawsOne told (tables_after touch (tables_after entry w)) =
    record { names = λ b has. touched.names b (drawn.names b has); next = omega (arith, drawn.next, touched.next) } in
    subst (λ (u : Tables). DrawsOne told u) (ap (tables_after touch) (tables_after-tables_after node entry told) ∙ tables_after-tables_after (node ++ entry) touch told) both

-- all of it
pub copy_draws : (told : Tables) (next now : ℕ) (top directory : Inode) (name : List ℕ) (visits : List Visit) → IsValid told → AreVisits told (top.id ∷ []) [] visits
    → next_name_of (tables_after (tree_copied told next now top directory name visits) told) ≤ next_name_of told + 1
copy_draws told next now top directory name visits v are =
    let first : List Change = source_copied told next now top directory name in
    let x : Tables = tables_after first told in
    let rest : List Change = visits_copied told next now (top.id ∷ []) visits x in
    let names : List Change = names_copied told next now top directory name visits in
    let y : Tables = tables_after names told in
    let seen : List ℕ = inodes_seen top visits in
    let files : List Change = files_copied told next seen seen told in
    let drawn : DrawsOne told x = source_draws told next now top directory name v in
    let later : KeepsNames x (tables_after rest x) =
    visits_keep told x next now visits (top.id ∷ []) [] x drawn.names are (IsOrdered-tables_after first told v.ordered) (KeepsNames-same x x refl refl) in
    let joined : tables_after rest x ≡ y = tables_after-tables_after first rest told in
    let one : next_name_of y ≡ next_name_of x = ap next_name_of (sym joined) ∙ later.next in
    let last : next_name_of (tables_after files y) ≡ next_name_of y = files_next seen seen told y in
    let end : tables_after files y ≡ tables_after (tree_copied told next now top directory name visits) told = tables_after-tables_after names files told in
    subst (λ (u : Tables). next_name_of u ≤ next_name_of told + 1) end (omega (arith, drawn.next, one, last))
  where
    quiet : (r : InodeBlock) (id : ℕ) (found : Option Block) (t : Tables) → next_name_of (tables_after (place_changes id r found) t) ≡ next_name_of t
    quiet r id None t = refl
    quiet r id (Some b) t = refl

    file_next : (id : ℕ) (rows : List InodeBlock) (s t : Tables) → next_name_of (tables_after (file_copied id rows s) t) ≡ next_name_of t
    file_next id [] s t = refl
    file_next id (r ∷ rows) s t =
        let this : List Change = place_copied id r s in
        ap next_name_of (sym (tables_after-tables_after this (file_copied id rows (tables_after this s)) t)) ∙ file_next id rows (tables_after this s) (tables_after this t)
        ∙ quiet r id (block_at s r.block) t

    files_next : (seen xs : List ℕ) (s t : Tables) → next_name_of (tables_after (files_copied told next seen xs s) t) ≡ next_name_of t
    files_next seen [] s t = refl
    files_next seen (z ∷ xs) s t =
        let this : List Change = file_copied (copy_number next seen z) (places_from told z 0) s in
        ap next_name_of (sym (tables_after-tables_after this (files_copied told next seen xs (tables_after this s)) t)) ∙ files_next seen xs (tables_after this s) (tables_after this t)
        ∙ file_next (copy_number next seen z) (places_from told z 0) s t
