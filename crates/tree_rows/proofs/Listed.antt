-- The entries that a directory is listed with, and the rows that they come from.
use Rattle.std.proofs.Common.{◌≡◌, ℕ, ◌+◌, List, [], ◌∷◌, Bool, true, false, cond, Option, None, Some, refl, sym, ap, ◌∙◌, zero-add, eqb-true, eq-eqb}
use Rattle.std.specs.Prelude.{IsTrue, not, ◌&&◌, ◌==◌, is_some, count_by, filter, map, find, option_map, unwrap_or}
use Rattle.std.specs.List.{list_all, list_any, filter_map}
use Rattle.std.proofs.lemmas.List.Sums.{sum_by-cons}
use Rattle.std.proofs.lemmas.Cmp.{nat_list_cmp_total}
use Rattle.std.specs.Ordering.{is_eq}
use Rattle.std.specs.BTreeMap.{is_at}
use Rattle.std.proofs.lemmas.Bool.{and_from, and_parts}
use Rattle.s3_rows.specs.declared.lists.NamedEntry.{NamedEntry}
use Rattle.s3_rows.specs.Rows.{Name, Content}
use Rattle.s3_rows.specs.Keyed.{has_key, row_at, sorted_by}
use Rattle.s3_rows.specs.Tables.{Tables}
use Rattle.s3_rows.specs.Selections.{name_at, bytes_cmp, bytes_of_name, with_entry_name, named_entries, by_entry_name}
use Rattle.s3_rows.specs.Validity.{finds_of_entry, has_inode, is_directory, any_kind, have_one_name, differ}
use Rattle.row_lemmas.proofs.Tests.{is_some-option_map, list_any_weaker, list_any-find, false_from_not}
use Rattle.row_lemmas.proofs.Sums.{sum_by-map}
use Rattle.row_lemmas.proofs.Keyed.Sorted.{row_at-sorted_by, count_by-sorted_by}
use Rattle.tree_rows.specs.Shapes.{Directory, entries_in}
use Rattle.tree_rows.proofs.Shaped.{lookup_made, entry_of_shape, names_in_shape}

-- an entry of the directory with this name
abbrev pub is_entry : Tables → ℕ → List ℕ → Content → Bool
is_entry t parent name c = c.parent == parent && is_eq (bytes_cmp name (bytes_of_name t c.name_id))

-- an entry of the directory that names the inode
abbrev pub names_inode : ℕ → ℕ → Content → Bool
names_inode parent inode c = c.parent == parent && c.inode == inode

-- a row with its name
abbrev pub named : Tables → Content → NamedEntry
named t c = record { row = c; name = bytes_of_name t c.name_id }

abbrev pub is_in : ℕ → Content → Bool
is_in parent c = c.parent == parent

with_name : (c : Content) (found : Option Name) → IsTrue (is_some found)
    → option_map (λ (n : Name). let e : NamedEntry = record { row = c; name = n.name } in e) found ≡ Some (record { row = c; name = unwrap_or (option_map (λ r. r.name) found) [] })
with_name c None there = absurd (cc there)
with_name c (Some n) there = refl

pub name_there : (t : Tables) (c : Content) → IsTrue (finds_of_entry t c) → IsTrue (is_some (name_at t c.name_id))
name_there t c finds = (and_parts (has_inode is_directory t c.parent) (is_some (name_at t c.name_id)) (and_parts (has_inode is_directory t c.parent && is_some (name_at t c.name_id)) (has_inode any_kind t c.inode) finds).0).1

-- a choice between two options, through what is made of them
pulled : {X Y : Type 0} (f : X → Y) (b : Bool) (x : X) (found : Option X) → cond b (Some (f x)) (option_map f found) ≡ option_map f (cond b (Some x) found)
pulled f true x found = refl
pulled f false x found = refl

-- the rows that are sorted are those of the directory with their names
pub filter_map-with_entry_name : (t : Tables) (parent : ℕ) (cs : List Content) → IsTrue (list_all (finds_of_entry t) cs) → filter_map (with_entry_name t) (filter (is_in parent) cs) ≡ map (named t) (filter (is_in parent) cs)
filter_map-with_entry_name t parent [] finds = refl
filter_map-with_entry_name t parent (c ∷ cs) finds =
    by_case (filter_map-with_entry_name t parent cs (and_parts (finds_of_entry t c) (list_all (finds_of_entry t) cs) finds).1) (with_name c (name_at t c.name_id) (name_there t c (and_parts (finds_of_entry t c) (list_all (finds_of_entry t) cs) finds).0)) (is_in parent c)
  where
    by_case : filter_map (with_entry_name t) (filter (is_in parent) cs) ≡ map (named t) (filter (is_in parent) cs) → with_entry_name t c ≡ Some (named t c) → (b : Bool)
        → filter_map (with_entry_name t) (cond b (c ∷ filter (is_in parent) cs) (filter (is_in parent) cs)) ≡ map (named t) (cond b (c ∷ filter (is_in parent) cs) (filter (is_in parent) cs))
    by_case others own true = rw (own, filter_map) (ap (λ es. named t c ∷ es) others)
    by_case others own false = others

-- the first of them with a name
found_listed : (t : Tables) (parent : ℕ) (name : List ℕ) (cs : List Content)
    → row_at by_entry_name name (map (named t) (filter (is_in parent) cs)) ≡ option_map (named t) (find (is_entry t parent name) cs)
found_listed t parent name [] = refl
found_listed t parent name (c ∷ cs) = by_case (found_listed t parent name cs) (is_in parent c)
  where
    by_case : row_at by_entry_name name (map (named t) (filter (is_in parent) cs)) ≡ option_map (named t) (find (is_entry t parent name) cs) → (b : Bool)
        → row_at by_entry_name name (map (named t) (cond b (c ∷ filter (is_in parent) cs) (filter (is_in parent) cs)))
        ≡ option_map (named t) (cond (b && is_eq (bytes_cmp name (bytes_of_name t c.name_id))) (Some c) (find (is_entry t parent name) cs))
    by_case others true =
        ap (λ found. cond (is_eq (bytes_cmp name (bytes_of_name t c.name_id))) (Some (named t c)) found) others
        ∙ pulled (named t) (is_eq (bytes_cmp name (bytes_of_name t c.name_id))) c (find (is_entry t parent name) cs)
    by_case others false = others

-- how many of them name an inode
counted_listed : (t : Tables) (parent inode : ℕ) (cs : List Content) → count_by (λ (e : NamedEntry). e.row.inode == inode) (map (named t) (filter (is_in parent) cs)) ≡ count_by (names_inode parent inode) cs
counted_listed t parent inode [] = refl
counted_listed t parent inode (c ∷ cs) = by_case (counted_listed t parent inode cs) (is_in parent c) refl
  where
    of_entry : NamedEntry → ℕ
    of_entry e = cond (e.row.inode == inode) 1 0

    of_row : Content → ℕ
    of_row x = cond (names_inode parent inode x) 1 0

    by_case : count_by (λ (e : NamedEntry). e.row.inode == inode) (map (named t) (filter (is_in parent) cs)) ≡ count_by (names_inode parent inode) cs → (b : Bool) → is_in parent c ≡ b
        → count_by (λ (e : NamedEntry). e.row.inode == inode) (map (named t) (cond b (c ∷ filter (is_in parent) cs) (filter (is_in parent) cs))) ≡ count_by (names_inode parent inode) (c ∷ cs)
    by_case others true is =
        sum_by-cons of_entry (named t c) (map (named t) (filter (is_in parent) cs)) ∙ ap (λ n. cond (c.inode == inode) 1 0 + n) others
        ∙ ap (λ b. cond (b && (c.inode == inode)) 1 0 + count_by (names_inode parent inode) cs) (sym is) ∙ sym (sum_by-cons of_row c cs)
    by_case others false is =
        others ∙ sym (zero-add (count_by (names_inode parent inode) cs)) ∙ ap (λ b. cond (b && (c.inode == inode)) 1 0 + count_by (names_inode parent inode) cs) (sym is) ∙ sym (sum_by-cons of_row c cs)

-- no two of them have one name
pub differ-named : (t : Tables) (parent : ℕ) (cs : List Content) → IsTrue (differ (have_one_name t) cs)
    → IsTrue (differ (λ a. has_key by_entry_name (by_entry_name.key a)) (map (named t) (filter (is_in parent) cs)))
differ-named t parent [] unlike = refl
differ-named t parent (c ∷ cs) unlike = by_case (differ-named t parent cs (and_parts (not (list_any (have_one_name t c) cs)) (differ (have_one_name t) cs) unlike).1) (is_in parent c) refl
  where
    own : list_any (have_one_name t c) cs ≡ false
    own = false_from_not (list_any (have_one_name t c) cs) (and_parts (not (list_any (have_one_name t c) cs)) (differ (have_one_name t) cs) unlike).0

    -- an entry of this directory with this name would be alike
    alike : is_in parent c ≡ true → (x : Content) → IsTrue (is_entry t parent (bytes_of_name t c.name_id) x) → IsTrue (have_one_name t c x)
    alike is x entry =
        let there : x.parent ≡ parent = eqb-true x.parent parent (and_parts (x.parent == parent) (is_eq (bytes_cmp (bytes_of_name t c.name_id) (bytes_of_name t x.name_id))) entry).0 in
        let here : c.parent ≡ parent = eqb-true c.parent parent is in
        and_from (c.parent == x.parent) (is_eq (bytes_cmp (bytes_of_name t c.name_id) (bytes_of_name t x.name_id)))
        (eq-eqb c.parent x.parent (here ∙ sym there))
        (and_parts (x.parent == parent) (is_eq (bytes_cmp (bytes_of_name t c.name_id) (bytes_of_name t x.name_id))) entry).1

    none : is_in parent c ≡ true → (b : Bool) → list_any (is_entry t parent (bytes_of_name t c.name_id)) cs ≡ b → IsTrue (not b)
    none is true any =
        let clash : false ≡ true = sym own ∙ list_any_weaker (is_entry t parent (bytes_of_name t c.name_id)) (have_one_name t c) (alike is) cs any in
        absurd (cc clash)
    none is false any = refl

    same_any : list_any (is_entry t parent (bytes_of_name t c.name_id)) cs ≡ list_any (has_key by_entry_name (bytes_of_name t c.name_id)) (map (named t) (filter (is_in parent) cs))
    same_any =
        list_any-find (is_entry t parent (bytes_of_name t c.name_id)) cs ∙ sym (is_some-option_map (named t) (find (is_entry t parent (bytes_of_name t c.name_id)) cs))
        ∙ ap is_some (sym (found_listed t parent (bytes_of_name t c.name_id) cs)) ∙ sym (list_any-find (has_key by_entry_name (bytes_of_name t c.name_id)) (map (named t) (filter (is_in parent) cs)))

    by_case : IsTrue (differ (λ a. has_key by_entry_name (by_entry_name.key a)) (map (named t) (filter (is_in parent) cs))) → (b : Bool) → is_in parent c ≡ b
        → IsTrue (differ (λ a. has_key by_entry_name (by_entry_name.key a)) (map (named t) (cond b (c ∷ filter (is_in parent) cs) (filter (is_in parent) cs))))
    by_case others true is =
        and_from (not (list_any (has_key by_entry_name (bytes_of_name t c.name_id)) (map (named t) (filter (is_in parent) cs)))) (differ (λ a. has_key by_entry_name (by_entry_name.key a)) (map (named t) (filter (is_in parent) cs)))
        (none is (list_any (has_key by_entry_name (bytes_of_name t c.name_id)) (map (named t) (filter (is_in parent) cs))) same_any) others
    by_case others false is = others

-- ---- a directory's row

module _ (t : Tables) (finds : IsTrue (list_all (finds_of_entry t) t.contents)) where
  sorted_from : (parent : ℕ) → named_entries t parent ≡ sorted_by by_entry_name (map (named t) (filter (is_in parent) t.contents))
  sorted_from parent = ap (sorted_by by_entry_name) (filter_map-with_entry_name t parent t.contents finds)

  -- the entry that a directory is listed with under a name
  pub entry_in : (parent : ℕ) (name : List ℕ) → entry_of_shape (Directory (entries_in t parent)) name ≡ option_map (λ c. c.inode) (find (is_entry t parent name) t.contents)
  entry_in parent name =
      let inode_of : NamedEntry → ℕ = λ e. e.row.inode in
      let rows : List NamedEntry = map (named t) (filter (is_in parent) t.contents) in
      lookup_made (λ (e : NamedEntry). e.name) inode_of (is_at (bytes_cmp name)) (named_entries t parent)
      ∙ ap (λ es. option_map inode_of (row_at by_entry_name name es)) (sorted_from parent)
      ∙ ap (option_map inode_of) (row_at-sorted_by by_entry_name nat_list_cmp_total name rows ∙ found_listed t parent name t.contents)
      ∙ composed (find (is_entry t parent name) t.contents)
    where
      composed : (found : Option Content) → option_map (λ (e : NamedEntry). e.row.inode) (option_map (named t) found) ≡ option_map (λ c. c.inode) found
      composed None = refl
      composed (Some c) = refl

  -- how many entries of a directory name an inode
  pub names_in_directory : IsTrue (differ (have_one_name t) t.contents) → (parent inode : ℕ) → names_in_shape inode (Directory (entries_in t parent)) ≡ count_by (names_inode parent inode) t.contents
  names_in_directory unlike parent inode =
      let one : List ℕ × ℕ → ℕ = λ e. cond (e.1 == inode) 1 0 in
      let pair_of : NamedEntry → List ℕ × ℕ = λ e. (e.name, e.row.inode) in
      let counts : NamedEntry → Bool = λ e. e.row.inode == inode in
      let rows : List NamedEntry = map (named t) (filter (is_in parent) t.contents) in
      sum_by-map one pair_of (named_entries t parent) ∙ ap (λ es. count_by counts es) (sorted_from parent)
      ∙ count_by-sorted_by by_entry_name nat_list_cmp_total counts rows (differ-named t parent t.contents unlike) ∙ counted_listed t parent inode t.contents
