-- The entry of a directory behind a name, and the entries that come after it.
use Rattle.std.proofs.Common.{◌≡◌, ◌⊎◌, inl, inr, ℕ, List, [], ◌∷◌, Bool, true, false, cond, not, Option, None, Some, refl, sym, ap, ◌∙◌, subst}
use Rattle.std.specs.Prelude.{IsTrue, take, option_map, option_and_then}
use Rattle.std.specs.BTreeMap.{is_at}
use Rattle.std.specs.List.{slice_get}
use Rattle.std.specs.FinMap.{slice_cmp-IsAntisymmetric, nat_cmp-IsAntisymmetric}
use Rattle.std.specs.Ordering.{is_lt}
use Rattle.std.proofs.lemmas.Bool.{both_ways}
use Rattle.std.proofs.lemmas.Cmp.{nat_list_cmp_total}
use Rattle.s3_base.specs.declared.node_kind.Kind.{Kind}
use Rattle.s3_base.specs.declared.node_kind.Kind.TheVariants as kinds
use Rattle.plain_tree.specs.Entries.{entry_at}
use Rattle.plain_tree.specs.Tree.{Tree}
use Rattle.s3_rows.specs.declared.lists.NamedEntry.{NamedEntry}
use Rattle.s3_rows.specs.Keyed.{has_key, is_past, rises, row_at, rows_past}
use Rattle.s3_rows.specs.Rows.{Inode}
use Rattle.s3_rows.specs.Selections.{by_entry_name, bytes_cmp, inode_at, named_entries}
use Rattle.s3_rows.specs.Tables.{Tables}
use Rattle.s3_rows.specs.Validity.{has_inode, is_directory}
use Rattle.row_lemmas.proofs.Filters.{find_from_filter, list_all_from_filter}
use Rattle.row_lemmas.proofs.Keyed.Filter.{if_passes, row_at-filter}
use Rattle.row_lemmas.proofs.Keyed.Rises.{rises-filter, rises_head}
use Rattle.row_lemmas.proofs.Keyed.RowAt.{row_at_from_find, row_at_key, row_at_passes}
use Rattle.row_lemmas.proofs.Tests.{equal_from_is_eq, false_from_not}
use Rattle.tree_rows.specs.Shapes.{NodeShape, Represents, node_of_row}
use Rattle.tree_rows.proofs.Shaped.{entry_of_shape, entry_there, lookup_made}
use Rattle.tree_rows.proofs.Whole.{content_of_kind, number_of}

-- ---- rows in the order of their names

abbrev past : List ℕ → NamedEntry → Bool
past last e = is_past by_entry_name last e

-- the name of a row that is found by it
name_of : (name : List ℕ) (rows : List NamedEntry) (e : NamedEntry) → row_at by_entry_name name rows ≡ Some e → name ≡ e.name
name_of name rows e found = slice_cmp-IsAntisymmetric nat_cmp-IsAntisymmetric name e.name (row_at_key by_entry_name name rows e found)

module _ (last : List ℕ) (rows : List NamedEntry) where
  abbrev next : Option NamedEntry
  next = slice_get (take 1 (rows_past by_entry_name last rows)) 0

  -- there is none behind where none is next
  pub none_behind : next ≡ None → (name : List ℕ) (e : NamedEntry) → row_at by_entry_name name rows ≡ Some e → IsTrue (is_lt (bytes_cmp last name)) → ⊥
  none_behind none name e found later = by_rows (rows_past by_entry_name last rows) refl
    where
      by_rows : (behind : List NamedEntry) → rows_past by_entry_name last rows ≡ behind → ⊥
      by_rows [] is =
          both_ways (past last e)
          (false_from_not (past last e) (row_at_passes by_entry_name (λ (r : NamedEntry). not (past last r)) name rows e (list_all_from_filter (past last) rows is) found))
          (subst (λ n. IsTrue (is_lt (bytes_cmp last n))) (name_of name rows e found) later)
      by_rows (x ∷ xs) is =
          let clash : Some x ≡ None = ap (λ (l : List NamedEntry). slice_get (take 1 l) 0) (sym is) ∙ none in
          absurd (cc clash)

  module _ (up : IsTrue (rises by_entry_name rows)) (f : NamedEntry) (is_next : next ≡ Some f) where
    first_behind : (x : NamedEntry) (xs : List NamedEntry) → rows_past by_entry_name last rows ≡ x ∷ xs → x ≡ f
    first_behind x xs is =
        let same : Some x ≡ Some f = ap (λ (l : List NamedEntry). slice_get (take 1 l) 0) (sym is) ∙ is_next in
        cc same

    -- the next is found by its name
    pub next_found : row_at by_entry_name f.name rows ≡ Some f
    next_found = by_rows (rows_past by_entry_name last rows) refl
      where
        by_rows : (behind : List NamedEntry) → rows_past by_entry_name last rows ≡ behind → row_at by_entry_name f.name rows ≡ Some f
        by_rows [] is =
            let clash : None ≡ Some f = ap (λ (l : List NamedEntry). slice_get (take 1 l) 0) (sym is) ∙ is_next in
            absurd (cc clash)
        by_rows (x ∷ xs) is =
            row_at_from_find by_entry_name nat_list_cmp_total (past last) rows f up
            (find_from_filter (past last) rows xs f (is ∙ ap (λ y. y ∷ xs) (first_behind x xs is)))

    -- and any other behind comes after it
    pub next_is_least : (name : List ℕ) (e : NamedEntry) → row_at by_entry_name name rows ≡ Some e → IsTrue (is_lt (bytes_cmp last name))
        → (name ≡ f.name) ⊎ IsTrue (is_lt (bytes_cmp f.name name))
    next_is_least name e found later = by_rows (rows_past by_entry_name last rows) refl
      where
        number : name ≡ e.name
        number = name_of name rows e found

        behind_found : row_at by_entry_name name (rows_past by_entry_name last rows) ≡ Some e
        behind_found =
            row_at-filter by_entry_name nat_list_cmp_total (past last) name rows up ∙ ap (if_passes (past last)) found
            ∙ ap (λ b. cond b (Some e) None) (subst (λ n. IsTrue (is_lt (bytes_cmp last n))) number later)

        by_key : (x : NamedEntry) (xs : List NamedEntry) → x ≡ f → IsTrue (rises by_entry_name (x ∷ xs)) → (b : Bool) → has_key by_entry_name name x ≡ b
            → cond b (Some x) (row_at by_entry_name name xs) ≡ Some e → (name ≡ f.name) ⊎ IsTrue (is_lt (bytes_cmp f.name name))
        by_key x xs same rise true is there =
            inl (slice_cmp-IsAntisymmetric nat_cmp-IsAntisymmetric name x.name (equal_from_is_eq (bytes_cmp name x.name) is) ∙ ap (λ (y : NamedEntry). y.name) same)
        by_key x xs same rise false is there =
            inr (subst (λ n. IsTrue (is_lt (bytes_cmp f.name n))) (sym number)
            (subst (λ (y : NamedEntry). IsTrue (is_lt (bytes_cmp y.name e.name))) same
            (row_at_passes by_entry_name (past x.name) name xs e (rises_head by_entry_name x xs rise) there)))

        by_rows : (behind : List NamedEntry) → rows_past by_entry_name last rows ≡ behind → (name ≡ f.name) ⊎ IsTrue (is_lt (bytes_cmp f.name name))
        by_rows [] is =
            let clash : None ≡ Some e = ap (row_at by_entry_name name) (sym is) ∙ behind_found in
            absurd (cc clash)
        by_rows (x ∷ xs) is =
            by_key x xs (first_behind x xs is)
            (subst (λ (l : List NamedEntry). IsTrue (rises by_entry_name l)) is (rises-filter by_entry_name (past last) rows up))
            (has_key by_entry_name name x) refl (ap (row_at by_entry_name name) (sym is) ∙ behind_found)

-- ---- a directory of the tree

-- its entries are its rows by name
pub entry_at-named_entries : (t : Tables) (whole : Tree) → Represents t whole → (directory : ℕ) → IsTrue (has_inode is_directory t directory) → (name : List ℕ)
    → entry_at whole directory name ≡ option_map (λ (e : NamedEntry). e.row.inode) (row_at by_entry_name name (named_entries t directory))
entry_at-named_entries t whole same directory folder name = entry_there t whole same directory name ∙ by_row (inode_at t directory) refl folder
  where
    inode_of : NamedEntry → ℕ
    inode_of e = e.row.inode

    by_kind : (r : Inode) → inode_at t directory ≡ Some r → (kind : Kind) → IsTrue (is_directory kind)
        → entry_of_shape (content_of_kind t r kind) name ≡ option_map inode_of (row_at by_entry_name name (named_entries t directory))
    by_kind r there kinds.Directory is =
        lookup_made (λ (e : NamedEntry). e.name) inode_of (is_at (bytes_cmp name)) (named_entries t r.id)
        ∙ ap (λ x. option_map inode_of (row_at by_entry_name name (named_entries t x))) (sym (number_of t directory r there))
    by_kind r there kinds.Regular is = absurd (cc is)
    by_kind r there kinds.Link is = absurd (cc is)

    by_row : (found : Option Inode) → inode_at t directory ≡ found → IsTrue (elim found [ Some r ↦ is_directory r.kind | None ↦ false ])
        → option_and_then (λ (node : NodeShape). entry_of_shape node.content name) (option_map (node_of_row t) found)
        ≡ option_map inode_of (row_at by_entry_name name (named_entries t directory))
    by_row None there is = absurd (cc is)
    by_row (Some r) there is = by_kind r there r.kind is
