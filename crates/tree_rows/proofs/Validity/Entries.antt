-- Each row of an entry makes an entry of the tree, where its directory and its name have rows.
use Rattle.std.proofs.Common.{◌≡◌, ℕ, List, [], ◌∷◌, Bool, true, false, cond, Option, None, Some, refl, sym, ap, ◌∙◌, ltb-false, le-leb, eq-eqb}
use Rattle.std.specs.Prelude.{IsTrue, IsSome, not, ◌&&◌, ◌==◌, is_some, length, filter, find, nat_lt, nat_le, option_map, option_and_then, unwrap_or}
use Rattle.std.specs.List.{list_all, filter_map, cons_option, AllByRecursion}
use Rattle.std.specs.BTreeMap.{is_at}
use Rattle.std.specs.Cmp.{tied_back, tied_itself}
use Rattle.std.specs.Ordering.{is_eq}
use Rattle.std.proofs.lemmas.Cmp.{nat_list_cmp_total}
use Rattle.std.proofs.lemmas.Bool.{and_from, and_parts}
use Rattle.s3_base.specs.Names.{is_forbidden_name}
use Rattle.s3_base.specs.declared.node_kind.Kind.{Kind}
use Rattle.s3_base.specs.declared.node_kind.Kind.TheVariants as kinds
use Rattle.plain_tree.specs.Tree.{Node, Tree, node_at}
use Rattle.plain_tree.specs.Checks.{name_check}
use Rattle.plain_tree.specs.Entries.{entry_at}
use Rattle.plain_tree.specs.WellFormed.{HasOneTree}
use Rattle.s3_rows.specs.declared.lists.NamedEntry.{NamedEntry}
use Rattle.s3_rows.specs.Rows.{Name, Inode, Content}
use Rattle.s3_rows.specs.Keyed.{row_at}
use Rattle.s3_rows.specs.Tables.{Tables}
use Rattle.s3_rows.specs.Selections.{inode_at, name_at, bytes_cmp, bytes_of_name, with_entry_name, named_entries, by_entry_name}
use Rattle.s3_rows.specs.Validity.{finds_of_entry, has_inode, is_directory, any_kind, has_legal_name, have_one_name, differ}
use Rattle.row_lemmas.proofs.Tests.{list_all_weaker, equal_from_is_eq}
use Rattle.row_lemmas.proofs.Keyed.Sorted.{row_at-sorted_by}
use Rattle.tree_rows.specs.Premises.{finds_directory_and_name}
use Rattle.tree_rows.specs.Shapes.{Directory, NodeShape, shape_of_node, entries_in, node_of_row, Represents}
use Rattle.tree_rows.proofs.Listed.{is_entry, named, is_in}
use Rattle.tree_rows.proofs.Shaped.{lookup_made, entry_of_shape, found_alike, entry_there}
use Rattle.tree_rows.proofs.Whole.{content_of_kind, number_of}
use Rattle.tree_rows.proofs.Validity.Each.{list_all_from_each, AllByRecursion_weaker_both, find_own}

-- the row, if there is one, is of a kind that passes the test
abbrev pub is_of_kind : (Kind → Bool) → Option Inode → Bool
is_of_kind test row = elim row [ Some r ↦ test r.kind | None ↦ false ]

-- ---- the entries of a directory, where names have rows

-- the bytes of a row's name
abbrev pub text_of : Tables → Content → List ℕ
text_of t c = bytes_of_name t c.name_id

abbrev pub finds_name : Tables → Content → Bool
finds_name t c = is_some (name_at t c.name_id)

with_name : (c : Content) (found : Option Name) → IsTrue (is_some found)
    → option_map (λ (n : Name). let e : NamedEntry = record { row = c; name = n.name } in e) found
    ≡ Some (record { row = c; name = unwrap_or (option_map (λ r. r.name) found) [] })
with_name c None there = absurd (cc there)
with_name c (Some n) there = refl

-- the rows of a directory with their names
abbrev named_rows : Tables → ℕ → List Content → List NamedEntry
named_rows t parent cs = filter_map (with_entry_name t) (filter (is_in parent) cs)

-- what is found among them by a name is what the rows have
abbrev FindsNamed : Tables → ℕ → List ℕ → List Content → Type 0
FindsNamed t parent name cs =
    row_at by_entry_name name (named_rows t parent cs) ≡ option_map (named t) (find (is_entry t parent name) cs)

finds_named : (t : Tables) (parent : ℕ) (name : List ℕ) (cs : List Content) → IsTrue (list_all (finds_name t) cs)
    → FindsNamed t parent name cs
finds_named t parent name [] finds = refl
finds_named t parent name (c ∷ cs) finds =
    by_case (finds_named t parent name cs (and_parts (finds_name t c) (list_all (finds_name t) cs) finds).1)
    (with_name c (name_at t c.name_id) (and_parts (finds_name t c) (list_all (finds_name t) cs) finds).0)
    (is_in parent c)
  where
    step : FindsNamed t parent name cs → (b : Bool)
        → cond b (Some (named t c)) (row_at by_entry_name name (named_rows t parent cs))
        ≡ option_map (named t) (cond b (Some c) (find (is_entry t parent name) cs))
    step others true = refl
    step others false = others

    by_case : FindsNamed t parent name cs → with_entry_name t c ≡ Some (named t c) → (b : Bool)
        → row_at by_entry_name name
        (filter_map (with_entry_name t) (cond b (c ∷ filter (is_in parent) cs) (filter (is_in parent) cs)))
        ≡ option_map (named t)
        (cond (b && is_eq (bytes_cmp name (text_of t c))) (Some c) (find (is_entry t parent name) cs))
    by_case others own true =
        ap (λ (e : Option NamedEntry). row_at by_entry_name name (cons_option e (named_rows t parent cs))) own
        ∙ step others (is_eq (bytes_cmp name (text_of t c)))
    by_case others own false = others

-- the entry that a directory is listed with under a name
entry_of_shape-named : (t : Tables) (parent : ℕ) (name : List ℕ) → IsTrue (list_all (finds_name t) t.contents)
    → entry_of_shape (Directory (entries_in t parent)) name
    ≡ option_map (λ c. c.inode) (find (is_entry t parent name) t.contents)
entry_of_shape-named t parent name finds =
    let inode_of : NamedEntry → ℕ = λ e. e.row.inode in
    lookup_made (λ (e : NamedEntry). e.name) inode_of (is_at (bytes_cmp name)) (named_entries t parent)
    ∙ ap (option_map inode_of)
    (row_at-sorted_by by_entry_name nat_list_cmp_total name (named_rows t parent t.contents)
    ∙ finds_named t parent name t.contents finds)
    ∙ composed (find (is_entry t parent name) t.contents)
  where
    composed : (found : Option Content)
        → option_map (λ (e : NamedEntry). e.row.inode) (option_map (named t) found) ≡ option_map (λ c. c.inode) found
    composed None = refl
    composed (Some c) = refl

-- ---- the entry of each row

-- a row is found among those of its directory by its bytes
abbrev pub FindsItself : Tables → Content → Type 0
FindsItself t c = find (is_entry t c.parent (text_of t c)) t.contents ≡ Some c

entries_find_themselves : (t : Tables) → IsTrue (differ (have_one_name t) t.contents)
    → AllByRecursion (FindsItself t) t.contents
entries_find_themselves t unlike =
    find_own (have_one_name t) (λ x y. is_entry t x.parent (text_of t x) y) alike itself t.contents unlike
  where
    alike : (x y : Content) → IsTrue (is_entry t x.parent (text_of t x) y) → IsTrue (have_one_name t y x)
    alike x y own =
        and_from (y.parent == x.parent) (is_eq (bytes_cmp (text_of t y) (text_of t x)))
        (and_parts (y.parent == x.parent) _ own).0
        (ap is_eq
        (tied_back nat_list_cmp_total (text_of t x) (text_of t y)
        (equal_from_is_eq (bytes_cmp (text_of t x) (text_of t y)) (and_parts (y.parent == x.parent) _ own).1)))

    itself : (x : Content) → IsTrue (is_entry t x.parent (text_of t x) x)
    itself x =
        and_from (x.parent == x.parent) _ (eq-eqb x.parent x.parent refl)
        (ap is_eq (tied_itself nat_list_cmp_total (text_of t x)))

module _ (t : Tables) (whole : Tree) (same : Represents t whole) where
  -- an inode whose node is there has a row
  pub has_inode_from_node : (x : ℕ) → IsSome (node_at whole x) → IsTrue (has_inode any_kind t x)
  has_inode_from_node x there = by_row (inode_at t x) refl (node_at whole x) there (found_alike t whole same x)
    where
      by_row : (row : Option Inode) → inode_at t x ≡ row → (found : Option Node) → IsSome found
          → option_map shape_of_node found ≡ option_map (node_of_row t) row
          → IsTrue (is_of_kind any_kind row)
      by_row (Some r) is found some alike = refl
      by_row None is None some alike = absurd (cc some)
      by_row None is (Some n) some alike = absurd (cc alike)

  module _ (finds : IsTrue (list_all (finds_directory_and_name t) t.contents)) where
    finds_names : IsTrue (list_all (finds_name t) t.contents)
    finds_names =
        list_all_weaker (finds_directory_and_name t) (finds_name t)
        (λ c own. (and_parts (has_inode is_directory t c.parent) (finds_name t c) own).1) t.contents finds

    -- the tree has the entry of a row
    abbrev pub IsInTree : Content → Type 0
    IsInTree c = entry_at whole c.parent (text_of t c) ≡ Some c.inode

    in_tree : (c : Content) → IsTrue (finds_directory_and_name t c) → FindsItself t c → IsInTree c
    in_tree c own found =
        entry_there t whole same c.parent (text_of t c)
        ∙ by_row (inode_at t c.parent) refl (and_parts (has_inode is_directory t c.parent) (finds_name t c) own).0
      where
        by_kind : (r : Inode) → inode_at t c.parent ≡ Some r → (kind : Kind) → IsTrue (is_directory kind)
            → entry_of_shape (content_of_kind t r kind) (text_of t c) ≡ Some c.inode
        by_kind r there kinds.Directory is =
            ap (λ p. entry_of_shape (Directory (entries_in t p)) (text_of t c)) (sym (number_of t c.parent r there))
            ∙ entry_of_shape-named t c.parent (text_of t c) finds_names
            ∙ ap (option_map (λ (x : Content). x.inode)) found
        by_kind r there kinds.Regular is = absurd (cc is)
        by_kind r there kinds.Link is = absurd (cc is)

        by_row : (row : Option Inode) → inode_at t c.parent ≡ row
            → IsTrue (is_of_kind is_directory row)
            → option_and_then (λ (node : NodeShape). entry_of_shape node.content (text_of t c))
            (option_map (node_of_row t) row)
            ≡ Some c.inode
        by_row None there is = absurd (cc is)
        by_row (Some r) there is = by_kind r there r.kind is

    pub entries_in_tree : IsTrue (differ (have_one_name t) t.contents) → AllByRecursion IsInTree t.contents
    entries_in_tree unlike =
        AllByRecursion_weaker_both (finds_directory_and_name t) (FindsItself t) IsInTree in_tree t.contents finds
        (entries_find_themselves t unlike)

    -- each entry finds its inode too
    pub finds_of_entries : IsTrue (differ (have_one_name t) t.contents) → HasOneTree whole
        → IsTrue (list_all (finds_of_entry t) t.contents)
    finds_of_entries unlike tree =
        list_all_from_each (λ c. IsTrue (finds_of_entry t c)) (finds_of_entry t) (λ c own. own) t.contents
        (AllByRecursion_weaker_both (finds_directory_and_name t) IsInTree
        (λ c. IsTrue (finds_of_entry t c)) finds_inode t.contents finds
        (entries_in_tree unlike))
      where
        finds_inode : (c : Content) → IsTrue (finds_directory_and_name t c) → IsInTree c → IsTrue (finds_of_entry t c)
        finds_inode c own entry =
            and_from (finds_directory_and_name t c) (has_inode any_kind t c.inode) own
            (has_inode_from_node c.inode (tree.entries c.parent c.inode (text_of t c) entry))

    -- each name is legal
    pub legal_names : IsTrue (differ (have_one_name t) t.contents) → HasOneTree whole
        → IsTrue (list_all (has_legal_name t) t.contents)
    legal_names unlike tree =
        list_all_from_each IsInTree (has_legal_name t)
        (λ c entry. legal (text_of t c) (tree.names c.parent c.inode (text_of t c) entry)) t.contents
        (entries_in_tree unlike)
      where
        legal : (name : List ℕ) → name_check name ≡ None
            → IsTrue (nat_le (length name) 255 && not (is_forbidden_name name))
        legal name passes = by_case (nat_lt 255 (length name)) refl (is_forbidden_name name) passes
          where
            by_case : (b : Bool) → nat_lt 255 (length name) ≡ b → (d : Bool)
                → cond {A = Option ℕ} b (Some 36) (cond d (Some 22) None) ≡ None
                → IsTrue (nat_le (length name) 255 && not d)
            by_case true long d is = absurd (cc is)
            by_case false short true is = absurd (cc is)
            by_case false short false is =
                and_from (nat_le (length name) 255) true
                (le-leb (length name) 255 (ltb-false 255 (length name) short)) refl
