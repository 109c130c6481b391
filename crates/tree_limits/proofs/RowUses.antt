-- How often an inode of valid tables has a name, for its attributes and its entries, and how often the visits of a copy come to it.
use Rattle.std.proofs.Common.{◌≡◌, ℕ, List, [], Bool, true, false, cond, Option, None, Some, refl, sym, ap, ◌∙◌}
use Rattle.std.proofs.lemmas.Bool.{and_from, and_parts, both_ways}
use Rattle.std.proofs.lemmas.Cmp.{nat_list_cmp_total}
use Rattle.std.specs.List.{filter_map}
use Rattle.std.specs.Ordering.{is_eq}
use Rattle.std.specs.Prelude.{IsTrue, ◌&&◌, ◌==◌, count_by, filter, is_some, option_map}
use Rattle.s3_base.specs.declared.node_kind.Kind.{Kind}
use Rattle.s3_base.specs.declared.node_kind.Kind.TheVariants as kinds
use Rattle.plain_tree.specs.Below.{is_among}
use Rattle.plain_tree.specs.Tree as tree
use Rattle.plain_tree.specs.Tree.{Node, Tree, node_at}
use Rattle.s3_rows.specs.declared.lists.NamedAttr.{NamedAttr}
use Rattle.s3_rows.specs.declared.lists.NamedEntry.{NamedEntry}
use Rattle.s3_rows.specs.Keyed.{has_key, rises, row_at}
use Rattle.s3_rows.specs.Rows.{Inode}
use Rattle.s3_rows.specs.Selections.{by_entry_name, bytes_cmp, inode_at, named_attrs, named_entries, with_entry_name}
use Rattle.s3_rows.specs.Tables.{Tables}
use Rattle.s3_rows.specs.Validity.{has_inode, is_directory}
use Rattle.row_lemmas.proofs.Keyed.Count.{count_by-has_key_there}
use Rattle.row_lemmas.proofs.Keyed.Sorted.{rises-sorted_by}
use Rattle.row_lemmas.proofs.Sums.{count_by_none, sum_by-map}
use Rattle.row_lemmas.proofs.Tests.{list_all_from_find}
use Rattle.tree_rows.specs.Shapes as shapes
use Rattle.tree_rows.specs.Shapes.{ContentShape, NodeShape, Represents, attributes_in, node_of_row, shape_of_content, shape_of_node}
use Rattle.tree_rows.proofs.Replaced.{node_of}
use Rattle.tree_rows.proofs.Shaped.{found_alike}
use Rattle.tree_rows.proofs.Whole.{content_of_kind, number_of}
use Rattle.inode_ops.specs.Uses.{entries_named}
use Rattle.tree_copy.specs.CopiedRows.{AreComplete, AreVisits, Visit, is_visited}
use Rattle.tree_copy.specs.NameCounts.{attr_names}
use Rattle.tree_limits.proofs.CopiedUses.{attributes_at, attributes_named, entries_at}
use Rattle.tree_limits.proofs.VisitUses.{count_by-visited, is_of, visited_there}

module _ (b : List ℕ) where
  -- how often bytes are among names
  abbrev pub used : List (List ℕ) → ℕ
  used names = count_by (λ x. is_eq (bytes_cmp b x)) names

  abbrev in_shape : ContentShape → ℕ
  in_shape (shapes.Directory entries) = count_by (λ e. is_eq (bytes_cmp b e.0)) entries
  in_shape (shapes.Regular size) = 0
  in_shape (shapes.Link target) = 0

  in_content : (content : tree.Content) → entries_named b content ≡ in_shape (shape_of_content content)
  in_content (tree.Directory entries) = refl
  in_content (tree.Regular bytes) = refl
  in_content (tree.Link target) = refl

  -- an entry is listed once, where it is
  count_by-listed : (rows : List NamedEntry) → IsTrue (rises by_entry_name rows) → count_by (has_key by_entry_name b) rows ≡ cond (is_some (row_at by_entry_name b rows)) 1 0
  count_by-listed rows up = by_row (row_at by_entry_name b rows) refl
    where
      by_row : (found : Option NamedEntry) → row_at by_entry_name b rows ≡ found → count_by (has_key by_entry_name b) rows ≡ cond (is_some found) 1 0
      by_row None none = count_by_none (has_key by_entry_name b) rows (list_all_from_find (has_key by_entry_name b) rows none)
      by_row (Some e) there = count_by-has_key_there by_entry_name nat_list_cmp_total b rows up (ap is_some there)

  -- ---- an inode with its row

  module _ (t : Tables) (whole : Tree) (same : Represents t whole) (x : ℕ) (r : Inode) (there : inode_at t x ≡ Some r) where
    there_too : (node : Node) × (node_at whole x ≡ Some node) × (shape_of_node node ≡ node_of_row t r)
    there_too = node_of (node_at whole x) (node_of_row t r) (found_alike t whole same x ∙ ap (option_map (node_of_row t)) there)

    listed : IsTrue (rises by_entry_name (named_entries t x))
    listed = rises-sorted_by by_entry_name nat_list_cmp_total (filter_map (with_entry_name t) (filter (λ c. c.parent == x) t.contents))

    pub attributes_at-row : attributes_at b whole x ≡ used (attr_names t x)
    attributes_at-row =
        let one : List ℕ × List ℕ → ℕ = λ a. cond (is_eq (bytes_cmp b a.0)) 1 0 in
        let pair : NamedAttr → List ℕ × List ℕ = λ a. (a.name, a.row.value) in
        let one_text : List ℕ → ℕ = λ y. cond (is_eq (bytes_cmp b y)) 1 0 in
        let text : NamedAttr → List ℕ = λ a. a.name in
        ap (λ (found : Option Node). elim found as (λ _. ℕ) [ Some y ↦ attributes_named b y | None ↦ 0 ]) there_too.1
        ∙ ap (λ (s : NodeShape). count_by (λ a. is_eq (bytes_cmp b a.0)) s.attributes) there_too.2
        ∙ sum_by-map one pair (named_attrs t r.id) ∙ sym (sum_by-map one_text text (named_attrs t r.id))
        ∙ ap (λ k. used (attr_names t k)) (sym (number_of t x r there))

    in_kind : (kind : Kind) → in_shape (content_of_kind t r kind) ≡ cond (is_directory kind && is_some (row_at by_entry_name b (named_entries t x))) 1 0
    in_kind kinds.Directory =
        let one : List ℕ × ℕ → ℕ = λ e. cond (is_eq (bytes_cmp b e.0)) 1 0 in
        let pair : NamedEntry → List ℕ × ℕ = λ e. (e.name, e.row.inode) in
        sum_by-map one pair (named_entries t r.id) ∙ ap (λ k. count_by (has_key by_entry_name b) (named_entries t k)) (sym (number_of t x r there))
        ∙ count_by-listed (named_entries t x) listed
    in_kind kinds.Regular = refl
    in_kind kinds.Link = refl

    kind_is : has_inode is_directory t x ≡ is_directory r.kind
    kind_is = ap (λ (found : Option Inode). elim found as (λ _. Bool) [ Some y ↦ is_directory y.kind | None ↦ false ]) there

    pub entries_at-row : entries_at b whole x ≡ cond (has_inode is_directory t x && is_some (row_at by_entry_name b (named_entries t x))) 1 0
    entries_at-row =
        ap (λ (found : Option Node). elim found as (λ _. ℕ) [ Some y ↦ entries_named b y.content | None ↦ 0 ]) there_too.1
        ∙ in_content there_too.0.content ∙ ap (λ (s : NodeShape). in_shape s.content) there_too.2 ∙ in_kind r.kind
        ∙ ap (λ k. cond (k && is_some (row_at by_entry_name b (named_entries t x))) 1 0) (sym kind_is)

    -- the visits come to each of its entries once
    pub visits_of_inode : (seen order : List ℕ) (visits : List Visit) → AreVisits t seen [] visits → AreComplete t order visits → is_among order x ≡ true
        → count_by (is_of t x b) visits ≡ entries_at b whole x
    visits_of_inode seen order visits are complete among =
        count_by-visited t x b visits seen [] are
        ∙ ap (λ c. cond c 1 0)
        (by_tests (is_visited visits x b) (has_inode is_directory t x && is_some (row_at by_entry_name b (named_entries t x))) refl refl)
        ∙ sym entries_at-row
      where
        by_tests : (c d : Bool) → is_visited visits x b ≡ c → (has_inode is_directory t x && is_some (row_at by_entry_name b (named_entries t x))) ≡ d → c ≡ d
        by_tests true true one two = refl
        by_tests false false one two = refl
        by_tests true false one two =
            let found = visited_there t x b visits seen [] are one in
            absurd (both_ways (has_inode is_directory t x && is_some (row_at by_entry_name b (named_entries t x))) two
            (and_from (has_inode is_directory t x) (is_some (row_at by_entry_name b (named_entries t x))) found.0 found.1))
        by_tests false true one two =
            let parts = and_parts (has_inode is_directory t x) (is_some (row_at by_entry_name b (named_entries t x))) two in
            absurd (both_ways (is_visited visits x b) one (complete x b among parts.0 parts.1))
