-- The tree that valid tables represent is well formed.
use Rattle.std.proofs.Common.{◌≡◌, ◌≢◌, ◌≤◌, ◌<◌, ◌^◌, ℕ, List, [], ◌∷◌, Bool, true, false, cond, Option, None, Some, refl, sym, ap, ◌∙◌, subst, arith, le-leb, eq-eqb, ne_eqb}
use Rattle.std.specs.Prelude.{IsTrue, IsSome, not, ◌||◌, ◌==◌, count_by, map, nat_le, option_map}
use Rattle.std.specs.List.{list_all, AllByRecursion}
use Rattle.std.specs.Map.{keys_of, values_of}
use Rattle.std.proofs.lemmas.List.Elements.{recursion_from_All}
use Rattle.std.proofs.lemmas.Bool.{and_from}
use Rattle.s3_base.specs.declared.node_kind.Kind.{Kind}
use Rattle.s3_base.specs.declared.node_kind.Kind.TheVariants as kinds
use Rattle.plain_tree.specs.Tree as tree
use Rattle.s3_base.specs.Numbers.{root}
use Rattle.plain_tree.specs.Tree.{Node, Tree, node_at}
use Rattle.plain_tree.specs.Entries.{entries_of, is_named, is_open}
use Rattle.plain_tree.specs.Names.{Rise, NamesRise, AttributesRise}
use Rattle.plain_tree.specs.Numbers.{Ascend, InOrder}
use Rattle.plain_tree.specs.WellFormed.{IsWellFormed, HasTimes, HasNoOrphans, IsWithinLimits, AreWithinLimits, HaveModes, AreTimes, is_file}
use Rattle.s3_rows.specs.Ranges.{HasRanges}
use Rattle.s3_rows.specs.Rows.{Inode, Content, IsInode, IsName, IsAttr, IsTarget}
use Rattle.s3_rows.specs.Keyed.{has_key}
use Rattle.s3_rows.specs.Tables.{Tables, by_inode}
use Rattle.s3_rows.specs.Selections.{inode_at}
use Rattle.s3_rows.specs.Validity.{IsValid, finds_target, is_regular, any_kind}
use Rattle.row_lemmas.proofs.Tests.{find_passes_all}
use Rattle.tree_rows.specs.Premises.{HasItsHandles, is_named_or_regular, is_named_or_open}
use Rattle.tree_rows.specs.Shapes.{Regular, NodeShape, TreeShape, shape_of_content, shape_of_node, node_of_row, Represents}
use Rattle.tree_rows.proofs.Replaced.{node_of}
use Rattle.tree_rows.proofs.Rooted.{is_one_tree, stored_count}
use Rattle.tree_rows.proofs.Shaped.{found_alike}
use Rattle.tree_rows.proofs.Whole.{content_of_kind, number_of}
use Rattle.tree_rows.proofs.Validity.Each.{count_by_from_list_any, AllByRecursion_weaker_both}
use Rattle.tree_rows.proofs.Validity.Entries.{is_of_kind, has_inode_from_node}
use Rattle.tree_rows.proofs.Validity.Inodes.{keys_of-nodes, next_inode_is}
use Rattle.tree_rows.proofs.Validity.Names.{is_named-unnamed}
use Rattle.tree_rows.proofs.WellFormed.Listed.{AllByRecursion-map, AllByRecursion_from_map, Ascend-rises}
use Rattle.tree_rows.proofs.WellFormed.Rows.{IsShapeWithinLimits, IsFineShape, entries_of_shape, IsFineShape-node_of_row}

-- ---- from rows to nodes

-- what holds of the shape of each row holds of the shape of each node
each_node : (t : Tables) (whole : Tree) → Represents t whole → (P : NodeShape → Type 0)
    → AllByRecursion (λ r. P (node_of_row t r)) t.inodes → AllByRecursion (λ e. P (shape_of_node e.1)) whole.nodes
each_node t whole same P each =
    let of_pair : ℕ × NodeShape → Type 0 = λ e. P e.1 in
    let row_shape : Inode → ℕ × NodeShape = λ r. (r.id, node_of_row t r) in
    let shaped : ℕ × Node → ℕ × NodeShape = λ e. (e.0, shape_of_node e.1) in
    AllByRecursion_from_map of_pair shaped whole.nodes
    (subst (λ (s : TreeShape). AllByRecursion of_pair s.nodes) same
    (AllByRecursion-map of_pair row_shape t.inodes each))

content_within : (content : tree.Content) → IsShapeWithinLimits (shape_of_content content) → IsWithinLimits content
content_within (tree.Regular bytes) within = within
content_within (tree.Directory entries) within = within
content_within (tree.Link target) within = within

names_within : (content : tree.Content) → Rise (keys_of (entries_of_shape (shape_of_content content)))
    → Rise (keys_of (entries_of content))
names_within (tree.Regular bytes) rise = rise
names_within (tree.Directory entries) rise = rise
names_within (tree.Link target) rise = rise

-- a node, with its number, has such a shape
abbrev IsFine : ℕ × Node → Type 0
IsFine e = IsFineShape (shape_of_node e.1)

NamesRise-nodes : (nodes : List (ℕ × Node)) → AllByRecursion IsFine nodes → NamesRise (values_of nodes)
NamesRise-nodes [] fine = tt
NamesRise-nodes (e ∷ es) fine = (names_within e.1.content fine.0.names, NamesRise-nodes es fine.1)

AttributesRise-nodes : (nodes : List (ℕ × Node)) → AllByRecursion IsFine nodes → AttributesRise (values_of nodes)
AttributesRise-nodes [] fine = tt
AttributesRise-nodes (e ∷ es) fine = (fine.0.attribute_names, AttributesRise-nodes es fine.1)

AreWithinLimits-nodes : (nodes : List (ℕ × Node)) → AllByRecursion IsFine nodes → AreWithinLimits nodes
AreWithinLimits-nodes [] fine = tt
AreWithinLimits-nodes (e ∷ es) fine =
    (content_within e.1.content fine.0.content, fine.0.attributes, AreWithinLimits-nodes es fine.1)

HaveModes-nodes : (nodes : List (ℕ × Node)) → AllByRecursion IsFine nodes → HaveModes nodes
HaveModes-nodes [] fine = tt
HaveModes-nodes (e ∷ es) fine = (fine.0.mode, HaveModes-nodes es fine.1)

-- ---- times

abbrev IsTimed : NodeShape → Type 0
IsTimed s = (s.mtime < 2 ^ 62) × (s.ctime < 2 ^ 62)

AreTimes-nodes : (nodes : List (ℕ × Node)) → AllByRecursion (λ e. IsTimed (shape_of_node e.1)) nodes → AreTimes nodes
AreTimes-nodes [] timed = tt
AreTimes-nodes (e ∷ es) timed = (timed.0.0, timed.0.1, AreTimes-nodes es timed.1)

pub HasTimes_from_ranges : (t : Tables) (whole : Tree) → HasRanges t → Represents t whole → HasTimes whole
HasTimes_from_ranges t whole ranges same =
    AreTimes-nodes whole.nodes
    (each_node t whole same IsTimed (timed t.inodes (recursion_from_All IsInode t.inodes ranges.inodes)))
  where
    timed : (rows : List Inode) → AllByRecursion IsInode rows → AllByRecursion (λ r. IsTimed (node_of_row t r)) rows
    timed [] each = tt
    timed (r ∷ rs) each = ((each.0.mtime, each.0.ctime), timed rs each.1)

-- ---- valid tables

module _ (t : Tables) (whole : Tree) (valid : IsValid t) (ranges : HasRanges t) (same : Represents t whole) where
  fine_nodes : AllByRecursion IsFine whole.nodes
  fine_nodes =
      each_node t whole same IsFineShape
      (AllByRecursion_weaker_both (finds_target t) IsInode (λ r. IsFineShape (node_of_row t r))
      (IsFineShape-node_of_row t (recursion_from_All IsName t.names ranges.names)
      (recursion_from_All IsAttr t.attrs ranges.attrs)
      (recursion_from_All IsTarget t.targets ranges.targets))
      t.inodes valid.rows.links (recursion_from_All IsInode t.inodes ranges.inodes))

  next_is : whole.next_inode ≡ valid.params.next_inode
  next_is = next_inode_is t whole same valid.params valid.is_made

  nodes_in_order : InOrder whole
  nodes_in_order =
      subst (λ numbers. Ascend 0 numbers whole.next_inode) (keys_of-nodes t whole same)
      (subst (λ next. Ascend 0 (keys_of (map (λ (r : Inode). (r.id, node_of_row t r)) t.inodes)) next) (sym next_is)
      (Ascend-rises (node_of_row t) 0 valid.params.next_inode t.inodes (omega arith)
      (all_least t.inodes) valid.free.inodes valid.ordered.inodes))
    where
      all_least : (rows : List Inode) → IsTrue (list_all (λ r. nat_le 0 r.id) rows)
      all_least [] = refl
      all_least (r ∷ rs) =
          and_from (nat_le 0 r.id) (list_all (λ (x : Inode). nat_le 0 x.id) rs) (le-leb 0 r.id (omega arith))
          (all_least rs)

  module _ (files : IsTrue (list_all is_named_or_regular t.inodes)) (handles : HasItsHandles t whole) where
    file_there : (content : tree.Content) (size : ℕ) → shape_of_content content ≡ Regular size
        → IsTrue
        (elim content [ tree.Regular bytes ↦ true | tree.Directory entries ↦ false | tree.Link target ↦ false ])
    file_there (tree.Regular bytes) size is = refl
    file_there (tree.Directory entries) size is = absurd (cc is)
    file_there (tree.Link target) size is = absurd (cc is)

    -- the node of a regular file's row
    file_of_row : (x : ℕ) (r : Inode) → inode_at t x ≡ Some r → IsTrue (is_regular r.kind)
        → IsTrue (is_file (node_at whole x))
    file_of_row x r there regular =
        let node =
        node_of (node_at whole x) (node_of_row t r)
        (found_alike t whole same x ∙ ap (option_map (node_of_row t)) there) in
        let size : shape_of_content node.0.content ≡ Regular r.size =
        ap (λ (s : NodeShape). s.content) node.2 ∙ by_kind r.kind regular in
        ap is_file node.1 ∙ file_there node.0.content r.size size
      where
        by_kind : (kind : Kind) → IsTrue (is_regular kind) → content_of_kind t r kind ≡ Regular r.size
        by_kind kinds.Directory is = absurd (cc is)
        by_kind kinds.Regular is = refl
        by_kind kinds.Link is = absurd (cc is)

    passed : (b : Bool) (n : ℕ) → n ≡ 0 → IsTrue (not (n == 0) || b) → IsTrue b
    passed true n none is = refl
    passed false n none is =
        let clash : false ≡ true = sym (ap (λ c. not c || false) (eq-eqb n 0 none)) ∙ is in
        absurd (cc clash)

    no_orphans : HasNoOrphans whole
    no_orphans = record {
      orphans = orphan;
      handles = handles.files;
    }
      where
        by_row : (x : ℕ) → x ≢ root → is_named whole x ≡ false → (row : Option Inode) → inode_at t x ≡ row
            → IsTrue (is_of_kind any_kind row)
            → IsTrue (is_file (node_at whole x)) × IsTrue (is_open whole x)
        by_row x other unnamed None is there = absurd (cc there)
        by_row x other unnamed (Some r) is there =
            let none : count_by (λ (c : Content). c.inode == x) t.contents ≡ 0 =
            count_by_from_list_any (λ (c : Content). c.inode == x) t.contents
            (is_named-unnamed t valid.rows.entries valid.tree.unlike valid.ordered.inodes whole same x unnamed) in
            let count : r.refcount ≡ 0 =
            stored_count t x r valid is
            ∙ ap (λ b. cond b 1 (count_by (λ (c : Content). c.inode == x) t.contents)) (ne_eqb x 1 other) ∙ none in (
              file_of_row x r is
                  (passed (is_regular r.kind) r.refcount count
                  (find_passes_all (has_key by_inode x) is_named_or_regular t.inodes r files is)),
              subst (λ y. IsTrue (is_open whole y)) (sym (number_of t x r is))
                  (passed (is_open whole r.id) r.refcount count
                  (find_passes_all (has_key by_inode x) (is_named_or_open whole) t.inodes r handles.nameless is)),
            )

        orphan : (x : ℕ) → IsSome (node_at whole x) → x ≢ root → is_named whole x ≡ false
            → IsTrue (is_file (node_at whole x)) × IsTrue (is_open whole x)
        orphan x there other unnamed =
            by_row x other unnamed (inode_at t x) refl (has_inode_from_node t whole same x there)

    pub IsWellFormed_from_valid : IsWellFormed whole
    IsWellFormed_from_valid = record {
      nodes = nodes_in_order;
      handles = handles.order;
      names = NamesRise-nodes whole.nodes fine_nodes;
      attributes = AttributesRise-nodes whole.nodes fine_nodes;
      tree = is_one_tree t valid whole same;
      orphans = no_orphans;
      rules = record {
        nodes = AreWithinLimits-nodes whole.nodes fine_nodes;
        next_inode =
            subst (λ next. next ≤ 2 ^ 62) (sym next_is) (ranges.params valid.params valid.is_made).next_inode.1;
        next_handle = handles.next;
      };
      modes = HaveModes-nodes whole.nodes fine_nodes;
    }
