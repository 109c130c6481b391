-- Attributes and targets of numbers that have no row leave the tree.
use Rattle.std.proofs.Common.{◌≡◌, ℕ, List, [], ◌∷◌, map, false, Option, None, refl, sym, ap, ◌∙◌}
use Rattle.std.specs.Prelude.{IsTrue, not, ◌==◌, option_map, unwrap_or}
use Rattle.std.specs.List.{list_all}
use Rattle.std.specs.Cmp.{nat_cmp_total}
use Rattle.std.proofs.lemmas.Bool.{and_parts}
use Rattle.s3_base.specs.declared.node_kind.Kind.TheVariants as kinds
use Rattle.plain_tree.specs.Tree.{Tree, without_node}
use Rattle.s3_rows.specs.Rows.{Inode, Target, Parameters}
use Rattle.s3_rows.specs.Keyed.{has_key, put, rises, row_at, without}
use Rattle.s3_rows.specs.Tables.{Tables, by_attr, by_inode, by_target}
use Rattle.s3_rows.specs.Selections.{inode_at, target_at}
use Rattle.row_lemmas.proofs.Tests.{eqb_comm, false_from_not, is_eq-nat_cmp, list_all_from_find, list_all_weaker}
use Rattle.row_lemmas.proofs.Keyed.Put.{row_at-put_other}
use Rattle.row_lemmas.proofs.Keyed.Without.{row_at-without_other, row_at-without_same}
use Rattle.tree_rows.specs.Shapes.{Directory, Regular, Link, NodeShape, content_of_row, entries_in, node_of_row, shape_of_tables, target_in, Represents}
use Rattle.row_steps.proofs.Shape.Attributes.{attributes_in-without_other}
use Rattle.row_steps.proofs.Shape.Deletes.{Represents-without_inode}
use Rattle.row_steps.proofs.Shape.Rows.{row_shape}

-- tables in which each inode with a row has its node are the same tree
rows_agree : (t u : Tables) (id : ℕ) → ((x : Inode) → (x.id == id) ≡ false → node_of_row u x ≡ node_of_row t x) → (rows : List Inode)
    → IsTrue (list_all (λ (x : Inode). not (x.id == id)) rows) → map (row_shape u) rows ≡ map (row_shape t) rows
rows_agree t u id same [] all = refl
rows_agree t u id same (x ∷ xs) all =
    let parts = and_parts (not (x.id == id)) (list_all (λ (y : Inode). not (y.id == id)) xs) all in
    λ i. (x.id, same x (false_from_not (x.id == id) parts.0) i) ∷ rows_agree t u id same xs parts.1 i

no_row : (t : Tables) (id : ℕ) → inode_at t id ≡ None → IsTrue (list_all (λ (x : Inode). not (x.id == id)) t.inodes)
no_row t id none =
    list_all_weaker (λ x. not (has_key by_inode id x)) (λ (x : Inode). not (x.id == id))
    (λ x apart. ap not (eqb_comm x.id id ∙ sym (is_eq-nat_cmp id x.id)) ∙ apart) t.inodes (list_all_from_find (has_key by_inode id) t.inodes none)

-- an attribute of another inode
pub node_of_row-without_attr_other : (t : Tables) (id name_id : ℕ) (x : Inode) → (x.id == id) ≡ false
    → node_of_row (record t { attrs = without by_attr (id, name_id) t.attrs }) x ≡ node_of_row t x
node_of_row-without_attr_other t id name_id x apart = λ i. record (node_of_row t x) { attributes = attributes_in-without_other t id name_id x.id (eqb_comm id x.id ∙ apart) i }

pub Represents-without_attr_absent : (t : Tables) (whole : Tree) (id name_id : ℕ) → inode_at t id ≡ None → Represents t whole
    → Represents (record t { attrs = without by_attr (id, name_id) t.attrs }) whole
Represents-without_attr_absent t whole id name_id none same =
    ap (λ (es : List (ℕ × NodeShape)). record (shape_of_tables t) { nodes = es })
    (rows_agree t (record t { attrs = without by_attr (id, name_id) t.attrs }) id (node_of_row-without_attr_other t id name_id) t.inodes (no_row t id none)) ∙ same

-- other rows of targets, with that of an inode
node_of_row-targets : (t : Tables) (rows : List Target) (x : Inode) → row_at by_target x.id rows ≡ target_at t x.id
    → node_of_row (record t { targets = rows }) x ≡ node_of_row t x
node_of_row-targets t rows x found =
    let target : target_in (record t { targets = rows }) x.id ≡ target_in t x.id =
    ap (λ (y : Option Target). unwrap_or (option_map (λ (r : Target). r.target) y) []) found in
    let content : content_of_row (record t { targets = rows }) x ≡ content_of_row t x =
    (λ i. elim x.kind [ kinds.Directory ↦ Directory (entries_in t x.id) | kinds.Regular ↦ Regular x.size | kinds.Link ↦ Link (target i) ]) in
    λ i. record (node_of_row t x) { content = content i }

-- the target of another inode
pub node_of_row-without_target_other : (t : Tables) (id : ℕ) (x : Inode) → (x.id == id) ≡ false
    → node_of_row (record t { targets = without by_target id t.targets }) x ≡ node_of_row t x
node_of_row-without_target_other t id x apart =
    node_of_row-targets t (without by_target id t.targets) x
    (row_at-without_other by_target nat_cmp_total id x.id t.targets (is_eq-nat_cmp id x.id ∙ eqb_comm id x.id ∙ apart))

-- other rows of targets, with those of all inodes that have a row
targets_absent : (t : Tables) (whole : Tree) (id : ℕ) (rows : List Target) → inode_at t id ≡ None
    → ((x : ℕ) → (x == id) ≡ false → row_at by_target x rows ≡ target_at t x) → Represents t whole → Represents (record t { targets = rows }) whole
targets_absent t whole id rows none found same =
    ap (λ (es : List (ℕ × NodeShape)). record (shape_of_tables t) { nodes = es })
    (rows_agree t (record t { targets = rows }) id (λ x apart. node_of_row-targets t rows x (found x.id apart)) t.inodes (no_row t id none)) ∙ same

pub Represents-without_target_absent : (t : Tables) (whole : Tree) (id : ℕ) → inode_at t id ≡ None → Represents t whole
    → Represents (record t { targets = without by_target id t.targets }) whole
Represents-without_target_absent t whole id none same =
    targets_absent t whole id (without by_target id t.targets) none
    (λ x apart. row_at-without_other by_target nat_cmp_total id x t.targets (is_eq-nat_cmp id x ∙ eqb_comm id x ∙ apart)) same

pub Represents-put_target_absent : (t : Tables) (whole : Tree) (r : Target) → inode_at t r.inode ≡ None → Represents t whole
    → Represents (record t { targets = put by_target r t.targets }) whole
Represents-put_target_absent t whole r none same =
    targets_absent t whole r.inode (put by_target r t.targets) none
    (λ x apart. row_at-put_other by_target nat_cmp_total x r t.targets (is_eq-nat_cmp x r.inode ∙ apart)) same

-- where an inode goes, and the nodes of the others stay, the tree has its node less
pub Represents-without_inode_rest : (t u : Tables) (whole : Tree) (id : ℕ) → IsTrue (rises by_inode t.inodes) → u.params ≡ t.params
    → u.inodes ≡ without by_inode id t.inodes → ((x : Inode) → (x.id == id) ≡ false → node_of_row u x ≡ node_of_row t x) → Represents t whole
    → Represents u (without_node id whole)
Represents-without_inode_rest t u whole id rise params inodes node same =
    let gone : Tables = record t { inodes = without by_inode id t.inodes } in
    let nodes : map (row_shape u) u.inodes ≡ map (row_shape t) gone.inodes =
    ap (map (row_shape u)) inodes ∙ rows_agree t u id node gone.inodes (no_row gone id (row_at-without_same by_inode nat_cmp_total id t.inodes)) in
    let shape : shape_of_tables u ≡ shape_of_tables gone =
    λ i. record {
      block_size = unwrap_or (option_map (λ (p : Parameters). p.block_size) (params i)) 0;
      next_inode = unwrap_or (option_map (λ (p : Parameters). p.next_inode) (params i)) 0;
      nodes = nodes i;
    } in
    shape ∙ Represents-without_inode t whole id rise same
