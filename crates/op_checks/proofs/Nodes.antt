-- Nodes of a tree and the rows of tables that represent it, and what checks say of both.
use Rattle.std.proofs.Common.{◌≡◌, ℕ, List, Bool, true, false, Option, None, Some, refl, sym, ap, ◌∙◌}
use Rattle.std.specs.Prelude.{◌==◌, ◌||◌, not, is_some, option_map, option_and_then, unwrap_or}
use Rattle.std.specs.List.{list_any}
use Rattle.s3_base.specs.Numbers.{root}
use Rattle.s3_base.specs.declared.node_kind.Kind.{Kind}
use Rattle.s3_base.specs.declared.node_kind.Kind.TheVariants as kinds
use Rattle.s3_base.specs.Errors.{ebadf, eexist, enoent, enotdir, eisdir, einval}
use Rattle.plain_tree.specs.Tree as tree
use Rattle.plain_tree.specs.Tree.{Node, Tree, node_at, entry_of}
use Rattle.plain_tree.specs.Attributes.{kind_of}
use Rattle.plain_tree.specs.Entries.{is_directory, is_named}
use Rattle.plain_tree.specs.Files.{bytes_of, file_at}
use Rattle.plain_tree.specs.Checks.{fails_with, node_check, directory_check, file_check, link_check, no_directory_check, lock_check, free_check, open_check, ids_check}
use Rattle.s3_rows.specs.Rows.{Inode, Parameters}
use Rattle.s3_rows.specs.Tables.{Tables}
use Rattle.s3_rows.specs.Selections.{inode_at}
use Rattle.s3_rows.specs.Validity.{IsValid, is_regular, is_link}
use Rattle.s3_rows.specs.Validity as rows
use Rattle.tree_rows.specs.Shapes.{NodeShape, TreeShape, shape_of_node, node_of_row, Represents}
use Rattle.tree_rows.proofs.Attributed.{kind_there}
use Rattle.tree_rows.proofs.Listed.{is_entry}
use Rattle.tree_rows.proofs.Replaced.{node_of}
use Rattle.tree_rows.proofs.Rooted.{named_absent, named_there}
use Rattle.tree_rows.proofs.Shaped.{found_alike}
use Rattle.tree_rows.proofs.Whole.{has_entry_is}
use Rattle.op_checks.specs.Rows.{row_check, directory_row_check, file_row_check, link_row_check, no_directory_row_check, lock_row_check, named_row_check, open_row_check, ids_row_check}

-- ---- kinds

-- the error with which a kind is no regular file
abbrev not_regular : Kind → Option ℕ
not_regular kinds.Regular = None
not_regular kinds.Directory = Some eisdir
not_regular kinds.Link = Some einval

-- ---- nodes of rows

module _ (t : Tables) (whole : Tree) (same : Represents t whole) (x : ℕ) where
  -- no row, no node
  pub node_absent : inode_at t x ≡ None → node_at whole x ≡ None
  node_absent none = by_case (node_at whole x) (found_alike t whole same x ∙ ap (option_map (node_of_row t)) none)
    where
      by_case : (found : Option Node) → option_map shape_of_node found ≡ None → found ≡ None
      by_case None is = refl
      by_case (Some node) is = absurd (cc is)

  -- a row, and a node of its shape
  pub node_there : (r : Inode) → inode_at t x ≡ Some r → (node : Node) × (node_at whole x ≡ Some node) × (shape_of_node node ≡ node_of_row t r)
  node_there r is = node_of (node_at whole x) (node_of_row t r) (found_alike t whole same x ∙ ap (option_map (node_of_row t)) is)

  -- What a check says of the node, it says of the row, where it says the same of none, and of each node of the row's kind and lock.
  check-row : (check : Option Node → Option ℕ) (of_row : Option Inode → Option ℕ) → check None ≡ of_row None
      → ((node : Node) (r : Inode) → kind_of node.content ≡ r.kind → node.locked ≡ r.locked → check (Some node) ≡ of_row (Some r)) → check (node_at whole x) ≡ of_row (inode_at t x)
  check-row check of_row of_none of_some = by_case (inode_at t x) refl
    where
      by_case : (found : Option Inode) → inode_at t x ≡ found → check (node_at whole x) ≡ of_row found
      by_case None is = ap check (node_absent is) ∙ of_none
      by_case (Some r) is =
          let found = node_there r is in
          let node : Node = found.0 in
          ap check found.1 ∙ of_some node r (kind_there t r node found.2) (ap (λ (s : NodeShape). s.locked) found.2)

  pub node_check-row : node_check (node_at whole x) ≡ row_check (inode_at t x)
  node_check-row = check-row node_check row_check refl (λ node r kind lock. refl)

  pub directory_check-row : directory_check (node_at whole x) ≡ directory_row_check (inode_at t x)
  directory_check-row = check-row directory_check directory_row_check refl (λ node r kind lock. by_content node.content ∙ ap (λ k. fails_with enotdir (not (rows.is_directory k))) kind)
    where
      by_content : (content : tree.Content)
          → elim content as (λ _. Option ℕ) [ tree.Directory entries ↦ None | tree.Regular bytes ↦ Some enotdir | tree.Link target ↦ Some enotdir ] ≡ fails_with enotdir (not (rows.is_directory (kind_of content)))
      by_content (tree.Regular bytes) = refl
      by_content (tree.Directory entries) = refl
      by_content (tree.Link target) = refl

  pub file_check-row : file_check (node_at whole x) ≡ file_row_check (inode_at t x)
  file_check-row = check-row file_check file_row_check refl (λ node r kind lock. by_content node.content ∙ ap not_regular kind)
    where
      by_content : (content : tree.Content) → elim content as (λ _. Option ℕ) [ tree.Regular bytes ↦ None | tree.Directory entries ↦ Some eisdir | tree.Link target ↦ Some einval ] ≡ not_regular (kind_of content)
      by_content (tree.Regular bytes) = refl
      by_content (tree.Directory entries) = refl
      by_content (tree.Link target) = refl

  pub link_check-row : link_check (node_at whole x) ≡ link_row_check (inode_at t x)
  link_check-row = check-row link_check link_row_check refl (λ node r kind lock. by_content node.content ∙ ap (λ k. fails_with einval (not (is_link k))) kind)
    where
      by_content : (content : tree.Content)
          → elim content as (λ _. Option ℕ) [ tree.Link target ↦ None | tree.Regular bytes ↦ Some einval | tree.Directory entries ↦ Some einval ] ≡ fails_with einval (not (is_link (kind_of content)))
      by_content (tree.Regular bytes) = refl
      by_content (tree.Directory entries) = refl
      by_content (tree.Link target) = refl

  pub no_directory_check-row : (errno : ℕ) → no_directory_check errno (node_at whole x) ≡ no_directory_row_check errno (inode_at t x)
  no_directory_check-row errno = check-row (no_directory_check errno) (no_directory_row_check errno) refl (λ node r kind lock. by_content node.content ∙ ap (λ k. fails_with errno (rows.is_directory k)) kind)
    where
      by_content : (content : tree.Content) → fails_with errno (is_directory content) ≡ fails_with errno (rows.is_directory (kind_of content))
      by_content (tree.Regular bytes) = refl
      by_content (tree.Directory entries) = refl
      by_content (tree.Link target) = refl

  pub lock_check-row : lock_check (node_at whole x) ≡ lock_row_check (inode_at t x)
  lock_check-row = check-row lock_check lock_row_check refl (λ node r kind lock. ap (fails_with 1) lock)

  pub open_check-row : open_check (file_at whole x) ≡ open_row_check (inode_at t x)
  open_check-row = check-row (λ n. open_check (option_and_then (λ node. bytes_of node.content) n)) open_row_check refl (λ node r kind lock. by_content node.content ∙ ap (λ k. fails_with ebadf (not (is_regular k))) kind)
    where
      by_content : (content : tree.Content) → open_check (bytes_of content) ≡ fails_with ebadf (not (is_regular (kind_of content)))
      by_content (tree.Regular bytes) = refl
      by_content (tree.Directory entries) = refl
      by_content (tree.Link target) = refl

-- ---- names

module _ (t : Tables) (whole : Tree) (v : IsValid t) (same : Represents t whole) (x : ℕ) where
  pub named_check-row : fails_with enoent (not (is_named whole x)) ≡ named_row_check (inode_at t x)
  named_check-row = by_row (inode_at t x) refl
    where
      twice : (b : Bool) → not (not b) ≡ b
      twice true = refl
      twice false = refl

      by_row : (found : Option Inode) → inode_at t x ≡ found → fails_with enoent (not (is_named whole x)) ≡ named_row_check found
      by_row None is = ap (λ b. fails_with enoent (not b)) (named_absent t whole x v same is)
      by_row (Some r) is =
          ap (λ b. fails_with enoent (not b)) (named_there t whole x r v same is) ∙ ap (fails_with enoent) (twice (r.id == root || r.refcount == 0))

  -- a name is taken where an entry of the directory has it
  pub free_check-row : (name : List ℕ) → free_check (node_at whole x) name ≡ fails_with eexist (list_any (is_entry t x name) t.contents)
  free_check-row name = by_node (node_at whole x) ∙ ap (fails_with eexist) (has_entry_is t whole same v.rows.entries x name)
    where
      by_node : (found : Option Node) → free_check found name ≡ fails_with eexist (is_some (option_and_then (λ node. entry_of node.content name) found))
      by_node None = refl
      by_node (Some node) = refl

-- ---- next numbers

-- the next inode number of tables that represent a tree
pub next_inode-row : (t : Tables) (whole : Tree) (p : Parameters) → Represents t whole → t.params ≡ Some p → whole.next_inode ≡ p.next_inode
next_inode-row t whole p same set =
    sym (ap (λ (s : TreeShape). s.next_inode) same) ∙ ap (λ (found : Option Parameters). unwrap_or (option_map (λ x. x.next_inode) found) 0) set

pub ids_check-row : (t : Tables) (whole : Tree) (p : Parameters) (count : ℕ) → Represents t whole → t.params ≡ Some p → ids_check whole count ≡ ids_row_check p count
ids_check-row t whole p count same set = ap (λ n. ids_row_check (record p { next_inode = n }) count) (next_inode-row t whole p same set)
