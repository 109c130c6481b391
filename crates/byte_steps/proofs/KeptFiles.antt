-- Files under operations on names and inodes, and what their places show then.
use Rattle.std.proofs.Common.{◌≡◌, ◌≢◌, ◌⊎◌, ℕ, List, Option, None, Some, refl, sym, ap, ◌∙◌, inl, inr, true, false}
use Rattle.std.specs.Prelude.{IsTrue, is_some, option_and_then, option_map}
use Rattle.std.proofs.lemmas.Bool.{and_parts}
use Rattle.op_frames.specs.declared.operation.Op.{Op}
use Rattle.plain_tree.specs.Tree.{Node, Tree, changed_by, node_at}
use Rattle.plain_tree.specs.Checks.{first_failure}
use Rattle.plain_tree.specs.Classes.{Bytes, class_of}
use Rattle.plain_tree.specs.Files.{file_at, bytes_of}
use Rattle.plain_tree.specs.Operations.{checks, effect}
use Rattle.plain_tree.specs.WellFormed.{IsWellFormed}
use Rattle.tree_laws.specs.Files.{KeepsFiles, copies_files}
use Rattle.tree_laws.proofs.File.Unwritten.{KeepsFiles-effect}
use Rattle.tree_laws.proofs.Node.Reading.{node_at_none_next}
use Rattle.tree_laws.proofs.Walk.Edits.{edited}
use Rattle.tree_laws.proofs.Walk.Operations.{Walk, effects-effect, effects_by_walk}
use Rattle.s3_rows.specs.Tables.{Tables, by_spot}
use Rattle.s3_rows.specs.Validity.{IsValid, finds_of_inode_block, has_inode, is_regular}
use Rattle.s3_rows.specs.Rows.{Inode, InodeBlock}
use Rattle.s3_rows.specs.Keyed.{has_key}
use Rattle.s3_rows.specs.Selections.{block_at, inode_at, inode_block_at}
use Rattle.row_lemmas.proofs.Keyed.RowAt.{row_at_passes}
use Rattle.row_lemmas.proofs.Tests.{find_passes, is_some-option_map, pair_parts}
use Rattle.tree_rows.specs.Shapes.{Represents, node_of_row, shape_of_node}
use Rattle.tree_rows.specs.Spots.{form_at, form_of_row}
use Rattle.tree_rows.proofs.Shaped.{found_alike}
use Rattle.ref_counts.specs.Plans.{LeavesRest}
use Rattle.byte_steps.specs.Kept.{KeepsBytes}
use Rattle.byte_steps.specs.Shared.{HasFormsOf, HasNoForms, SharesBlocks}

-- ---- the tree

pub KeepsBytes-effect : (whole : Tree) (pass now : ℕ) (op : Op) → IsWellFormed whole → class_of op ≢ Bytes → copies_files op ≡ false
    → first_failure (checks whole pass op) ≡ None → KeepsBytes whole (effect whole pass op now)
KeepsBytes-effect whole pass now op formed no_bytes no_copies passes x bytes is =
    let keeps : KeepsFiles whole (effect whole pass op now) = KeepsFiles-effect whole pass now op formed.nodes no_bytes no_copies passes in
    elim (keeps.files x bytes is) [
      | inl there ↦ inl there
      | inr new ↦ inr (new.1, node_at_none_next whole formed.nodes x new.0)
    ]

size-changed_by : (f : Node → Node) (found : Option Node) (x : ℕ) (t : Tree) → (changed_by f found x t).block_size ≡ t.block_size
size-changed_by f None x t = refl
size-changed_by f (Some node) x t = refl

size_walk : (before : Tree) (now : ℕ) (op : Op) → Walk before now op (λ a b. b.block_size ≡ a.block_size)
size_walk before now op = record {
  same = λ t. refl;
  joined = λ a b c first second. second ∙ first;
  edits = λ e x t fits allowed of_op. size-changed_by (edited now e) (node_at t x) x t;
  removes = λ x t. refl;
  makes = λ new t begins fits. refl;
  opens = λ handle t fits. refl;
  closes = λ number t. refl;
  copies = λ source t of_trees fits. refl;
  locks = λ x t. refl;
  uproots = λ below t. refl;
  leaves = λ pass t. refl;
}

pub block_size-effect : (whole : Tree) (pass now : ℕ) (op : Op) → first_failure (checks whole pass op) ≡ None → (effect whole pass op now).block_size ≡ whole.block_size
block_size-effect whole pass now op passes =
    effects-effect whole pass now op (λ b. b.block_size ≡ whole.block_size) (effects_by_walk whole pass now op (λ a b. b.block_size ≡ a.block_size) (size_walk whole now op)) passes

-- ---- its rows

-- a file is a node
node_of_bytes : (found : Option Node) (bytes : List ℕ) → option_and_then (λ (node : Node). bytes_of node.content) found ≡ Some bytes → is_some found ≡ true
node_of_bytes None bytes is = absurd (cc is)
node_of_bytes (Some node) bytes is = refl

module _ (t : Tables) (whole : Tree) (same : Represents t whole) where
  -- a row stands where a node does
  row_as_node : (x : ℕ) → is_some (inode_at t x) ≡ is_some (node_at whole x)
  row_as_node x =
      sym (is_some-option_map (node_of_row t) (inode_at t x)) ∙ ap is_some (sym (found_alike t whole same x)) ∙ is_some-option_map shape_of_node (node_at whole x)

  -- a file has its row
  file_has_row : (x : ℕ) (bytes : List ℕ) → file_at whole x ≡ Some bytes → IsTrue (is_some (inode_at t x))
  file_has_row x bytes is = row_as_node x ∙ node_of_bytes (node_at whole x) bytes is

  -- and no place of what is no node names a block
  form_at-no_node : IsValid t → (x n : ℕ) → node_at whole x ≡ None → form_at t x n ≡ None
  form_at-no_node valid x n none = by_link (inode_block_at t x n) refl
    where
      of_row : (row : Option Inode) → is_some row ≡ false → IsTrue (elim row [ Some r ↦ is_regular r.kind | None ↦ false ]) → ⊥
      of_row None gone has = absurd (cc has)
      of_row (Some r) gone has = absurd (cc gone)

      no_link : (l : InodeBlock) → inode_block_at t x n ≡ Some l → ⊥
      no_link l there =
          let finds : IsTrue (finds_of_inode_block t l) = row_at_passes by_spot (finds_of_inode_block t) (x, n) t.inode_blocks l valid.rows.inode_blocks there in
          let regular : IsTrue (has_inode is_regular t l.inode) = (and_parts (has_inode is_regular t l.inode) (is_some (block_at t l.block)) finds).0 in
          let own : x ≡ l.inode = (pair_parts (x, n) (l.inode, l.blockno) (find_passes (has_key by_spot (x, n)) t.inode_blocks l there)).0 in
          of_row (inode_at t l.inode) (ap (λ y. is_some (inode_at t y)) (sym own) ∙ row_as_node x ∙ ap is_some none) regular

      by_link : (found : Option InodeBlock) → inode_block_at t x n ≡ found → option_and_then (λ (l : InodeBlock). option_map form_of_row (block_at t l.block)) found ≡ None
      by_link None there = refl
      by_link (Some l) there = absurd (no_link l there)

-- ---- its places

module _ (t after : Tables) (whole next : Tree) (valid : IsValid t) (before : Represents t whole) (represents : Represents after next) (rest : LeavesRest t after)
    (size : next.block_size ≡ whole.block_size) (keeps : KeepsBytes whole next) where
  -- a file that was there keeps the forms of its places, and one that is new has none
  form_at-file : (x n : ℕ) (bytes : List ℕ) → file_at next x ≡ Some bytes → form_at after x n ≡ form_at t x n
  form_at-file x n bytes is = rest.forms x n (file_has_row after next represents x bytes is)

  form_at-new_file : (x n : ℕ) (bytes : List ℕ) → file_at next x ≡ Some bytes → node_at whole x ≡ None → form_at after x n ≡ None
  form_at-new_file x n bytes is none = form_at-file x n bytes is ∙ form_at-no_node t whole before valid x n none

  pub SharesBlocks-names : SharesBlocks t after whole next
  SharesBlocks-names = record { size = size; files = files; rows = rest.blocks }
    where
      files : (x : ℕ) (bytes : List ℕ) → file_at next x ≡ Some bytes → HasFormsOf t after whole x bytes ⊎ HasNoForms after x bytes
      files x bytes is =
          elim (keeps x bytes is) [
            | inl there ↦ inl (record { of = x; same = there; forms = λ n. form_at-file x n bytes is })
            | inr new ↦ inr (new.0, λ n. form_at-new_file x n bytes is new.1)
          ]
