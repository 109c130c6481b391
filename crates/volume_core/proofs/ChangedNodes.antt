-- Trees in which one node is changed, and the lengths of files that are.
use Rattle.std.proofs.Common.{◌≡◌, ℕ, ◌+◌, ◌-◌, ◌<◌, max, List, ◌++◌, length, take, drop, replicate, Bool, true, false, cond, Option, None, Some, refl, sym, ap, ◌∙◌, arith, length-append}
use Rattle.std.specs.Prelude.{◌==◌, option_map, option_and_then}
use Rattle.std.proofs.lemmas.Bool.{eqb-true, eq-eqb}
use Rattle.std.proofs.lemmas.List.{length-take, length-drop, length-replicate}
use Rattle.plain_tree.specs.Tree as tree
use Rattle.plain_tree.specs.Tree.{Node, Tree, node_at, changed_by, change_node, touched}
use Rattle.plain_tree.specs.Files.{padded, written_at, resized, bytes_of, file_at, with_bytes}
use Rattle.tree_laws.proofs.Node.Reading.{node_at-changed_by_same, changed_by-changes_one}

abbrev zeros : ℕ → List ℕ
zeros n = replicate n 0

pub length-padded : (size : ℕ) (bytes : List ℕ) → length (padded size bytes) ≡ length bytes + (size - length bytes)
length-padded size bytes = length-append bytes (zeros (size - length bytes)) ∙ ap (λ n. length bytes + n) (length-replicate {A = ℕ} (size - length bytes) 0)

pub length-resized : (size : ℕ) (bytes : List ℕ) → length (resized size bytes) ≡ size
length-resized size bytes = length-take size (padded size bytes) ∙ omega (arith, length-padded size bytes)

pub length-written : (offset : ℕ) (new bytes : List ℕ) → 0 < length new → length (written_at offset new bytes) ≡ max (length bytes) (offset + length new)
length-written offset new bytes some =
    omega (
      arith,
      length-append (take offset (padded offset bytes) ++ new) (drop (offset + length new) bytes),
      length-append (take offset (padded offset bytes)) new,
      length-take offset (padded offset bytes),
      length-padded offset bytes,
      length-drop (offset + length new) bytes,
    )

-- a node of a tree in which one is changed
pub node_changed : (f : Node → Node) (inode : ℕ) (whole : Tree) (x : ℕ) → node_at (change_node inode f whole) x ≡ cond (x == inode) (option_map f (node_at whole x)) (node_at whole x)
node_changed f inode whole x = by_node (node_at whole inode) refl
  where
    none : node_at whole inode ≡ None → (d : Bool) → (x == inode) ≡ d → node_at whole x ≡ cond d (option_map f (node_at whole x)) (node_at whole x)
    none is true here =
        let absent : node_at whole x ≡ None = ap (node_at whole) (eqb-true x inode here) ∙ is in
        absent ∙ ap (option_map f) (sym absent)
    none is false apart = refl

    some : (node : Node) → node_at whole inode ≡ Some node → (d : Bool) → (x == inode) ≡ d → node_at (changed_by f (Some node) inode whole) x ≡ cond d (option_map f (node_at whole x)) (node_at whole x)
    some node is true here =
        let same : x ≡ inode = eqb-true x inode here in
        ap (node_at (changed_by f (Some node) inode whole)) same ∙ node_at-changed_by_same f node inode whole is ∙ ap (option_map f) (sym (ap (node_at whole) same ∙ is))
    some node is false apart = (changed_by-changes_one f node inode whole is).others x (λ same. let clash : true ≡ false = sym (eq-eqb x inode same) ∙ apart in cc clash)

    by_node : (found : Option Node) → node_at whole inode ≡ found → node_at (change_node inode f whole) x ≡ cond (x == inode) (option_map f (node_at whole x)) (node_at whole x)
    by_node None is = ap (λ (n : Option Node). node_at (changed_by f n inode whole) x) is ∙ none is (x == inode) refl
    by_node (Some node) is = ap (λ (n : Option Node). node_at (changed_by f n inode whole) x) is ∙ some node is (x == inode) refl

-- what a change of one node leaves
module _ (f : Node → Node) (inode : ℕ) (whole : Tree) where
  kept : {A : Type 0} (read : Tree → A) → ((nodes : List (ℕ × Node)) → read (record whole { nodes = nodes }) ≡ read whole) → read (change_node inode f whole) ≡ read whole
  kept read same = by_node (node_at whole inode)
    where
      by_node : (found : Option Node) → read (changed_by f found inode whole) ≡ read whole
      by_node None = refl
      by_node (Some node) = same _

  pub next_kept : (change_node inode f whole).next_inode ≡ whole.next_inode
  next_kept = kept (λ t. t.next_inode) (λ nodes. refl)

  pub next_handle_kept : (change_node inode f whole).next_handle ≡ whole.next_handle
  next_handle_kept = kept (λ t. t.next_handle) (λ nodes. refl)

  pub handles_kept : (change_node inode f whole).handles ≡ whole.handles
  handles_kept = kept (λ t. t.handles) (λ nodes. refl)

bytes_changed : (g : List ℕ → List ℕ) (content : tree.Content) → bytes_of (with_bytes g content) ≡ option_map g (bytes_of content)
bytes_changed g (tree.Regular bytes) = refl
bytes_changed g (tree.Directory entries) = refl
bytes_changed g (tree.Link target) = refl

-- the bytes of one file are changed alike
module _ (g : List ℕ → List ℕ) (now inode : ℕ) (whole : Tree) where
  abbrev pub changed_file : Node → Node
  changed_file node = touched now (record node { content = with_bytes g node.content })

  file_changed : (found : Option Node) → option_and_then (λ (node : Node). bytes_of node.content) (option_map changed_file found) ≡ option_map g (option_and_then (λ (node : Node). bytes_of node.content) found)
  file_changed None = refl
  file_changed (Some node) = bytes_changed g node.content

  -- the file itself, and every other
  pub own_file : (bytes : List ℕ) → file_at whole inode ≡ Some bytes → file_at (change_node inode changed_file whole) inode ≡ Some (g bytes)
  own_file bytes is =
      ap (option_and_then (λ (node : Node). bytes_of node.content)) (node_changed changed_file inode whole inode)
      ∙ ap (λ b. option_and_then (λ (node : Node). bytes_of node.content) (cond b (option_map changed_file (node_at whole inode)) (node_at whole inode))) (eq-eqb inode inode refl)
      ∙ file_changed (node_at whole inode) ∙ ap (option_map g) is

  pub other_file : (x : ℕ) → (x == inode) ≡ false → file_at (change_node inode changed_file whole) x ≡ file_at whole x
  other_file x apart =
      ap (option_and_then (λ (node : Node). bytes_of node.content)) (node_changed changed_file inode whole x)
      ∙ ap (λ b. option_and_then (λ (node : Node). bytes_of node.content) (cond b (option_map changed_file (node_at whole x)) (node_at whole x))) apart

  pub size_kept : (change_node inode changed_file whole).block_size ≡ whole.block_size
  size_kept = kept changed_file inode whole (λ t. t.block_size) (λ nodes. refl)
