-- What a rename moves, and what it leaves.
use Rattle.std.specs.Prelude.{◌≡◌, ◌≢◌, ◌⊎◌, ℕ, List, false, true, Option, None, Some}
use Rattle.plain_tree.specs.Tree.{Directory, Node, Tree, node_at, stamped, touched}
use Rattle.plain_tree.specs.Entries.{entry_at, lives}
use Rattle.plain_tree.specs.Names.{NamesInOrder}
use Rattle.plain_tree.specs.Numbers.{InOrder}

-- p and n are another directory or another name than these
abbrev pub IsAnotherEntry : ℕ → List ℕ → ℕ → List ℕ → Type 0
IsAnotherEntry parent name p n = (p ≡ parent) × (n ≡ name) → ⊥

-- a node was there, and is as it was but for ctime
pub record IsStamped (now : ℕ) (before after : Option Node) : Type 0 where
  pub node : Node
  pub was : before ≡ Some node
  pub is : after ≡ Some (stamped now node)

-- a directory was there, and is as it was but for its entries and both times
pub record IsTouched (now : ℕ) (before after : Option Node) : Type 0 where
  pub node : Node
  pub old : List (List ℕ × ℕ)
  pub new : List (List ℕ × ℕ)
  pub was : before ≡ Some node
  pub was_directory : node.content ≡ Directory old
  pub is : after ≡ Some (touched now (record node { content = Directory new }))

-- a node whose name another took is as it was but for ctime where an entry or a handle keeps it, and otherwise it is gone
abbrev pub HasLostName : ℕ → ℕ → Tree → Tree → Type 0
HasLostName inode now t after = ((lives after inode ≡ true) × IsStamped now (node_at t inode) (node_at after inode)) ⊎ ((lives after inode ≡ false) × (node_at after inode ≡ None))

-- one entry has moved to a new name, which may have named another node before
pub record IsRenamed (parent : ℕ) (name : List ℕ) (new_parent : ℕ) (new_name : List ℕ) (now : ℕ) (t after : Tree) : Type 0 where
  pub inode : ℕ
  pub was : entry_at t parent name ≡ Some inode
  -- the old entry is gone, the new one names the node, and every third entry is as before
  pub old : entry_at after parent name ≡ None
  pub new : entry_at after new_parent new_name ≡ Some inode
  pub third : (p : ℕ) (n : List ℕ) → IsAnotherEntry parent name p n → IsAnotherEntry new_parent new_name p n → entry_at after p n ≡ entry_at t p n
  -- the node that moved, the two directories, the node that the new entry named before, and every other node
  pub moved : IsStamped now (node_at t inode) (node_at after inode)
  pub parents : (p : ℕ) → (p ≡ parent) ⊎ (p ≡ new_parent) → IsTouched now (node_at t p) (node_at after p)
  pub replaced : (x : ℕ) → entry_at t new_parent new_name ≡ Some x → HasLostName x now t after
  pub others : (x : ℕ) → x ≢ inode → x ≢ parent → x ≢ new_parent → entry_at t new_parent new_name ≢ Some x → node_at after x ≡ node_at t x
  pub handles : after.handles ≡ t.handles
  pub next_inode : after.next_inode ≡ t.next_inode
  pub next_handle : after.next_handle ≡ t.next_handle
  pub block_size : after.block_size ≡ t.block_size
  -- numbers and names stay in order, so that these entries and nodes are all that there are
  pub ordered : InOrder after
  pub names : NamesInOrder after
