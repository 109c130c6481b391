-- What a RemoveTree takes away, and what it leaves.
use Rattle.std.specs.Prelude.{◌≡◌, ◌≢◌, ◌⊎◌, ℕ, ◌+◌, List, length, false, true, None, Some}
use Rattle.plain_tree.specs.Below.{is_at_or_below}
use Rattle.plain_tree.specs.Entries.{entries_of, is_directory, entry_at, is_open, unnamed}
use Rattle.plain_tree.specs.Tree.{Node, Tree, node_at, touched, stamped}

-- another entry than the one that goes names the inode, in a directory that is not at or below the one removed
pub record HasOtherName (parent top : ℕ) (name : List ℕ) (t : Tree) (inode : ℕ) : Type 0 where
  pub holder : ℕ
  pub by : List ℕ
  pub outside : is_at_or_below t top holder ≡ false
  pub other : (holder ≡ parent) × (by ≡ name) → ⊥
  pub names : entry_at t holder by ≡ Some inode

-- the inode has another name, or is open
abbrev pub IsHeld : ℕ → ℕ → List ℕ → Tree → ℕ → Type 0
IsHeld parent top name t inode = HasOtherName parent top name t inode ⊎ (is_open t inode ≡ true)

-- The directory that the entry names is removed with all below it. What is no directory and is held stays, stamped; of the
-- parent an entry goes, and it is touched; all else is as it was.
pub record IsRemoved (parent : ℕ) (name : List ℕ) (now : ℕ) (t after : Tree) : Type 0 where
  pub top : ℕ
  pub was_named : entry_at t parent name ≡ Some top
  -- the entry is gone, and so are all entries of directories at and below it
  pub is_unnamed : entry_at after parent name ≡ None
  pub no_entries : (inode : ℕ) (by : List ℕ) → is_at_or_below t top inode ≡ true → entry_at after inode by ≡ None
  -- at and below it, what is no directory and is held stays, and all else is gone
  pub held_stay : (inode : ℕ) (node : Node) → is_at_or_below t top inode ≡ true → node_at t inode ≡ Some node → is_directory node.content ≡ false → IsHeld parent top name t inode
      → node_at after inode ≡ Some (stamped now node)
  pub directories_go : (inode : ℕ) (node : Node) → is_at_or_below t top inode ≡ true → node_at t inode ≡ Some node → is_directory node.content ≡ true → node_at after inode ≡ None
  pub others_go : (inode : ℕ) → is_at_or_below t top inode ≡ true → (IsHeld parent top name t inode → ⊥) → node_at after inode ≡ None
  -- the parent is outside, and has one entry less
  pub parent_is_outside : is_at_or_below t top parent ≡ false
  pub parent_node : Node
  pub parent_was : node_at t parent ≡ Some parent_node
  pub parent_is : node_at after parent ≡ Some (touched now (record parent_node { content = unnamed name parent_node.content }))
  pub one_less : length (entries_of (unnamed name parent_node.content)) + 1 ≡ length (entries_of parent_node.content)
  pub other_entries : (by : List ℕ) → by ≢ name → entry_at after parent by ≡ entry_at t parent by
  -- every other node outside is as before, and so are handles and numbers
  pub outside_stays : (inode : ℕ) → is_at_or_below t top inode ≡ false → inode ≢ parent → node_at after inode ≡ node_at t inode
  pub handles : after.handles ≡ t.handles
  pub next_inode : after.next_inode ≡ t.next_inode
  pub next_handle : after.next_handle ≡ t.next_handle
  pub block_size : after.block_size ≡ t.block_size
