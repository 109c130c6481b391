-- A tree on the way of a copy: some nodes have their copies, each with some of its entries.
use Rattle.std.specs.Prelude.{◌≡◌, ◌≢◌, ◌≤◌, ◌<◌, ◌+◌, ◌==◌, ℕ, List, [], length, Bool, true, false, ◌&&◌, ◌||◌, None, Some, option_map, if◌then◌else◌}
use Rattle.std.specs.Ordering.{nat_cmp, is_eq}
use Rattle.std.specs.Cmp.Lexicographic.{slice_cmp}
use Rattle.plain_tree.specs.Below.{is_among}
use Rattle.plain_tree.specs.Entries.{entry_at}
use Rattle.plain_tree.specs.Names.{NamesInOrder}
use Rattle.plain_tree.specs.Numbers.{InOrder}
use Rattle.plain_tree.specs.Subtrees.{copy_number}
use Rattle.plain_tree.specs.Tree.{Content, Regular, Directory, Link, Node, Tree, node_at, named, touched}

-- a node with one entry more, at its own times
abbrev pub entered : List ℕ → ℕ → Node → Node
entered name inode node = record node { content = named name inode node.content }

-- a copy of a node, with the content that it has so far
abbrev pub begun : ℕ → Content → Node → Node
begun now content node = record node { ctime = now; locked = false; content = content }

-- the content of a copy that has no entry yet
abbrev pub without_entries : Content → Content
without_entries (Directory entries) = Directory []
without_entries (Regular bytes) = Regular bytes
without_entries (Link target) = Link target

-- bytes and target are the same, and a directory is one
abbrev pub IsContentOf : Content → Content → Type 0
IsContentOf (Directory entries) copy = (new : List (List ℕ × ℕ)) × (copy ≡ Directory new)
IsContentOf (Regular bytes) copy = copy ≡ Regular bytes
IsContentOf (Link target) copy = copy ≡ Link target

-- a node that was there has its copy under a number
pub record HasCopy (whole t : Tree) (now x number : ℕ) : Type 0 where
  pub node : Node
  pub content : Content
  pub was : node_at whole x ≡ Some node
  pub is : node_at t number ≡ Some (begun now content node)
  pub content_is : IsContentOf node.content content

-- entries by directory and name, and one more
abbrev pub also_entry : (ℕ → List ℕ → Bool) → ℕ → List ℕ → ℕ → List ℕ → Bool
also_entry done parent name x other = done x other || (x == parent && is_eq (slice_cmp nat_cmp other name))

-- What a tree is on the way of a copy to a name in a directory: the nodes that were seen have copies, in the order in which they
-- were seen, under the numbers from the next one on; of their entries the done ones have copies, each of which names the copy of
-- what the entry names; and all else is as before, but for the directory.
pub record IsPartial (whole t : Tree) (parent now : ℕ) (name : List ℕ) (seen : List ℕ) (done : ℕ → List ℕ → Bool) : Type 0 where
  pub next_inode : t.next_inode ≡ whole.next_inode + length seen
  pub handles : t.handles ≡ whole.handles
  pub next_handle : t.next_handle ≡ whole.next_handle
  pub block_size : t.block_size ≡ whole.block_size
  pub ordered : InOrder t
  pub names : NamesInOrder t
  pub old : (z : ℕ) → z < whole.next_inode → z ≢ parent → node_at t z ≡ node_at whole z
  pub directory : node_at t parent ≡ option_map (λ node. touched now (entered name whole.next_inode node)) (node_at whole parent)
  pub copies : (x : ℕ) → is_among seen x ≡ true → HasCopy whole t now x (copy_number whole.next_inode seen x)
  pub only : (z : ℕ) → whole.next_inode ≤ z → z < t.next_inode → (x : ℕ) × (is_among seen x ≡ true) × (z ≡ copy_number whole.next_inode seen x)
  pub within : (x : ℕ) (other : List ℕ) → done x other ≡ true → is_among seen x ≡ true
  pub children : (x y : ℕ) (other : List ℕ) → done x other ≡ true → entry_at whole x other ≡ Some y → is_among seen y ≡ true
  pub entries : (x : ℕ) (other : List ℕ) → is_among seen x ≡ true
      → entry_at t (copy_number whole.next_inode seen x) other
      ≡ (if done x other then option_map (copy_number whole.next_inode seen) (entry_at whole x other) else None)

-- one node more under the next number, and nothing else
pub record HasMore (t after : Tree) (node : Node) : Type 0 where
  pub next_inode : after.next_inode ≡ t.next_inode + 1
  pub handles : after.handles ≡ t.handles
  pub next_handle : after.next_handle ≡ t.next_handle
  pub block_size : after.block_size ≡ t.block_size
  pub ordered : InOrder after
  pub names : NamesInOrder after
  pub there : node_at after t.next_inode ≡ Some node
  pub others : (y : ℕ) → y ≢ t.next_inode → node_at after y ≡ node_at t y
