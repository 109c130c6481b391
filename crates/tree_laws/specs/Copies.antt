-- What a copy of a directory is.
use Rattle.std.specs.Prelude.{◌≡◌, ◌≢◌, ◌≤◌, ◌<◌, ◌+◌, ◌⊎◌, ℕ, List, length, false, IsTrue, IsSome, Option, None, Some}
use Rattle.std.specs.Map.{keys_of}
use Rattle.std.specs.Option.{option_map}
use Rattle.op_frames.specs.declared.operation.Op.{Op}
use Rattle.op_frames.specs.declared.operation.Op.TheVariants as ops
use Rattle.plain_tree.specs.Below.{at_and_below, is_at_or_below}
use Rattle.plain_tree.specs.Entries.{entry_at}
use Rattle.plain_tree.specs.Files.{inode_of}
use Rattle.plain_tree.specs.Operations.{tree_after}
use Rattle.plain_tree.specs.Subtrees.{copy_number}
use Rattle.plain_tree.specs.Tree.{Content, Regular, Directory, Link, Node, Tree, node_at, handle_of, entry_of, touched}
use Rattle.tree_laws.specs.Changes.{node_changed}

-- the number that the copy of a node at or below the source has
abbrev pub number_of : Tree → ℕ → ℕ → ℕ
number_of t source x = copy_number t.next_inode (at_and_below t source) x

-- bytes and target are the same; a directory has the same names, and each names the copy of what it named
abbrev pub HasCopied : (ℕ → ℕ) → Content → Content → Type 0
HasCopied number (Regular bytes) copy = copy ≡ Regular bytes
HasCopied number (Link target) copy = copy ≡ Link target
HasCopied number (Directory old) copy =
    (new : List (List ℕ × ℕ)) × (copy ≡ Directory new) × (keys_of new ≡ keys_of old)
    × ((name : List ℕ) → entry_of (Directory new) name ≡ option_map number (entry_of (Directory old) name))

-- all is the same but for the time of the last change of state, the lock, and the numbers that entries name
pub record IsCopyOf (number : ℕ → ℕ) (now : ℕ) (node copy : Node) : Type 0 where
  pub mode : copy.mode ≡ node.mode
  pub uid : copy.uid ≡ node.uid
  pub gid : copy.gid ≡ node.gid
  pub mtime : copy.mtime ≡ node.mtime
  pub ctime : copy.ctime ≡ now
  pub unlocked : copy.locked ≡ false
  pub attributes : copy.attributes ≡ node.attributes
  pub content : HasCopied number node.content copy.content

-- a directory has one entry more, and is touched
pub record HasOneMore (parent : ℕ) (name : List ℕ) (inode now : ℕ) (t after : Tree) : Type 0 where
  pub node : Node
  pub old : List (List ℕ × ℕ)
  pub new : List (List ℕ × ℕ)
  pub was : node_at t parent ≡ Some node
  pub was_folder : node.content ≡ Directory old
  pub is : node_at after parent ≡ Some (touched now (record node { content = Directory new }))
  pub size_is : length new ≡ length old + 1
  pub free : entry_at t parent name ≡ None
  pub entry : entry_at after parent name ≡ Some inode
  pub others : (other : List ℕ) → other ≢ name → entry_at after parent other ≡ entry_at t parent other

-- all that stood before is as before, but for the parent
pub record LeavesTheRest (source parent : ℕ) (t after : Tree) : Type 0 where
  pub others : (x : ℕ) → x < t.next_inode → x ≢ parent → node_at after x ≡ node_at t x
  pub outside : is_at_or_below t source parent ≡ false
  pub next_inode : after.next_inode ≡ t.next_inode + length (at_and_below t source)
  pub handles : after.handles ≡ t.handles
  pub next_handle : after.next_handle ≡ t.next_handle
  pub block_size : after.block_size ≡ t.block_size

-- the new nodes are those of the copy; each has a number of its own, and none has one that was given before
pub record IsNew (source : ℕ) (t after : Tree) : Type 0 where
  pub only : (z : ℕ) → t.next_inode ≤ z → IsSome (node_at after z) → (x : ℕ) × IsTrue (is_at_or_below t source x) × (z ≡ number_of t source x)
  pub apart : (x y : ℕ) → IsTrue (is_at_or_below t source x) → IsTrue (is_at_or_below t source y) → number_of t source x ≡ number_of t source y → x ≡ y
  pub from : (x : ℕ) → IsTrue (is_at_or_below t source x) → t.next_inode ≤ number_of t source x
  pub up_to : (x : ℕ) → IsTrue (is_at_or_below t source x) → number_of t source x < after.next_inode

-- source and copy are equal under the numbering
pub record IsAlike (source now : ℕ) (t after : Tree) : Type 0 where
  -- the source is the first; what an entry at or below it names is at or below it too, and nothing else is
  pub itself : IsTrue (is_at_or_below t source source)
  pub first : number_of t source source ≡ t.next_inode
  pub down : (x y : ℕ) (name : List ℕ) → IsTrue (is_at_or_below t source x) → entry_at t x name ≡ Some y → IsTrue (is_at_or_below t source y)
  pub up : (x : ℕ) → IsTrue (is_at_or_below t source x) → (x ≡ source) ⊎ ((y : ℕ) × (name : List ℕ) × IsTrue (is_at_or_below t source y) × (entry_at t y name ≡ Some x))
  -- each node has its copy
  pub copies : (x : ℕ) → IsTrue (is_at_or_below t source x)
      → (node : Node) × (copy : Node) × (node_at t x ≡ Some node) × (node_at after (number_of t source x) ≡ Some copy) × IsCopyOf (number_of t source) now node copy
  -- each entry of a copy names the copy of what the same entry of the node names
  pub entries : (x : ℕ) (name : List ℕ) → IsTrue (is_at_or_below t source x) → entry_at after (number_of t source x) name ≡ option_map (number_of t source) (entry_at t x name)
  -- so two names of the copy share a node exactly where those of the source do
  pub shared : (x y : ℕ) (name other : List ℕ) → IsTrue (is_at_or_below t source x) → IsTrue (is_at_or_below t source y)
      → entry_at after (number_of t source x) name ≡ entry_at after (number_of t source y) other → entry_at t x name ≡ entry_at t y other
  pub share : (x y : ℕ) (name other : List ℕ) → IsTrue (is_at_or_below t source x) → IsTrue (is_at_or_below t source y)
      → entry_at t x name ≡ entry_at t y other → entry_at after (number_of t source x) name ≡ entry_at after (number_of t source y) other

-- a directory with all below it has been copied, and a new entry of the parent names the copy
pub record IsCopied (source parent : ℕ) (name : List ℕ) (now : ℕ) (t after : Tree) : Type 0 where
  pub gains : HasOneMore parent name (number_of t source source) now t after
  pub rest : LeavesTheRest source parent t after
  pub new : IsNew source t after
  pub alike : IsAlike source now t after

-- ---- after the copying

-- the node that a Write, or another operation on one node alone, would change
abbrev pub node_written : Tree → ℕ → Op → Option ℕ
node_written t pass (ops.Write handle offset text) = Some (inode_of (handle_of t pass handle))
node_written t pass op = node_changed op

-- what is written to a node of one side leaves every node of the other side
pub record AreApart (source : ℕ) (t later : Tree) : Type 0 where
  pub copy_stays : (pass now x y : ℕ) (op : Op) → IsTrue (is_at_or_below t source x) → IsTrue (is_at_or_below t source y) → node_written later pass op ≡ Some x
      → node_at (tree_after later pass op now) (number_of t source y) ≡ node_at later (number_of t source y)
  pub source_stays : (pass now x y : ℕ) (op : Op) → IsTrue (is_at_or_below t source x) → IsTrue (is_at_or_below t source y) → node_written later pass op ≡ Some (number_of t source x)
      → node_at (tree_after later pass op now) y ≡ node_at later y
