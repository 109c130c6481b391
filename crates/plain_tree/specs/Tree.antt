-- The plain tree: nodes by their inode numbers, and the handles that are open.
use Rattle.std.specs.Prelude.{ℕ, ◌+◌, ◌==◌, List, [], ◌∷◌, Bool, false, Option, None, Some, codes, if◌then◌else◌}
use Rattle.s3_base.specs.Numbers.{root}
use Rattle.std.specs.Map.{lookup, remove_entry, set_value}
use Rattle.std.specs.Ordering.{nat_cmp}
use Rattle.std.specs.BTreeMap.{insert_entry, is_at}
use Rattle.std.specs.Cmp.Lexicographic.{slice_cmp}

-- the bytes of a regular file, the entries of a directory in the order of their names, or the target of a symbolic link
pub data Content : Type 0 where
  Regular : (bytes : List ℕ) → Content
  Directory : (entries : List (List ℕ × ℕ)) → Content
  Link : (target : List ℕ) → Content

-- what an inode number names; attributes are in the order of their names
pub record Node : Type 0 where
  pub mode : ℕ
  pub uid : ℕ
  pub gid : ℕ
  pub mtime : ℕ
  pub ctime : ℕ
  pub locked : Bool
  pub attributes : List (List ℕ × List ℕ)
  pub content : Content

-- an open file, and the pass that opened it
pub record Handle : Type 0 where
  pub inode : ℕ
  pub pass : ℕ

-- nodes and handles are in the order of their numbers, each below the next one
pub record Tree : Type 0 where
  pub block_size : ℕ
  pub next_inode : ℕ
  pub nodes : List (ℕ × Node)
  pub next_handle : ℕ
  pub handles : List (ℕ × Handle)

abbrev pub lost_and_found : List ℕ
lost_and_found = codes "lost+found"

-- an empty directory
abbrev pub empty_directory : ℕ → ℕ → Node
empty_directory mode now = record { mode = mode; uid = 0; gid = 0; mtime = now; ctime = now; locked = false; attributes = []; content = Directory [] }

-- the tree of a file system that was just made: the root, and lost+found in it
abbrev pub made_tree : ℕ → ℕ → Tree
made_tree block_size now = record {
  block_size = block_size;
  next_inode = 3;
  nodes = (root, record (empty_directory 493 now) { content = Directory ((lost_and_found, 2) ∷ []) }) ∷ (2, empty_directory 448 now) ∷ [];
  next_handle = 1;
  handles = [];
}

-- the node of an inode number
abbrev pub node_at : Tree → ℕ → Option Node
node_at t inode = lookup (is_at (nat_cmp inode)) t.nodes

-- the inode that a directory's entry of this name names
abbrev pub entry_of : Content → List ℕ → Option ℕ
entry_of (Directory entries) name = lookup (is_at (slice_cmp nat_cmp name)) entries
entry_of (Regular bytes) name = None
entry_of (Link target) name = None

-- a handle, where it is the pass's own
abbrev pub own_handle : ℕ → Option Handle → Option Handle
own_handle pass None = None
own_handle pass (Some handle) = if handle.pass == pass then Some handle else None

-- the open handle of this number, where it is the pass's own
abbrev pub handle_of : Tree → ℕ → ℕ → Option Handle
handle_of t pass handle = own_handle pass (lookup (is_at (nat_cmp handle)) t.handles)

-- with one more node, under the next inode number
abbrev pub with_node : Node → Tree → Tree
with_node node t = record t { next_inode = t.next_inode + 1; nodes = insert_entry nat_cmp t.nodes t.next_inode node }

-- with one more handle, under the next handle number
abbrev pub with_handle : Handle → Tree → Tree
with_handle handle t = record t { next_handle = t.next_handle + 1; handles = insert_entry nat_cmp t.handles t.next_handle handle }

-- with one node changed, where there is one
abbrev pub changed_by : (Node → Node) → Option Node → ℕ → Tree → Tree
changed_by f None inode t = t
changed_by f (Some node) inode t = record t { nodes = set_value (is_at (nat_cmp inode)) t.nodes (f node) }

abbrev pub change_node : ℕ → (Node → Node) → Tree → Tree
change_node inode f t = changed_by f (node_at t inode) inode t

-- with one more entry, where it is a directory
abbrev pub named : List ℕ → ℕ → Content → Content
named name inode (Directory entries) = Directory (insert_entry (slice_cmp nat_cmp) entries name inode)
named name inode (Regular bytes) = Regular bytes
named name inode (Link target) = Link target

-- both times set
abbrev pub touched : ℕ → Node → Node
touched now node = record node { mtime = now; ctime = now }

-- only the time of the last change of state set
abbrev pub stamped : ℕ → Node → Node
stamped now node = record node { ctime = now }

-- without the node of an inode number
abbrev pub without_node : ℕ → Tree → Tree
without_node inode t = record t { nodes = remove_entry (is_at (nat_cmp inode)) t.nodes }

-- without a handle
abbrev pub without_handle : ℕ → Tree → Tree
without_handle handle t = record t { handles = remove_entry (is_at (nat_cmp handle)) t.handles }
