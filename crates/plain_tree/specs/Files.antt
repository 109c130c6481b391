-- The bytes of regular files.
use Rattle.std.specs.Prelude.{ℕ, List, take, drop, Option, None, Some, option_and_then}
use Rattle.plain_tree.specs.Tree.{Content, Regular, Directory, Link, Handle, Tree, node_at, handle_of}
-- what a write and a change of its length do to the bytes of a file
pub use Rattle.block_math.specs.Changes.{padded, written_at, resized}

-- at most so many bytes from the offset on
abbrev pub read_at : ℕ → ℕ → List ℕ → List ℕ
read_at offset count bytes = take count (drop offset bytes)

-- the bytes of a regular file
abbrev pub bytes_of : Content → Option (List ℕ)
bytes_of (Regular bytes) = Some bytes
bytes_of (Directory entries) = None
bytes_of (Link target) = None

abbrev pub file_at : Tree → ℕ → Option (List ℕ)
file_at t inode = option_and_then (λ node. bytes_of node.content) (node_at t inode)

-- the bytes of the file that the pass's handle has open
abbrev pub open_file : Tree → ℕ → ℕ → Option (List ℕ)
open_file t pass handle = option_and_then (λ h. file_at t h.inode) (handle_of t pass handle)

-- the inode that the pass's handle names, or 0
abbrev pub inode_of : Option Handle → ℕ
inode_of None = 0
inode_of (Some h) = h.inode

-- with other bytes, where it is a regular file
abbrev pub with_bytes : (List ℕ → List ℕ) → Content → Content
with_bytes f (Regular bytes) = Regular (f bytes)
with_bytes f (Directory entries) = Directory entries
with_bytes f (Link target) = Link target

-- the target of a symbolic link
abbrev pub target_of : Content → Option (List ℕ)
target_of (Link target) = Some target
target_of (Regular bytes) = None
target_of (Directory entries) = None
