-- What a write and a truncation do to a file, and what other operations leave of it.
use Rattle.std.specs.Prelude.{◌≡◌, ℕ, ◌+◌, ◌-◌, ◌≤◌, ◌<◌, ◌⊎◌, List, [], ◌++◌, length, take, drop, replicate, min, Bool, true, false, Some}
use Rattle.op_frames.specs.declared.operation.Op.{Op}
use Rattle.op_frames.specs.declared.operation.Op.TheVariants as ops
use Rattle.op_frames.specs.declared.reply.Reply.TheVariants as replies
use Rattle.plain_tree.specs.Tree.{Regular, Node, Handle, Tree, node_at, handle_of}
use Rattle.plain_tree.specs.Files.{file_at}
use Rattle.plain_tree.specs.Operations.{reply_to}
use Rattle.tree_laws.specs.Changes.{ChangesOneNode}

-- the node is the one that it was, with other bytes, touched at a time
abbrev pub with_content : ℕ → List ℕ → Node → Node
with_content now bytes node = record node { mtime = now; ctime = now; content = Regular bytes }

-- the bytes behind an offset are others, a gap before them is zeros, and all else is as it was
pub record HasBytesAt (offset : ℕ) (text old new : List ℕ) : Type 0 where
  pub front : take offset new ≡ take offset (old ++ replicate (offset - length old) 0)
  pub there : take (length text) (drop offset new) ≡ text
  pub back : drop (offset + length text) new ≡ drop (offset + length text) old

-- through a handle of any pass on the inode, a Read gives these bytes from its offset on
abbrev pub ReadsAs : ℕ → List ℕ → Tree → Tree → Type 0
ReadsAs inode bytes t after =
    (reader handle offset count now : ℕ) (opened : Handle) → handle_of t reader handle ≡ Some opened → opened.inode ≡ inode → count ≤ 131072
    → reply_to after reader (ops.Read handle offset count) now ≡ replies.Bytes (take count (drop offset bytes))

-- a regular file has taken the text at the offset, at a time
pub record IsWritten (inode offset now : ℕ) (text : List ℕ) (t after : Tree) : Type 0 where
  pub node : Node
  pub old : List ℕ
  pub new : List ℕ
  pub was : node_at t inode ≡ Some node
  pub was_file : node.content ≡ Regular old
  pub is : node_at after inode ≡ Some (with_content now new node)
  pub bytes : HasBytesAt offset text old new
  pub reads : ReadsAs inode new t after
  pub only : ChangesOneNode inode t after

-- through a handle of any pass on the inode, a Read of as many bytes as the text has gives the text
abbrev pub ReadsThere : ℕ → ℕ → List ℕ → Tree → Tree → Type 0
ReadsThere inode offset text t after =
    (reader handle now : ℕ) (opened : Handle) → handle_of t reader handle ≡ Some opened → opened.inode ≡ inode → length text ≤ 131072
    → reply_to after reader (ops.Read handle offset (length text)) now ≡ replies.Bytes text

-- a regular file has been cut, or lengthened with zeros, to a size, at a time
pub record IsResized (inode size now : ℕ) (t after : Tree) : Type 0 where
  pub node : Node
  pub old : List ℕ
  pub new : List ℕ
  pub was : node_at t inode ≡ Some node
  pub was_file : node.content ≡ Regular old
  pub is : node_at after inode ≡ Some (with_content now new node)
  pub size_is : length new ≡ size
  pub front : take (min size (length old)) new ≡ take (min size (length old)) old
  pub zeros : drop (length old) new ≡ replicate (size - length old) 0
  pub reads : ReadsAs inode new t after
  pub only : ChangesOneNode inode t after

-- the operation makes new files that have the bytes of others
abbrev pub copies_files : Op → Bool
copies_files (ops.CopyTree source parent name) = true
copies_files _ = false

-- each file has the bytes that it had, or is new and empty, under a number that was to come
pub record KeepsFiles (t after : Tree) : Type 0 where
  pub next_inode : t.next_inode ≤ after.next_inode
  pub files : (inode : ℕ) (bytes : List ℕ) → file_at after inode ≡ Some bytes → (file_at t inode ≡ Some bytes) ⊎ ((t.next_inode ≤ inode) × (bytes ≡ []))

-- Each file that was there and stays has the bytes that it had. One under a number that was to come is empty, or has the bytes of a
-- file that was there, as the copy of a file has.
pub record KeepsOldFiles (t after : Tree) : Type 0 where
  pub next_inode : t.next_inode ≤ after.next_inode
  pub old : (inode : ℕ) (bytes : List ℕ) → inode < t.next_inode → file_at after inode ≡ Some bytes → file_at t inode ≡ Some bytes
  pub new : (inode : ℕ) (bytes : List ℕ) → t.next_inode ≤ inode → file_at after inode ≡ Some bytes → (bytes ≡ []) ⊎ ((of : ℕ) × (file_at t of ≡ Some bytes))
