-- Operations by what they work on, and what a call of one takes beside its effect on the tree.
use Rattle.std.specs.Prelude.{ℕ, ◌==◌, List, length, filter, Bool, true, false, not, ◌||◌, nat_eq, Option, None, Some, is_some, if◌then◌else◌}
use Rattle.std.specs.List.{list_all}
use Rattle.std.specs.Cmp.Lexicographic.{pointwise}
use Rattle.op_frames.specs.declared.operation.Op.{Op}
use Rattle.op_frames.specs.declared.operation.Op.TheVariants as ops
use Rattle.plain_tree.specs.Tree.{Tree, handle_of, without_handle}
use Rattle.plain_tree.specs.Entries.{entry_at, lives}
use Rattle.plain_tree.specs.Files.{inode_of}
use Rattle.plain_tree.specs.Pages.{attribute_at}
use Rattle.plain_tree.specs.Subtrees.{is_same}
use Rattle.plain_tree.specs.Operations.{only_reads}

-- ---- what an operation works on: each class is planned in one place

pub data Class : Type 0 where
  -- one inode, or the file system as a whole
  Inodes : Class
  -- it opens a file that is there
  Opening : Class
  -- it closes handles
  Closing : Class
  -- entries of directories
  Entries : Class
  -- the bytes of one file
  Bytes : Class
  -- all at and below a directory
  Trees : Class
  -- the server itself
  Server : Class

abbrev pub class_of : Op → Class
class_of (ops.Lookup parent name) = Entries
class_of (ops.Getattr inode) = Inodes
class_of (ops.Chmod inode mode) = Inodes
class_of (ops.Chown inode uid gid) = Inodes
class_of (ops.Utimes inode mtime) = Inodes
class_of (ops.Truncate inode size) = Bytes
class_of (ops.Mkdir parent name mode uid gid) = Entries
class_of (ops.Create parent name mode uid gid) = Entries
class_of (ops.Unlink parent name) = Entries
class_of (ops.Rmdir parent name) = Entries
class_of (ops.Rename parent name new_parent new_name) = Entries
class_of (ops.Link inode parent name) = Entries
class_of (ops.Symlink parent name target uid gid) = Inodes
class_of (ops.Readlink inode) = Inodes
class_of (ops.Open inode) = Opening
class_of (ops.Release handle) = Closing
class_of (ops.Read handle offset count) = Bytes
class_of (ops.Write handle offset bytes) = Bytes
class_of (ops.Fsync handle) = Bytes
class_of (ops.Readdir inode after most) = Entries
class_of ops.Statfs = Inodes
class_of (ops.Setxattr inode name flag value) = Inodes
class_of (ops.Getxattr inode name) = Inodes
class_of (ops.Listxattr inode after most) = Inodes
class_of (ops.Removexattr inode name) = Inodes
class_of (ops.CopyTree source parent name) = Trees
class_of (ops.LockTree inode) = Trees
class_of (ops.RemoveTree parent name) = Trees
class_of ops.FlushCache = Server
class_of ops.UploadMeta = Server
class_of (ops.CacheSize entries) = Server
class_of ops.Leave = Closing
class_of ops.Unmount = Server

-- planned by the part for inodes and handles
abbrev pub is_of_inodes : Class → Bool
is_of_inodes Inodes = true
is_of_inodes Opening = true
is_of_inodes Closing = true
is_of_inodes Entries = false
is_of_inodes Bytes = false
is_of_inodes Trees = false
is_of_inodes Server = false

-- planned by the part for entries
abbrev pub is_of_entries : Class → Bool
is_of_entries Entries = true
is_of_entries Inodes = false
is_of_entries Opening = false
is_of_entries Closing = false
is_of_entries Bytes = false
is_of_entries Trees = false
is_of_entries Server = false

abbrev pub is_closing : Class → Bool
is_closing Closing = true
is_closing Inodes = false
is_closing Opening = false
is_closing Entries = false
is_closing Bytes = false
is_closing Trees = false
is_closing Server = false

-- ---- what a call takes, where no check fails

-- It changes no row of the tables that stand for the tree. A Release or a Leave changes rows where a file goes with its last handle,
-- a Rename to the entry that it renames none.
abbrev pub keeps_rows : Tree → ℕ → Op → Bool
keeps_rows t pass (ops.Open inode) = true
keeps_rows t pass (ops.Release handle) = lives (without_handle handle t) (inode_of (handle_of t pass handle))
keeps_rows t pass (ops.Write handle offset bytes) = length bytes == 0
keeps_rows t pass (ops.Rename parent name new_parent new_name) = is_same (entry_at t new_parent new_name) (entry_at t parent name)
keeps_rows t pass ops.Leave = list_all (λ e. lives (record t { handles = filter (λ h. not (h.1.pass == pass)) t.handles }) e.0) t.nodes
keeps_rows t pass op = only_reads op

-- The name that is used once more. Renaming an entry to its own bytes, or over an entry that is there, uses none more, and neither does
-- setting an attribute that is there. A copy of a tree uses each name in it again, and is not said here.
abbrev pub name_used : Tree → Op → Option (List ℕ)
name_used t (ops.Mkdir parent name mode uid gid) = Some name
name_used t (ops.Create parent name mode uid gid) = Some name
name_used t (ops.Link inode parent name) = Some name
name_used t (ops.Symlink parent name target uid gid) = Some name
name_used t (ops.Rename parent name new_parent new_name) =
    if is_some (entry_at t new_parent new_name) || pointwise nat_eq name new_name then None else Some new_name
name_used t (ops.Setxattr inode name flag value) = if is_some (attribute_at t inode name) then None else Some name
name_used t _ = None

-- the inode whose count of links would rise: it is there already, and gets one entry more
abbrev pub inode_linked : Op → Option ℕ
inode_linked (ops.Link inode parent name) = Some inode
inode_linked _ = None

-- how many new names it makes at most, and how many more uses of names
abbrev pub names_drawn : Tree → Op → ℕ
names_drawn t op = if is_some (name_used t op) then 1 else 0
