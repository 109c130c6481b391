-- The checks of the operations. Each fails with the error number of POSIX `errno.h`, or not.
use Rattle.std.specs.Prelude.{ℕ, ◌+◌, ◌*◌, ◌^◌, ◌==◌, List, [], ◌∷◌, length, Bool, not, ◌&&◌, ◌||◌, nat_lt, nat_le, nat_eq, Option, None, Some, is_some, if◌then◌else◌}
use Rattle.std.specs.List.{list_any}
use Rattle.std.specs.Cmp.Lexicographic.{pointwise}
use Rattle.s3_base.specs.Errors.{eperm, enoent, e2big, ebadf, eexist, enotdir, eisdir, einval, efbig, enospc, enametoolong, enotempty, enodata}
use Rattle.s3_base.specs.Names.{is_forbidden_name}
use Rattle.op_frames.specs.declared.operation.SetFlag.{SetFlag}
use Rattle.op_frames.specs.declared.operation.SetFlag.TheVariants as flags
use Rattle.s3_base.specs.Numbers.{root}
use Rattle.plain_tree.specs.Tree.{Regular, Directory, Link, Node, Tree, lost_and_found, entry_of}
use Rattle.plain_tree.specs.Entries.{entries_of, is_directory}

-- fails with this error where the test is true
abbrev pub fails_with : ℕ → Bool → Option ℕ
fails_with errno test = if test then Some errno else None

-- the first check that fails
abbrev pub first_failure : List (Option ℕ) → Option ℕ
first_failure [] = None
first_failure (None ∷ checks) = first_failure checks
first_failure (Some errno ∷ checks) = Some errno

-- ENAMETOOLONG, EINVAL
abbrev pub name_check : List ℕ → Option ℕ
name_check name = if nat_lt 255 (length name) then Some enametoolong else fails_with einval (is_forbidden_name name)

-- EINVAL where a mode has other bits than the twelve of permissions
abbrev pub mode_check : ℕ → Option ℕ
mode_check mode = fails_with einval (nat_lt 4095 mode)

-- ENOENT where there is no such node
abbrev pub node_check : Option Node → Option ℕ
node_check None = Some enoent
node_check (Some node) = None

-- ENOTDIR
abbrev pub directory_check : Option Node → Option ℕ
directory_check None = None
directory_check (Some node) = elim node.content [ Directory entries ↦ None | Regular bytes ↦ Some enotdir | Link target ↦ Some enotdir ]

-- EPERM where the node is locked
abbrev pub lock_check : Option Node → Option ℕ
lock_check None = None
lock_check (Some node) = fails_with eperm node.locked

-- EEXIST where the directory has an entry of this name
abbrev pub free_check : Option Node → List ℕ → Option ℕ
free_check None name = None
free_check (Some node) name = fails_with eexist (is_some (entry_of node.content name))

-- ENOSPC where there are not so many inode numbers left
abbrev pub ids_check : Tree → ℕ → Option ℕ
ids_check t count = fails_with enospc (nat_lt (2 ^ 62) (t.next_inode + count))

-- ENOSPC where no handle number is left
abbrev pub hand_check : Tree → Option ℕ
hand_check t = fails_with enospc (nat_le (2 ^ 62) t.next_handle)

-- EBADF where it is no open handle of the pass; a handle names a regular file
abbrev pub open_check : Option (List ℕ) → Option ℕ
open_check None = Some ebadf
open_check (Some bytes) = None

-- EINVAL where more is asked for than one read gives
abbrev pub read_length_check : ℕ → Option ℕ
read_length_check count = fails_with einval (nat_lt 131072 count)

-- EFBIG where a write of some data ends past the longest file
abbrev pub write_end_check : ℕ → List ℕ → Option ℕ
write_end_check offset bytes = if length bytes == 0 then None else fails_with efbig (nat_lt (2 ^ 50) (offset + length bytes))

-- ---- the checks of the other operations

-- ENAMETOOLONG, EINVAL, for the name of an attribute
abbrev pub attribute_name_check : List ℕ → Option ℕ
attribute_name_check name = if nat_lt 255 (length name) then Some enametoolong else fails_with einval (length name == 0 || list_any (λ b. b == 0) name)

-- ENAMETOOLONG, EINVAL, for the target of a symbolic link
abbrev pub target_check : List ℕ → Option ℕ
target_check target = if nat_lt 4095 (length target) then Some enametoolong else fails_with einval (length target == 0 || list_any (λ b. b == 0) target)

-- EINVAL where a page of no entry is asked for, or of more than 256
abbrev pub page_check : ℕ → Option ℕ
page_check most = fails_with einval (most == 0 || nat_lt 256 most)

-- EINVAL where a time is not below 2^62
abbrev pub time_check : ℕ → Option ℕ
time_check time = fails_with einval (nat_le (2 ^ 62) time)

-- EISDIR, EINVAL where it is no regular file
abbrev pub file_check : Option Node → Option ℕ
file_check None = None
file_check (Some node) = elim node.content [ Regular bytes ↦ None | Directory entries ↦ Some eisdir | Link target ↦ Some einval ]

-- EINVAL where it is no symbolic link
abbrev pub link_check : Option Node → Option ℕ
link_check None = None
link_check (Some node) = elim node.content [ Link target ↦ None | Regular bytes ↦ Some einval | Directory entries ↦ Some einval ]

-- fails with this error where it is a directory
abbrev pub no_directory_check : ℕ → Option Node → Option ℕ
no_directory_check errno None = None
no_directory_check errno (Some node) = fails_with errno (is_directory node.content)

-- ENOTEMPTY where it is a directory with entries
abbrev pub empty_check : Option Node → Option ℕ
empty_check None = None
empty_check (Some node) = fails_with enotempty (nat_lt 0 (length (entries_of node.content)))

-- EPERM for the entry lost+found of the root
abbrev pub keep_check : ℕ → List ℕ → Option ℕ
keep_check parent name = fails_with eperm (parent == root && pointwise nat_eq name lost_and_found)

-- EPERM for the root
abbrev pub root_check : ℕ → Option ℕ
root_check inode = fails_with eperm (inode == root)

-- ENOENT where the directory has no entry of this name
abbrev pub entry_check : Option ℕ → Option ℕ
entry_check None = Some enoent
entry_check (Some inode) = None

-- EFBIG where a file would be longer than the longest
abbrev pub size_check : ℕ → Option ℕ
size_check size = fails_with efbig (nat_lt (2 ^ 50) size)

-- E2BIG where the value of an attribute is longer than 65,536 bytes
abbrev pub value_check : List ℕ → Option ℕ
value_check value = fails_with e2big (nat_lt 65536 (length value))

-- EEXIST for a new attribute that is there, ENODATA for an old one that is not
abbrev pub flag_check : SetFlag → Bool → Option ℕ
flag_check flags.Any present = None
flag_check flags.New present = fails_with eexist present
flag_check flags.Old present = fails_with enodata (not present)

-- ENODATA where the node has no such attribute
abbrev pub attribute_check : Option (List ℕ) → Option ℕ
attribute_check None = Some enodata
attribute_check (Some value) = None

-- EINVAL for a number of cache entries outside 64 to 4,096, or that take more than 2^32 bytes
abbrev pub cache_check : Tree → ℕ → Option ℕ
cache_check t entries = fails_with einval (nat_lt entries 64 || nat_lt 4096 entries || nat_lt (2 ^ 32) (entries * t.block_size))
