-- The checks on a node, made of its row. Each says of the row what the tree's check says of the node.
use Rattle.std.specs.Prelude.{ℕ, ◌+◌, ◌^◌, ◌==◌, ◌||◌, not, nat_lt, Option, None, Some}
use Rattle.s3_base.specs.Errors.{enoent, ebadf, enotdir, eisdir, einval, eperm, enospc}
use Rattle.s3_base.specs.Numbers.{root}
use Rattle.s3_base.specs.declared.node_kind.Kind.TheVariants as kinds
use Rattle.plain_tree.specs.Checks.{fails_with}
use Rattle.s3_rows.specs.Rows.{Inode, Parameters}
use Rattle.s3_rows.specs.Validity.{is_directory, is_regular, is_link}

-- ENOENT where there is no row
abbrev pub row_check : Option Inode → Option ℕ
row_check None = Some enoent
row_check (Some r) = None

-- ENOTDIR
abbrev pub directory_row_check : Option Inode → Option ℕ
directory_row_check None = None
directory_row_check (Some r) = fails_with enotdir (not (is_directory r.kind))

-- EISDIR, EINVAL where it is no regular file
abbrev pub file_row_check : Option Inode → Option ℕ
file_row_check None = None
file_row_check (Some r) = elim r.kind [ kinds.Regular ↦ None | kinds.Directory ↦ Some eisdir | kinds.Link ↦ Some einval ]

-- EINVAL where it is no symbolic link
abbrev pub link_row_check : Option Inode → Option ℕ
link_row_check None = None
link_row_check (Some r) = fails_with einval (not (is_link r.kind))

-- fails with this error where it is a directory
abbrev pub no_directory_row_check : ℕ → Option Inode → Option ℕ
no_directory_row_check errno None = None
no_directory_row_check errno (Some r) = fails_with errno (is_directory r.kind)

-- EPERM where it is locked
abbrev pub lock_row_check : Option Inode → Option ℕ
lock_row_check None = None
lock_row_check (Some r) = fails_with eperm r.locked

-- ENOENT where no entry names it: it is the root, or counts none
abbrev pub named_row_check : Option Inode → Option ℕ
named_row_check None = Some enoent
named_row_check (Some r) = fails_with enoent (r.id == root || r.refcount == 0)

-- EBADF where the inode of an open handle is no regular file
abbrev pub open_row_check : Option Inode → Option ℕ
open_row_check None = Some ebadf
open_row_check (Some r) = fails_with ebadf (not (is_regular r.kind))

-- ENOSPC where there are not so many inode numbers left
abbrev pub ids_row_check : Parameters → ℕ → Option ℕ
ids_row_check p count = fails_with enospc (nat_lt (2 ^ 62) (p.next_inode + count))
