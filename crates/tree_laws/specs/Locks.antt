-- What a lock keeps from being done.
use Rattle.std.specs.Prelude.{◌≡◌, ◌⊎◌, ℕ, Option, None, Some}
use Rattle.op_frames.specs.declared.operation.Op.{Op}
use Rattle.op_frames.specs.declared.operation.Op.TheVariants as ops
use Rattle.plain_tree.specs.Tree.{Node, Handle, Tree, handle_of, stamped}
use Rattle.plain_tree.specs.Entries.{entry_at}

-- the operation would change the node, the entries in it, or the entry that names it; LockTree changes no more than locks
abbrev pub WouldChange : Tree → ℕ → ℕ → Op → Type 0
WouldChange t pass inode (ops.Chmod changed mode) = changed ≡ inode
WouldChange t pass inode (ops.Chown changed uid gid) = changed ≡ inode
WouldChange t pass inode (ops.Utimes changed mtime) = changed ≡ inode
WouldChange t pass inode (ops.Truncate changed size) = changed ≡ inode
WouldChange t pass inode (ops.Write handle offset bytes) = (opened : Handle) × (handle_of t pass handle ≡ Some opened) × (opened.inode ≡ inode)
WouldChange t pass inode (ops.Setxattr changed name flag value) = changed ≡ inode
WouldChange t pass inode (ops.Removexattr changed name) = changed ≡ inode
WouldChange t pass inode (ops.Mkdir parent name mode uid gid) = parent ≡ inode
WouldChange t pass inode (ops.Create parent name mode uid gid) = parent ≡ inode
WouldChange t pass inode (ops.Symlink parent name target uid gid) = parent ≡ inode
WouldChange t pass inode (ops.CopyTree source parent name) = parent ≡ inode
WouldChange t pass inode (ops.RemoveTree parent name) = parent ≡ inode
WouldChange t pass inode (ops.Link named parent name) = (named ≡ inode) ⊎ (parent ≡ inode)
WouldChange t pass inode (ops.Unlink parent name) = (parent ≡ inode) ⊎ (entry_at t parent name ≡ Some inode)
WouldChange t pass inode (ops.Rmdir parent name) = (parent ≡ inode) ⊎ (entry_at t parent name ≡ Some inode)
WouldChange t pass inode (ops.Rename parent name new_parent new_name) =
    (parent ≡ inode) ⊎ ((new_parent ≡ inode) ⊎ ((entry_at t parent name ≡ Some inode) ⊎ (entry_at t new_parent new_name ≡ Some inode)))
WouldChange t pass inode op = ⊥

-- the node is gone, or as it was but for ctime
abbrev pub IsKept : Option Node → Node → Type 0
IsKept found node = (found ≡ None) ⊎ ((time : ℕ) × (found ≡ Some (stamped time node)))
