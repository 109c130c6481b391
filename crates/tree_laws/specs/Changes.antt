-- What a call leaves as it was.
use Rattle.std.specs.Prelude.{◌≡◌, ◌≢◌, ℕ, Option, None, Some}
use Rattle.op_frames.specs.declared.operation.Op.{Op}
use Rattle.op_frames.specs.declared.operation.Op.TheVariants as ops
use Rattle.plain_tree.specs.Tree.{Tree, node_at}

-- one node is changed at most: every other one, and so every entry in another directory, every handle and every number is
-- as before
pub record ChangesOneNode (inode : ℕ) (t after : Tree) : Type 0 where
  pub others : (x : ℕ) → x ≢ inode → node_at after x ≡ node_at t x
  pub handles : after.handles ≡ t.handles
  pub next_inode : after.next_inode ≡ t.next_inode
  pub next_handle : after.next_handle ≡ t.next_handle
  pub block_size : after.block_size ≡ t.block_size

-- the node that an operation on one node alone would change
abbrev pub node_changed : Op → Option ℕ
node_changed (ops.Chmod inode mode) = Some inode
node_changed (ops.Chown inode uid gid) = Some inode
node_changed (ops.Utimes inode mtime) = Some inode
node_changed (ops.Truncate inode size) = Some inode
node_changed (ops.Setxattr inode name flag value) = Some inode
node_changed (ops.Removexattr inode name) = Some inode
node_changed op = None
