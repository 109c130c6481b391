use Rattle.std.proofs.Common.{◌≡◌, refl, sym, subst, IsTrue}
use Rattle.sha2.specs.Sha256.{sha256}
use Rattle.op_frames.specs.declared.operation.Op.{Op}
use Rattle.op_frames.specs.declared.operation.Op.TheVariants as ops
use Rattle.core_rules.specs.Built.{is_built}
use Rattle.volume_core.specs.Refusals.{IsOutcome}
use Rattle.volume_core.proofs.Effects.{short_write}
use Rattle.volume_core.proofs.row_core.RowCore.carry_out.Goals as goal

pub write-requires-clause-short : goal.write-requires-clause-short
write-requires-clause-short g c = short_write c.in-Write.handle c.in-Write.offset c.in-Write.bytes (rw c.in-Write.is at c.requires.op)

pub returns-in-Truncate-clause-built : goal.returns-in-Truncate-clause-built
returns-in-Truncate-clause-built g c built whole s =
    subst (λ (op : Op). IsOutcome g.K.Keeper.told c.args.self.now c.truncate.new.self sha256 (g.L.Link.told c.args.link.now) (g.L.Link.told c.truncate.new.link) whole c.args.pass op c.args.now c.truncate.result) (sym c.in-Truncate.is)
    (c.truncate.ensures.outcome whole c.args.pass s)

pub returns-in-Read-clause-built : goal.returns-in-Read-clause-built
returns-in-Read-clause-built g c built whole s =
    subst (λ (op : Op). IsOutcome g.K.Keeper.told c.args.self.now c.read.new.self sha256 (g.L.Link.told c.args.link.now) (g.L.Link.told c.read.new.link) whole c.args.pass op c.args.now c.read.result) (sym c.in-Read.is)
    (c.read.ensures.outcome whole c.args.now s)

pub returns-in-Fsync-clause-built : goal.returns-in-Fsync-clause-built
returns-in-Fsync-clause-built g c built whole s =
    subst (λ (op : Op). IsOutcome g.K.Keeper.told c.args.self.now c.fsync.new.self sha256 (g.L.Link.told c.args.link.now) (g.L.Link.told c.args.link.now) whole c.args.pass op c.args.now c.fsync.result) (sym c.in-Fsync.is)
    (c.fsync.ensures.outcome whole c.args.now (g.L.Link.told c.args.link.now) s)

pub returns-in-CopyTree-clause-built : goal.returns-in-CopyTree-clause-built
returns-in-CopyTree-clause-built g c built whole s =
    subst (λ (op : Op). IsOutcome g.K.Keeper.told c.args.self.now c.copy_tree.new.self sha256 (g.L.Link.told c.args.link.now) (g.L.Link.told c.args.link.now) whole c.args.pass op c.args.now c.copy_tree.result) (sym c.in-CopyTree.is)
    (c.copy_tree.ensures.outcome whole c.args.pass (g.L.Link.told c.args.link.now) s)

pub returns-in-Lookup-clause-built : goal.returns-in-Lookup-clause-built
returns-in-Lookup-clause-built g c built whole s = c.on_entries.ensures.outcome whole (g.L.Link.told c.args.link.now) s

pub returns-in-Getattr-clause-built : goal.returns-in-Getattr-clause-built
returns-in-Getattr-clause-built g c built whole s = c.on_inodes.ensures.outcome whole (g.L.Link.told c.args.link.now) s

pub returns-in-LockTree-clause-built : goal.returns-in-LockTree-clause-built
returns-in-LockTree-clause-built g c built whole s = c.on_trees.ensures.outcome whole (g.L.Link.told c.args.link.now) s

-- every operation that is built has an arm
pub returns-in_default-clause-built : goal.returns-in_default-clause-built
returns-in_default-clause-built g c built whole s = absurd (has_arm c.args.op.now refl built)
  where
    has_arm : (op : Op) → c.args.op.now ≡ op → IsTrue (is_built op) → ⊥
    has_arm (ops.Lookup parent name) is own = c.in_default.not-Lookup parent name is
    has_arm (ops.Getattr inode) is own = c.in_default.not-Getattr inode is
    has_arm (ops.Chmod inode mode) is own = c.in_default.not-Chmod inode mode is
    has_arm (ops.Chown inode uid gid) is own = c.in_default.not-Chown inode uid gid is
    has_arm (ops.Utimes inode mtime) is own = c.in_default.not-Utimes inode mtime is
    has_arm (ops.Truncate inode size) is own = c.in_default.not-Truncate inode size is
    has_arm (ops.Mkdir parent name mode uid gid) is own = c.in_default.not-Mkdir parent name mode uid gid is
    has_arm (ops.Create parent name mode uid gid) is own = c.in_default.not-Create parent name mode uid gid is
    has_arm (ops.Unlink parent name) is own = c.in_default.not-Unlink parent name is
    has_arm (ops.Rmdir parent name) is own = c.in_default.not-Rmdir parent name is
    has_arm (ops.Rename parent name new_parent new_name) is own = c.in_default.not-Rename parent name new_parent new_name is
    has_arm (ops.Link inode parent name) is own = c.in_default.not-Link inode parent name is
    has_arm (ops.Symlink parent name target uid gid) is own = c.in_default.not-Symlink parent name target uid gid is
    has_arm (ops.Readlink inode) is own = c.in_default.not-Readlink inode is
    has_arm (ops.Open inode) is own = c.in_default.not-Open inode is
    has_arm (ops.Release handle) is own = c.in_default.not-Release handle is
    has_arm (ops.Read handle offset count) is own = c.in_default.not-Read handle offset count is
    has_arm (ops.Write handle offset bytes) is own = c.in_default.not-Write handle offset bytes is
    has_arm (ops.Fsync handle) is own = c.in_default.not-Fsync handle is
    has_arm (ops.Readdir inode after most) is own = c.in_default.not-Readdir inode after most is
    has_arm ops.Statfs is own = c.in_default.not-Statfs is
    has_arm (ops.Setxattr inode name flag value) is own = c.in_default.not-Setxattr inode name flag value is
    has_arm (ops.Getxattr inode name) is own = c.in_default.not-Getxattr inode name is
    has_arm (ops.Listxattr inode after most) is own = c.in_default.not-Listxattr inode after most is
    has_arm (ops.Removexattr inode name) is own = c.in_default.not-Removexattr inode name is
    has_arm (ops.CopyTree source parent name) is own = c.in_default.not-CopyTree source parent name is
    has_arm (ops.LockTree inode) is own = c.in_default.not-LockTree inode is
    has_arm (ops.RemoveTree parent name) is own = c.in_default.not-RemoveTree parent name is
    has_arm ops.Leave is own = c.in_default.not-Leave is
    has_arm _ is own = cc own
