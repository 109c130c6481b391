use Rattle.std.proofs.Common.{◌≡◌, ℕ, true, refl}
use Rattle.op_frames.specs.declared.operation.Op.{Op}
use Rattle.op_frames.specs.declared.operation.Op.TheVariants as ops
use Rattle.plain_tree.specs.Operations.{effect, only_reads}
use Rattle.plain_tree.specs.Tree.{Tree}
use Rattle.plain_tree.proofs.Replies.{same_after}
use Rattle.plain_tree.proofs.laws.reading_changes_nothing.Goals as goal

-- the effect of what only reads
effect-only_reads : (t : Tree) (pass now : ℕ) (op : Op) → only_reads op ≡ true → effect t pass op now ≡ t
effect-only_reads t pass now (ops.Lookup parent name) reads = refl
effect-only_reads t pass now (ops.Getattr inode) reads = refl
effect-only_reads t pass now (ops.Readlink inode) reads = refl
effect-only_reads t pass now (ops.Read handle offset count) reads = refl
effect-only_reads t pass now (ops.Fsync handle) reads = refl
effect-only_reads t pass now (ops.Readdir inode after most) reads = refl
effect-only_reads t pass now ops.Statfs reads = refl
effect-only_reads t pass now (ops.Getxattr inode name) reads = refl
effect-only_reads t pass now (ops.Listxattr inode after most) reads = refl
effect-only_reads t pass now ops.FlushCache reads = refl
effect-only_reads t pass now ops.UploadMeta reads = refl
effect-only_reads t pass now (ops.CacheSize entries) reads = refl
effect-only_reads t pass now ops.Unmount reads = refl
effect-only_reads t pass now op reads = absurd (cc reads)

pub returns : goal.returns
returns c = λ t pass now op reads. same_after t pass now op _ refl (effect-only_reads t pass now op reads)
