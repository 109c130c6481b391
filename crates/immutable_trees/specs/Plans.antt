-- The operations of this crate.
use Rattle.std.specs.Prelude.{Bool, true, false}
use Rattle.op_frames.specs.declared.operation.Op.{Op}
use Rattle.op_frames.specs.declared.operation.Op.TheVariants as ops

-- the operations that this crate plans
abbrev pub is_planned : Op → Bool
is_planned (ops.LockTree inode) = true
is_planned (ops.RemoveTree parent name) = true
is_planned _ = false
