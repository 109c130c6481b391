-- The operations of this crate.
use Rattle.std.specs.Prelude.{Bool}
use Rattle.op_frames.specs.declared.operation.Op.{Op}
use Rattle.plain_tree.specs.Classes.{class_of, is_of_inodes}

-- the operations that this crate plans: those on inodes and handles
abbrev pub is_planned : Op → Bool
is_planned op = is_of_inodes (class_of op)
