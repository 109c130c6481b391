-- The operations of this crate, and the form of their plans.
use Rattle.std.specs.Prelude.{List, [], Bool, Option, None, Some}
use Rattle.op_frames.specs.declared.operation.Op.{Op}
use Rattle.op_frames.specs.declared.reply.Reply.{Reply}
use Rattle.plain_tree.specs.Classes.{class_of, is_of_entries}
use Rattle.s3_rows.specs.declared.change.Change.{Change}
use Rattle.ref_counts.specs.declared.plan.Plan.{Plan}
use Rattle.ref_counts.specs.declared.plan.Plan.TheVariants as plans

-- the operations that this crate plans: those on entries
abbrev pub is_planned : Op → Bool
is_planned op = is_of_entries (class_of op)

-- the batch is committed, with this reply; where there is none, a name is worn
abbrev pub entry_plan : Option (List Change) → Reply → Plan
entry_plan None reply = plans.Worn
entry_plan (Some batch) reply = plans.Commit batch reply []
