-- Plans that change no row, made of what checks have answered.
use Rattle.std.specs.Prelude.{◌≡◌, ◌^◌, ◌<◌, [], Option, Some, Result, Ok, Err}
use Rattle.s3_base.specs.declared.errors.Errno.{Errno}
use Rattle.op_frames.specs.declared.reply.Reply.{Reply}
use Rattle.s3_rows.specs.Rows.{Inode}
use Rattle.ref_counts.specs.declared.plan.Plan.{Plan}
use Rattle.ref_counts.specs.declared.plan.Plan.TheVariants as plans

-- no row is changed, and this is the reply; or the error is the refusal
abbrev pub answer_plan : Result Reply Errno → Plan
answer_plan (Ok reply) = plans.Commit [] reply []
answer_plan (Err errno) = plans.Refuse errno

-- the reply is made of the row that was found
abbrev pub IsReplyOf : Option Inode → (Inode → Reply) → Reply → Type 0
IsReplyOf found make reply = (r : Inode) × (found ≡ Some r) × (reply ≡ make r) × (r.refcount < 2 ^ 62)
