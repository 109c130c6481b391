-- Plans made of what checks have answered.
use Rattle.std.specs.Prelude.{◌≡◌, ◌^◌, ◌<◌, [], ◌∷◌, Option, Some, Result, Ok, Err}
use Rattle.s3_base.specs.declared.errors.Errno.{Errno}
use Rattle.op_frames.specs.declared.reply.Reply.TheVariants as replies
use Rattle.s3_rows.specs.declared.change.Change.TheVariants as changes
use Rattle.s3_rows.specs.Rows.{Inode}
use Rattle.tree_rows.specs.Attrs.{attr_of_row}
use Rattle.ref_counts.specs.declared.plan.Plan.{Plan}
use Rattle.ref_counts.specs.declared.plan.Plan.TheVariants as plans

-- the new row is put, and its attributes are the reply; or the error is the refusal
abbrev pub put_plan : Result Inode Errno → Plan
put_plan (Ok r) = plans.Commit (changes.PutInode r ∷ []) (replies.Attr (attr_of_row r)) []
put_plan (Err errno) = plans.Refuse errno

-- the new row is made of the one that was found
abbrev pub IsChangedRow : Option Inode → (Inode → Inode) → Inode → Type 0
IsChangedRow found change new = (r : Inode) × (found ≡ Some r) × (new ≡ change r) × (new.refcount < 2 ^ 62)
