-- Plans of attributes that are set.
use Rattle.std.specs.Prelude.{◌≡◌, ℕ, List, [], Option, None, Some}
use Rattle.op_frames.specs.declared.reply.Reply.TheVariants as replies
use Rattle.s3_rows.specs.Rows.{Inode, Attr}
use Rattle.ref_counts.specs.Names.{Raised}
use Rattle.ref_counts.specs.declared.plan.Plan.{Plan}
use Rattle.ref_counts.specs.declared.plan.Plan.TheVariants as plans
use Rattle.row_steps.specs.RowChanges.{adding_attr, setting_attr}

-- a new attribute, where its name may be used once more
abbrev pub IsAdding : Option Raised → Inode → List ℕ → ℕ → Plan → Type 0
IsAdding None r value now p = p ≡ plans.Worn
IsAdding (Some more) r value now p = p ≡ plans.Commit (adding_attr r more value now) replies.Done []

-- another value of the attribute that was found, or a new one
abbrev pub IsSetting : Option Attr → Option Raised → Inode → List ℕ → ℕ → Plan → Type 0
IsSetting (Some a) used r value now p = p ≡ plans.Commit (setting_attr r a.name_id value now) replies.Done []
IsSetting None used r value now p = IsAdding used r value now p
