-- How plans are carried out.
use Rattle.std.specs.Prelude.{◌≡◌, ◌⊎◌, ℕ, ◌^◌, Bool, true, ◌||◌, nat_le, Option, None, Some, Result, Ok, Err}
use Rattle.op_frames.specs.declared.operation.Op.{Op}
use Rattle.op_frames.specs.declared.operation.Op.TheVariants as ops
use Rattle.op_frames.specs.declared.reply.Reply.{Reply}
use Rattle.op_frames.specs.declared.reply.Reply.TheVariants as replies
use Rattle.s3_rows.specs.Told.{Told}
use Rattle.dir_ops.specs.Plans as dir_plans
use Rattle.immutable_trees.specs.Plans as tree_plans
use Rattle.inode_ops.specs.Plans as inode_plans
use Rattle.ref_counts.specs.Handles.{OpenHandles, opened, closed, closed_all}
use Rattle.ref_counts.specs.declared.plan.Plan.{Plan}
use Rattle.ref_counts.specs.declared.plan.Plan.TheVariants as plans
use Rattle.volume_core.specs.declared.refusal.Refusal.{Refusal}
use Rattle.volume_core.specs.declared.refusal.Refusal.TheVariants.{Refused, Worn, Keeper, Link, Lost, Memory}
use Rattle.volume_core.specs.Standing.{IsCommitted}

-- the operations that are carried out by their plans: those on inodes, handles and entries, and those that lock and remove trees
abbrev pub is_by_plan : Op → Bool
is_by_plan op = (inode_plans.is_planned op || dir_plans.is_planned op) || tree_plans.is_planned op

-- the inode that a reply says is opened
abbrev pub inode_opened : Reply → Option ℕ
inode_opened (replies.Opened handle attr) = Some attr.inode
inode_opened _ = None

-- the inode that is opened when the plan is carried out
abbrev pub inode_of_plan : Plan → Option ℕ
inode_of_plan (plans.Refuse errno) = None
inode_of_plan plans.Worn = None
inode_of_plan (plans.Commit batch reply drop) = inode_opened reply

-- a refusal that comes while a batch is committed
abbrev pub IsFault : Refusal → Type 0
IsFault (Refused errno) = ⊥
IsFault Worn = ⊥
IsFault Keeper = Unit {0}
IsFault Link = ⊥
IsFault (Lost object kept got) = ⊥
IsFault Memory = Unit {0}

-- what comes of a plan: its refusal, or its reply once its batch is committed; else nothing more is told
abbrev pub IsTaken : Plan → Option Told → Option Told → Result Reply Refusal → Type 0
IsTaken (plans.Refuse errno) before after result = (result ≡ Err (Refused errno)) × (after ≡ before)
IsTaken plans.Worn before after result = (result ≡ Err Worn) × (after ≡ before)
IsTaken (plans.Commit batch reply drop) before after (Ok given) = (given ≡ reply) × IsCommitted batch before after
IsTaken (plans.Commit batch reply drop) before after (Err refusal) = IsFault refusal × (after ≡ before)

-- with one more handle of the pass where the reply says so
abbrev pub opened_by : Option ℕ → ℕ → OpenHandles → OpenHandles
opened_by None pass h = h
opened_by (Some inode) pass h = opened (record { inode = inode; pass = pass }) h

-- without the handles that the operation closes
abbrev pub closed_by : ℕ → Op → OpenHandles → OpenHandles
closed_by pass (ops.Release handle) h = closed handle h
closed_by pass ops.Leave h = closed_all pass h
closed_by pass _ h = h

-- the plan opens a file, and no handle number is left
abbrev pub IsFull : Plan → OpenHandles → Type 0
IsFull plan h = (inode : ℕ) × (inode_of_plan plan ≡ Some inode) × (nat_le (2 ^ 62) h.next ≡ true)

-- the plan is taken, and its file opened; or no handle number is left, and nothing more is told
abbrev pub IsOpening : Plan → ℕ → Option Told → Option Told → OpenHandles → OpenHandles → Result Reply Refusal → Type 0
IsOpening plan pass before after h next (Ok reply) = IsTaken plan before after (Ok reply) × (next ≡ opened_by (inode_of_plan plan) pass h)
IsOpening plan pass before after h next (Err refusal) = (IsTaken plan before after (Err refusal) ⊎ (IsFull plan h × (refusal ≡ Refused (record { 0 = 28 })) × (after ≡ before))) × (next ≡ h)

-- the same, and the operation has closed its handles where the plan was taken
abbrev pub IsFulfilled : Plan → ℕ → Op → Option Told → Option Told → OpenHandles → OpenHandles → Result Reply Refusal → Type 0
IsFulfilled plan pass op before after h next (Ok reply) = IsTaken plan before after (Ok reply) × (next ≡ closed_by pass op (opened_by (inode_of_plan plan) pass h))
IsFulfilled plan pass op before after h next (Err refusal) = IsOpening plan pass before after h next (Err refusal)
