-- How a call of the core ends.
use Rattle.std.specs.Prelude.{◌≡◌, ℕ, List, length, Bool, true, false, not, Option, None, Some, Result, Ok, Err}
use Rattle.op_frames.specs.declared.operation.Op.{Op}
use Rattle.op_frames.specs.declared.operation.Op.TheVariants as ops
use Rattle.op_frames.specs.declared.reply.Reply.{Reply}
use Rattle.op_frames.specs.declared.reply.Reply.TheVariants as replies
use Rattle.plain_tree.specs.Tree.{Tree}
use Rattle.plain_tree.specs.Checks.{first_failure}
use Rattle.plain_tree.specs.Operations.{checks, effect, success}
use Rattle.plain_tree.specs.Classes.{keeps_rows, names_drawn}
use Rattle.tree_laws.specs.Files.{copies_files}
use Rattle.s3_rows.specs.Told.{Told, IfTold}
use Rattle.s3_devices.specs.Objects.{Objects}
use Rattle.file_ops.specs.declared.file_fault.FileFault.{FileFault}
use Rattle.file_ops.specs.declared.file_fault.FileFault.TheVariants as faults
use Rattle.volume_core.specs.declared.refusal.Refusal.{Refusal}
use Rattle.volume_core.specs.declared.refusal.Refusal.TheVariants.{Refused, Worn, Keeper, Link, Lost, Memory}
use Rattle.volume_core.specs.declared.row_core.RowCore.{RowCore}
use Rattle.volume_core.specs.Backed.{GoesOnBacked, StaysStored}
use Rattle.volume_core.specs.Causes.{AreWornRows, HasRoom, IsLossFor, LacksBlocks, writes_blocks}
use Rattle.volume_core.specs.Standing.{StandsFor, IsToldAfter, IsToldAlike}

-- the refusal by a fault of blocks
abbrev pub refusal_of : FileFault → Refusal
refusal_of faults.Keeper = Keeper
refusal_of faults.Link = Link
refusal_of (faults.Lost object kept got) = Lost object kept got
refusal_of faults.Worn = Worn
refusal_of faults.Memory = Memory

-- the keeper has failed
abbrev pub has_keeper_failed : {T : Type 0} → Result T Refusal → Bool
has_keeper_failed (Ok x) = false
has_keeper_failed (Err (Refused errno)) = false
has_keeper_failed (Err Worn) = false
has_keeper_failed (Err Keeper) = true
has_keeper_failed (Err Link) = false
has_keeper_failed (Err (Lost object kept got)) = false
has_keeper_failed (Err Memory) = false

-- the link has failed
abbrev pub has_link_failed : {T : Type 0} → Result T Refusal → Bool
has_link_failed (Ok x) = false
has_link_failed (Err (Refused errno)) = false
has_link_failed (Err Worn) = false
has_link_failed (Err Keeper) = false
has_link_failed (Err Link) = true
has_link_failed (Err (Lost object kept got)) = false
has_link_failed (Err Memory) = false

-- the same reply, but that a reply of bytes has as many bytes
abbrev pub HasLength : Reply → Reply → Type 0
HasLength (replies.Bytes bytes) given = (own : List ℕ) × (given ≡ replies.Bytes own) × (length own ≡ length bytes)
HasLength reply given = given ≡ reply

-- a reply like the tree's: the same, but of the bytes of a file as many
abbrev pub IsLike : Op → Reply → Reply → Type 0
IsLike (ops.Read handle offset count) reply given = HasLength reply given
IsLike _ reply given = given ≡ reply

module _ {K : Type 0} (told : K → Option Told) (before after : RowCore K) (digest_of : List ℕ → List ℕ) (objects later : Option Objects) (whole : Tree) where
  -- the core stands for a tree, what rows name is stored, and the bytes of the tree are there, with a fact of the reply
  pub record Stands (fact : Type 0) (next : Tree) : Type 0 where
    pub stands : StandsFor told after next
    pub stored : StaysStored digest_of (told before.keeper) (told after.keeper) objects later
    pub backed : GoesOnBacked digest_of fact (told before.keeper) (told after.keeper) objects later whole next

  -- as before: the same tree, and nothing more is told
  pub record IsStill : Type 0 where
    pub stays : Stands (Unit {0}) whole
    pub same : told after.keeper ≡ told before.keeper

  -- the same tree, and nothing more is told but that objects may have been drawn where blocks were to be written
  pub record IsAlike (op : Op) : Type 0 where
    pub stays : Stands (Unit {0}) whole
    pub alike : IsToldAlike (writes_blocks op) (told before.keeper) (told after.keeper)

  -- no check of the operation fails, no count or id that is needed is worn, of a name, an inode or a block, the reply is like that of
  -- the operation's success, and the very same where the bytes are there, and the core stands for the tree after it
  pub record IsDone (pass : ℕ) (op : Op) (now : ℕ) (reply : Reply) : Type 0 where
    pub passes : first_failure (checks whole pass op) ≡ None
    pub like : IsLike op (success whole pass op now) reply
    pub stays : Stands (reply ≡ success whole pass op now) (effect whole pass op now)
    pub tells : IsToldAfter (not (keeps_rows whole pass op)) (writes_blocks op) (copies_files op) (names_drawn whole op) (told before.keeper) (told after.keeper)
    pub unworn : IfTold (told before.keeper) (λ t. AreWornRows t whole op now) → ⊥
    pub room : HasRoom digest_of (told before.keeper) objects whole pass op now

  -- Refused: the first check that fails has this number. Worn and Lost: no check fails, and the cause is there. After each refusal
  -- the tree is as before.
  abbrev pub IsOutcome : ℕ → Op → ℕ → Result Reply Refusal → Type 0
  IsOutcome pass op now (Ok reply) = IsDone pass op now reply
  IsOutcome pass op now (Err (Refused errno)) = (first_failure (checks whole pass op) ≡ Some errno.0) × IsStill
  IsOutcome pass op now (Err Worn) = (first_failure (checks whole pass op) ≡ None) × LacksBlocks digest_of (told before.keeper) objects whole pass op now × IsAlike op
  IsOutcome pass op now (Err (Lost object kept got)) = (first_failure (checks whole pass op) ≡ None) × IsLossFor digest_of (told before.keeper) objects whole pass op object kept got × IsAlike op
  IsOutcome pass op now (Err Keeper) = IsAlike op
  IsOutcome pass op now (Err Link) = IsAlike op
  IsOutcome pass op now (Err Memory) = IsAlike op
