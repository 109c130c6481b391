-- What worn counts say of the tree, as the calls that state it give it.
use Rattle.std.specs.Prelude.{◌≡◌, ◌<◌, ◌≤◌, ◌+◌, ◌^◌, ◌⊎◌, ℕ, List, [], ◌∷◌, length, Option, None}
use Rattle.op_frames.specs.declared.operation.Op.{Op}
use Rattle.op_frames.specs.declared.operation.Op.TheVariants as ops
use Rattle.plain_tree.specs.Checks.{first_failure}
use Rattle.plain_tree.specs.Operations.{checks, effect, tree_after}
use Rattle.plain_tree.specs.Tree.{Tree}
use Rattle.plain_tree.specs.WellFormed.{IsWellFormed}
use Rattle.tree_laws.specs.Growth.{HaveFewNames}
use Rattle.s3_rows.specs.declared.change.Change.{Change}
use Rattle.s3_rows.specs.declared.change.Change.TheVariants as changes
use Rattle.s3_rows.specs.Rows.{Inode}
use Rattle.s3_rows.specs.Tables.{Tables}
use Rattle.s3_rows.specs.Validity.{HasUniqueNames, IsValid}
use Rattle.s3_devices.specs.Objects.{Objects}
use Rattle.tree_rows.specs.Shapes.{Represents}
use Rattle.block_steps.specs.Owed.{next_block_of}
use Rattle.core_model.specs.Bytes.{no_overlay}
use Rattle.core_model.specs.Exact.{IsExact}
use Rattle.core_model.specs.Occurring.{IsCollisionFree, blocks_in}
use Rattle.file_ops.specs.FileChanges.{AreWorn, next_object_of}
use Rattle.ref_counts.specs.Plans.{IsWorn, next_name_of}
use Rattle.tree_copy.specs.CopyPlans.{IsCopyWorn}
use Rattle.tree_limits.specs.Full.{GetsFullBlock, GetsFullName, HasFullBlock, IsNameFull}

-- of the blocks that are written
abbrev pub BlockLimits : Type 0
BlockLimits =
    (digest_of : List ℕ → List ℕ) (t : Tables) (objects : Option Objects) (whole : Tree) (r : Inode) (block_size : ℕ) (new : List ℕ → List ℕ) (changed : List ℕ) (batch : List Change)
    → IsValid t → Represents t whole → IsExact digest_of t no_overlay whole → IsCollisionFree digest_of (blocks_in whole)
    → (batch ≡ []) ⊎ ((row : Inode) × (batch ≡ changes.PutInode row ∷ [])) → length changed ≤ 34 → next_block_of t ≤ 2 ^ 60 → next_object_of t ≤ 2 ^ 60
    → AreWorn digest_of t objects r block_size new changed batch → HasFullBlock whole

-- of names, copies and blocks, and how often an inode is named
pub record LimitLaws : Type 0 where
  pub names : (t : Tables) (whole : Tree) (op : Op) (most : ℕ) → IsValid t → HasUniqueNames t → Represents t whole → IsWellFormed whole
      → HaveFewNames most whole → most + 1 < 2 ^ 62 → next_name_of t < 2 ^ 62 → IsWorn t whole op → IsNameFull whole op
  pub copies : (digest_of : List ℕ → List ℕ) (t : Tables) (whole : Tree) (pass source parent now : ℕ) (name : List ℕ) → IsValid t → HasUniqueNames t → Represents t whole → IsWellFormed whole
      → IsExact digest_of t no_overlay whole → IsCollisionFree digest_of (blocks_in whole) → next_name_of t < 2 ^ 62
      → first_failure (checks whole pass (ops.CopyTree source parent name)) ≡ None → IsCopyWorn t whole source parent now name
      → GetsFullName whole (effect whole pass (ops.CopyTree source parent name) now) ⊎ GetsFullBlock whole (effect whole pass (ops.CopyTree source parent name) now)
  pub blocks : BlockLimits
  pub growth : (t : Tree) (pass now most : ℕ) (op : Op) → IsWellFormed t → HaveFewNames most t → HaveFewNames (most + 1) (tree_after t pass op now)
