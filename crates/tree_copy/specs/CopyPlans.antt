-- When the plan of a CopyTree is right.
use Rattle.std.specs.Prelude.{◌≡◌, ◌≤◌, ℕ, ◌+◌, ◌==◌, List, [], ◌∷◌, length, false, Option, None, Some}
use Rattle.s3_base.specs.Errors.{einval}
use Rattle.op_frames.specs.declared.operation.Op.TheVariants as ops
use Rattle.plain_tree.specs.Below.{is_at_or_below}
use Rattle.plain_tree.specs.Checks.{directory_check, fails_with, first_failure, free_check, lock_check, name_check, node_check}
use Rattle.plain_tree.specs.Operations.{checks, effect, success}
use Rattle.plain_tree.specs.Tree.{Tree, node_at}
use Rattle.plain_tree.specs.WellFormed.{IsWellFormed}
use Rattle.s3_rows.specs.Batches.{tables_after}
use Rattle.s3_rows.specs.Rows.{Inode, Parameters}
use Rattle.s3_rows.specs.Selections.{inode_at}
use Rattle.s3_rows.specs.Tables.{Tables}
use Rattle.s3_rows.specs.Validity.{HasUniqueNames, IsValid}
use Rattle.tree_rows.specs.Shapes.{Represents}
use Rattle.ref_counts.specs.Plans.{next_name_of}
use Rattle.ref_counts.specs.declared.plan.Plan.{Plan}
use Rattle.ref_counts.specs.declared.plan.Plan.TheVariants as plans
use Rattle.tree_copy.specs.CopiedRows.{Visit}
use Rattle.tree_copy.specs.CopySteps.{IsCopyStep, tree_fits}
use Rattle.tree_copy.specs.CopyWalks.{AreWalked}

-- the checks of a CopyTree in their order, but for that of the numbers
abbrev pub copy_checks : Tree → ℕ → ℕ → List ℕ → List (Option ℕ)
copy_checks t source parent name =
    name_check name ∷ node_check (node_at t source) ∷ directory_check (node_at t source) ∷ node_check (node_at t parent) ∷ directory_check (node_at t parent)
    ∷ fails_with einval (is_at_or_below t source parent) ∷ lock_check (node_at t parent) ∷ free_check (node_at t parent) name ∷ []

-- Valid tables of a well-formed tree where no such check fails, with the rows of both directories and the parameters.
pub record IsCopyable (told : Tables) (whole : Tree) (source parent : ℕ) (name : List ℕ) (top directory : Inode) (p : Parameters) : Type 0 where
  pub valid : IsValid told
  pub unique : HasUniqueNames told
  pub same : Represents told whole
  pub well : IsWellFormed whole
  pub passes : first_failure (copy_checks whole source parent name) ≡ None
  pub source_found : inode_at told source ≡ Some top
  pub parent_found : inode_at told parent ≡ Some directory
  pub made : told.params ≡ Some p

-- The same before the parameters are read, and before the checks of what the directory has.
pub record MayHave (told : Tables) (whole : Tree) (source parent : ℕ) (name : List ℕ) (top directory : Inode) : Type 0 where
  pub valid : IsValid told
  pub unique : HasUniqueNames told
  pub same : Represents told whole
  pub well : IsWellFormed whole
  pub passes : first_failure (copy_checks whole source parent name) ≡ None
  pub source_found : inode_at told source ≡ Some top
  pub parent_found : inode_at told parent ≡ Some directory

pub record FindsBoth (told : Tables) (whole : Tree) (source parent : ℕ) (name : List ℕ) (top directory : Inode) : Type 0 where
  pub valid : IsValid told
  pub unique : HasUniqueNames told
  pub same : Represents told whole
  pub well : IsWellFormed whole
  pub passes : first_failure (name_check name ∷ node_check (node_at whole source) ∷ directory_check (node_at whole source) ∷ node_check (node_at whole parent) ∷ directory_check (node_at whole parent) ∷ []) ≡ None
  pub source_found : inode_at told source ≡ Some top
  pub parent_found : inode_at told parent ≡ Some directory

-- A count of a name or of a block, or the id of a name, would not be below 2^62 in the course of the copy, whose entries are visited in the
-- order of the walk.
pub record IsCopyWorn (t : Tables) (whole : Tree) (source parent now : ℕ) (name : List ℕ) : Type 0 where
  pub top : Inode
  pub directory : Inode
  pub visits : List Visit
  pub source_found : inode_at t source ≡ Some top
  pub parent_found : inode_at t parent ≡ Some directory
  pub walked : AreWalked t whole.next_inode top.id visits
  pub worn : tree_fits t whole.next_inode now top directory name visits ≡ false

-- A refusal is that of the first check that fails. Where none fails, a count or an id is worn, or the reply is the tree's, and the batch
-- makes of the tables valid ones of the tree with the copy. At most one name is drawn.
abbrev pub IsCopyPlan : Tables → Tree → ℕ → ℕ → ℕ → List ℕ → ℕ → Plan → Type 0
IsCopyPlan t whole pass source parent name now (plans.Refuse errno) = first_failure (checks whole pass (ops.CopyTree source parent name)) ≡ Some errno.0
IsCopyPlan t whole pass source parent name now plans.Worn =
    (first_failure (checks whole pass (ops.CopyTree source parent name)) ≡ None) × IsCopyWorn t whole source parent now name
IsCopyPlan t whole pass source parent name now (plans.Commit batch reply drop) =
    (first_failure (checks whole pass (ops.CopyTree source parent name)) ≡ None) × (reply ≡ success whole pass (ops.CopyTree source parent name) now)
    × IsCopyStep t (tables_after batch t) whole source (effect whole pass (ops.CopyTree source parent name) now)
    × (next_name_of (tables_after batch t) ≤ next_name_of t + 1) × ((length batch == 0) ≡ false) × (drop ≡ []) × (IsCopyWorn t whole source parent now name → ⊥)
