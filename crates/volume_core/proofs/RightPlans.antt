-- What the core needs of a plan, and that the plans of names, inodes and copies have it.
use Rattle.std.proofs.Common.{◌≡◌, ◌≤◌, ◌+◌, ℕ, List, [], ◌∷◌, length, true, false, Option, None, Some, sym, subst, inl, inr, ⊎_elim, arith}
use Rattle.std.specs.Prelude.{IsTrue, ◌==◌, not}
use Rattle.op_frames.specs.declared.operation.Op.{Op}
use Rattle.op_frames.specs.declared.operation.Op.TheVariants as ops
use Rattle.op_frames.specs.declared.reply.Reply.{Reply}
use Rattle.plain_tree.specs.Checks.{first_failure}
use Rattle.plain_tree.specs.Classes.{keeps_rows, names_drawn}
use Rattle.plain_tree.specs.Operations.{checks, effect, success}
use Rattle.plain_tree.specs.Tree.{Tree}
use Rattle.plain_tree.specs.WellFormed.{IsWellFormed}
use Rattle.tree_laws.specs.Files.{copies_files}
use Rattle.s3_rows.specs.declared.change.Change.{Change}
use Rattle.s3_rows.specs.Tables.{Tables}
use Rattle.s3_rows.specs.Batches.{tables_after}
use Rattle.s3_rows.specs.Told.{Told}
use Rattle.tree_rows.specs.Shapes.{Represents}
use Rattle.ref_counts.specs.Plans.{IsPlanOf, next_name_of}
use Rattle.ref_counts.specs.declared.plan.Plan.{Plan}
use Rattle.ref_counts.specs.declared.plan.Plan.TheVariants as plans
use Rattle.tree_copy.specs.CopyPlans.{IsCopyPlan}
use Rattle.tree_copy.specs.CopySteps.{IsCopyStep}
use Rattle.volume_core.specs.Causes.{AreWornRows, writes_blocks}
use Rattle.volume_core.specs.Plans.{is_by_plan}
use Rattle.volume_core.specs.Standing.{AreCopiesTold, AreServed, IsCommitted, IsToldAfter, LeavesCopied}
use Rattle.volume_core.proofs.Effects.{no_bytes, no_copies, no_worn_copy, writes_nothing}
use Rattle.volume_core.proofs.LawsUsed.{CopyLaws, NameLaws}
use Rattle.volume_core.proofs.Standing.{IsSharing, IsSharing-step, fact_told, told_after}

module _ (before after : Option Told) (t : Tables) (whole : Tree) (pass : ℕ) (op : Op) (now : ℕ) where
  -- No check fails, and nothing that is needed is worn; the reply is the tree's. The batch stores no block, and tells what the operation
  -- may.
  pub record IsRightBatch (batch : List Change) (reply : Reply) : Type 0 where
    pub passes : first_failure (checks whole pass op) ≡ None
    pub replied : reply ≡ success whole pass op now
    pub sharing : IsSharing t (tables_after batch t) whole (effect whole pass op now)
    pub tells : IsCommitted batch before after → IsToldAfter (not (keeps_rows whole pass op)) (writes_blocks op) (copies_files op) (names_drawn whole op) before after
    pub unworn : AreWornRows t whole op now → ⊥

  -- a refusal is that of the first check that fails; where none fails, something that is needed is worn, or there is such a batch
  abbrev pub IsRightPlan : Plan → Type 0
  IsRightPlan (plans.Refuse errno) = first_failure (checks whole pass op) ≡ Some errno.0
  IsRightPlan plans.Worn = (first_failure (checks whole pass op) ≡ None) × AreWornRows t whole op now
  IsRightPlan (plans.Commit batch reply drop) = IsRightBatch batch reply

module _ (before after : Option Told) (s : Told) (tells : before ≡ Some s) (served : AreServed s.tables) (whole : Tree) (represents : Represents s.tables whole) (well : IsWellFormed whole) (pass now : ℕ) where
  abbrev t : Tables
  t = s.tables

  -- a plan of an operation on names and inodes
  pub right_plan_of : NameLaws → (op : Op) → IsTrue (is_by_plan op) → (plan : Plan) → IsPlanOf t whole pass op now plan → IsRightPlan before after t whole pass op now plan
  right_plan_of laws op by_plan (plans.Refuse errno) is = is
  right_plan_of laws op by_plan plans.Worn is = (is.0, inl is.1)
  right_plan_of laws op by_plan (plans.Commit batch reply drop) is = record {
    passes = is.0;
    replied = is.1;
    sharing = IsSharing-step laws t (tables_after batch t) whole (effect whole pass op now) (names_drawn whole op) served represents (laws.size whole pass now op is.0)
        (laws.files whole pass now op well (no_bytes op by_plan) (no_copies op by_plan) is.0) is.2;
    tells = λ committed.
        subst (λ b. IsToldAfter (not (keeps_rows whole pass op)) b (copies_files op) (names_drawn whole op) before after) (sym (writes_nothing op by_plan))
        (subst (λ b. IsToldAfter (not (keeps_rows whole pass op)) false b (names_drawn whole op) before after) (sym (no_copies op by_plan))
        (told_after batch (keeps_rows whole pass op) (names_drawn whole op) before after s (effect whole pass op now) served.valid.ordered.inode_blocks is.3 committed tells is.2));
    unworn = ⊎_elim is.5 (no_worn_copy op by_plan t whole now);
  }

  -- ---- a copy of a tree

  module _ (source parent : ℕ) (name : List ℕ) where
    abbrev copy : Op
    copy = ops.CopyTree source parent name

    abbrev copied : Tree
    copied = effect whole pass copy now

    IsSharing-copy : CopyLaws → (then : Tables) → IsCopyStep t then whole source copied → IsSharing t then whole copied
    IsSharing-copy laws then step = record {
      valid = step.valid;
      represents = step.represents;
      unique = step.unique;
      params = step.params;
      slots = step.slots;
      shares = laws.shares t then whole copied source represents (laws.files whole pass source parent now name well.nodes) step;
    }

    leaves_copied : (then : Tables) → IsCopyStep t then whole source copied → next_name_of then ≤ next_name_of t + 1 → LeavesCopied t then
    leaves_copied then step few = record {
      params = step.params;
      next_inode = omega (arith, step.next_inode);
      next_name = step.next_name;
      names = few;
      objects = step.objects;
      slots = step.slots;
      blocks = step.blocks;
      forms = step.forms;
    }

    copies_told : (batch : List Change) → (length batch == 0) ≡ false → IsCommitted batch before after → LeavesCopied t (tables_after batch t) → AreCopiesTold before after
    copies_told [] some committed leaves =
        let clash : true ≡ false = some in
        absurd (cc clash)
    copies_told (c ∷ cs) some committed leaves = (c ∷ cs, committed, fact_told before s (λ t. LeavesCopied t (tables_after (c ∷ cs) t)) tells leaves)

    pub right_copy_plan : CopyLaws → (plan : Plan) → IsCopyPlan t whole pass source parent name now plan → IsRightPlan before after t whole pass copy now plan
    right_copy_plan laws (plans.Refuse errno) is = is
    right_copy_plan laws plans.Worn is = (is.0, inr is.1)
    right_copy_plan laws (plans.Commit batch reply drop) is = record {
      passes = is.0;
      replied = is.1;
      sharing = IsSharing-copy laws (tables_after batch t) is.2;
      tells = λ committed. copies_told batch is.4 committed (leaves_copied (tables_after batch t) is.2 is.3);
      unworn = ⊎_elim (λ none. none) is.6;
    }
