-- Plans that are carried out.
use Rattle.std.proofs.Common.{◌≡◌, ℕ, ◌^◌, List, [], Bool, true, false, Option, None, Some, Result, Ok, Err, refl, sym, ap, ◌∙◌, subst, inl, ⊎_elim}
use Rattle.std.specs.Prelude.{IsTrue, nat_le, is_err, OnOk, OnErr, ◌||◌, ◌⊎◌}
use Rattle.op_frames.specs.declared.operation.Op.{Op}
use Rattle.op_frames.specs.declared.operation.Op.TheVariants as ops
use Rattle.op_frames.specs.declared.reply.Reply.{Reply}
use Rattle.plain_tree.specs.Tree.{Tree}
use Rattle.plain_tree.specs.Checks.{fails_with, first_failure, hand_check}
use Rattle.plain_tree.specs.Operations.{checks, effect, success}
use Rattle.plain_tree.specs.WellFormed.{IsWellFormed}
use Rattle.s3_rows.specs.declared.change.Change.{Change}
use Rattle.s3_rows.specs.Rows.{Inode}
use Rattle.s3_rows.specs.Selections.{inode_at}
use Rattle.s3_rows.specs.Tables.{Tables}
use Rattle.s3_rows.specs.Told.{Told, IfTold}
use Rattle.s3_devices.specs.Objects.{Objects}
use Rattle.s3_rows.specs.Validity.{IsValid, HasUniqueNames}
use Rattle.tree_rows.specs.Shapes.{Represents}
use Rattle.tree_laws.proofs.WellFormed.{IsWellFormed-effect}
use Rattle.inode_ops.specs.Plans as inode_plans
use Rattle.dir_ops.specs.Plans as dir_plans
use Rattle.immutable_trees.specs.Plans as tree_plans
use Rattle.ref_counts.specs.Handles.{OpenHandles, HasHandles}
use Rattle.ref_counts.specs.Plans.{IsPlanOf}
use Rattle.ref_counts.specs.declared.plan.Plan.{Plan}
use Rattle.ref_counts.specs.declared.plan.Plan.TheVariants as plans
use Rattle.tree_copy.specs.CopyPlans.{IsCopyPlan}
use Rattle.volume_core.specs.declared.refusal.Refusal.{Refusal}
use Rattle.volume_core.specs.declared.refusal.Refusal.TheVariants.{Refused, Worn, Keeper, Link, Lost, Memory}
use Rattle.volume_core.specs.declared.row_core.RowCore.{RowCore}
use Rattle.volume_core.specs.Causes.{AreWornBlocks, AreWornRows, file_used, writes_blocks}
use Rattle.volume_core.specs.Plans.{IsTaken, IsFault, IsFull, IsOpening, IsFulfilled, is_by_plan, inode_opened, inode_of_plan, opened_by, closed_by}
use Rattle.volume_core.specs.Standing.{StandsFor, IsCommitted}
use Rattle.volume_core.specs.Refusals.{IsDone, IsStill, IsOutcome}
use Rattle.volume_core.proofs.Answered.{like_same}
use Rattle.volume_core.proofs.Effects.{Fulfils, copy_handles, fulfils, writes_nothing}
use Rattle.volume_core.proofs.FileRoom.{no_blocks_room}
use Rattle.volume_core.proofs.LawsUsed.{CopyLaws, NameLaws, ShareLaws}
use Rattle.volume_core.proofs.RightPlans.{IsRightBatch, IsRightPlan, right_copy_plan, right_plan_of}
use Rattle.volume_core.proofs.Standing.{told_fact, fact_told, is_still, still_alike, stepped, stored_after, backed_after}

module _ {K : Type 0} (told : K → Option Told) (before after : RowCore K) (laws : ShareLaws) (digest_of : List ℕ → List ℕ) (objects : Option Objects) (whole : Tree) (s : StandsFor told before whole)
    (pass : ℕ) (op : Op) (now : ℕ) (writes : writes_blocks op ≡ false) where
  abbrev Right : Plan → Type 0
  Right plan = IsRightPlan (told before.keeper) (told after.keeper) s.now.tables whole pass op now plan

  abbrev Outcome : Result Reply Refusal → Type 0
  Outcome result = IsOutcome told before after digest_of objects objects whole pass op now result

  abbrev Still : Type 0
  Still = IsStill told before after digest_of objects objects whole

  fault_outcome : (refusal : Refusal) → IsFault refusal → Still → Outcome (Err refusal)
  fault_outcome (Refused errno) is still = absurd is
  fault_outcome Worn is still = absurd is
  fault_outcome Keeper is still = still_alike told before after digest_of objects objects whole op still
  fault_outcome Link is still = absurd is
  fault_outcome (Lost object kept got) is still = absurd is
  fault_outcome Memory is still = still_alike told before after digest_of objects objects whole op still

  -- a batch of the plan that was committed
  committed : (batch : List Change) (reply given : Reply) → IsRightBatch (told before.keeper) (told after.keeper) s.now.tables whole pass op now batch reply → given ≡ reply
      → IsCommitted batch (told before.keeper) (told after.keeper) → HasHandles after.handles (effect whole pass op now) → IsDone told before after digest_of objects objects whole pass op now given
  committed batch reply given right same is handles =
      let replied : given ≡ success whole pass op now = same ∙ right.replied in
      let next : Tree = effect whole pass op now in record {
        passes = right.passes;
        like = like_same op (success whole pass op now) given replied;
        stays = record {
          stands = stepped told before after whole next batch s right.sharing is (IsWellFormed-effect whole pass now op s.well right.passes) handles;
          stored = stored_after told before after whole next batch s right.sharing is laws digest_of objects;
          backed = backed_after told before after whole next batch s right.sharing is laws digest_of objects (given ≡ success whole pass op now) replied;
        };
        tells = right.tells is;
        unworn = λ worn. right.unworn (told_fact (told before.keeper) s.now (λ t. AreWornRows t whole op now) s.tells worn);
        room = no_blocks_room digest_of (told before.keeper) objects whole pass op now writes;
      }

  -- a plan that is taken, with the handles of the tree after where it succeeds
  taken : (plan : Plan) (result : Result Reply Refusal) → Right plan → IsTaken plan (told before.keeper) (told after.keeper) result
      → OnErr result (after.handles ≡ before.handles)
      → (first_failure (checks whole pass op) ≡ None → OnOk result (HasHandles after.handles (effect whole pass op now)))
      → Outcome result
  taken (plans.Refuse errno) (Ok given) planned is still goes =
      let clash : Ok given ≡ Err (Refused errno) = is.0 in
      absurd (cc clash)
  taken (plans.Refuse errno) (Err refusal) planned is still goes =
      let own : refusal ≡ Refused errno = cc is.0 in
      subst (λ r. Outcome (Err r)) (sym own) (planned, is_still told before after digest_of objects whole s is.1 still)
  taken plans.Worn (Ok given) planned is still goes =
      let clash : Ok given ≡ Err Worn = is.0 in
      absurd (cc clash)
  taken plans.Worn (Err refusal) planned is still goes =
      let own : refusal ≡ Worn = cc is.0 in
      let plan : (first_failure (checks whole pass op) ≡ None) × AreWornRows s.now.tables whole op now = planned in
      subst (λ r. Outcome (Err r)) (sym own) (
        plan.0,
        fact_told (told before.keeper) s.now (λ t. AreWornRows t whole op now ⊎ ((r : Inode) × (inode_at t (file_used whole pass op) ≡ Some r) × AreWornBlocks digest_of t objects whole r now op)) s.tells (inl plan.1),
        still_alike told before after digest_of objects objects whole op (is_still told before after digest_of objects whole s is.1 still),
      )
  taken (plans.Commit batch reply drop) (Ok given) planned is still goes =
      let right : IsRightBatch (told before.keeper) (told after.keeper) s.now.tables whole pass op now batch reply = planned in
      committed batch reply given right is.0 is.1 (goes right.passes)
  taken (plans.Commit batch reply drop) (Err refusal) planned is still goes = fault_outcome refusal is.0 (is_still told before after digest_of objects whole s is.1 still)

  -- a plan that is fulfilled
  module _ (effects : first_failure (checks whole pass op) ≡ None → Fulfils whole before.handles s.handles pass now op) where
    not_full : (plan : Plan) → Right plan → IsFull plan before.handles → ⊥
    not_full (plans.Refuse errno) planned full = cc full.1
    not_full plans.Worn planned full = cc full.1
    not_full (plans.Commit batch reply drop) planned full =
        let right : IsRightBatch (told before.keeper) (told after.keeper) s.now.tables whole pass op now batch reply = planned in
        let room : hand_check whole ≡ None = (effects right.passes).hand full.0 (sym (ap inode_opened right.replied) ∙ full.1) in
        let over : hand_check whole ≡ Some 28 = ap (λ n. fails_with 28 (nat_le (2 ^ 62) n)) s.handles.0 ∙ ap (fails_with 28) full.2 in
        let clash : None ≡ Some 28 = sym room ∙ over in
        cc clash

    on_success : (plan : Plan) (given : Reply) → Right plan → IsTaken plan (told before.keeper) (told after.keeper) (Ok given)
        → after.handles ≡ closed_by pass op (opened_by (inode_of_plan plan) pass before.handles)
        → first_failure (checks whole pass op) ≡ None → HasHandles after.handles (effect whole pass op now)
    on_success (plans.Refuse errno) given planned is own passes =
        let clash : Ok given ≡ Err (Refused errno) = is.0 in
        absurd (cc clash)
    on_success plans.Worn given planned is own passes =
        let clash : Ok given ≡ Err Worn = is.0 in
        absurd (cc clash)
    on_success (plans.Commit batch reply drop) given planned is own passes =
        let right : IsRightBatch (told before.keeper) (told after.keeper) s.now.tables whole pass op now batch reply = planned in
        subst (λ h. HasHandles h (effect whole pass op now)) (sym (own ∙ ap (λ (r : Reply). closed_by pass op (opened_by (inode_opened r) pass before.handles)) right.replied)) (effects passes).handles

    pub fulfilled : (plan : Plan) (result : Result Reply Refusal) → Right plan
        → IsFulfilled plan pass op (told before.keeper) (told after.keeper) before.handles after.handles result → Outcome result
    fulfilled plan (Ok given) planned is = taken plan (Ok given) planned is.0 tt (on_success plan given planned is.0 is.1)
    fulfilled plan (Err refusal) planned is =
        ⊎_elim
        (λ own. taken plan (Err refusal) planned own is.1 (λ passes. tt))
        (λ own. absurd (not_full plan planned own.0))
        is.0

-- the handle that was made goes again
pub failed_opening : (plan : Plan) (pass : ℕ) (before after : Option Told) (h next : OpenHandles) (result : Result Reply Refusal) → is_err result ≡ true → IsTaken plan before after result → next ≡ h
    → IsOpening plan pass before after h next result
failed_opening plan pass before after h next (Ok given) failed is same = absurd (cc failed)
failed_opening plan pass before after h next (Err refusal) failed is same = (inl is, same)

-- ---- by the plans of the three parts

first_plan : (a b c : Bool) → IsTrue a → IsTrue ((a || b) || c)
first_plan true b c is = refl
first_plan false b c is = absurd (cc is)

second_plan : (a b c : Bool) → IsTrue b → IsTrue ((a || b) || c)
second_plan true b c is = refl
second_plan false true c is = refl
second_plan false false c is = absurd (cc is)

third_plan : (a b c : Bool) → IsTrue c → IsTrue ((a || b) || c)
third_plan true b c is = refl
third_plan false true c is = refl
third_plan false false c is = is

module _ {K : Type 0} (told : K → Option Told) (before after : RowCore K) (laws : NameLaws) (digest_of : List ℕ → List ℕ) (objects : Option Objects) (whole : Tree) (s : StandsFor told before whole)
    (pass : ℕ) (op : Op) (now : ℕ) (plan : Plan) (result : Result Reply Refusal) (middle : Option Told)
    (same : middle ≡ told before.keeper) (is : IsFulfilled plan pass op middle (told after.keeper) before.handles after.handles result) where
  abbrev Plans : Tables → Type 0
  Plans t = IsValid t → HasUniqueNames t → t.slots ≡ [] → (w : Tree) → Represents t w → IsWellFormed w → HasHandles before.handles w → IsPlanOf t w pass op now plan

  by_plan : IsTrue (is_by_plan op) → IfTold (told before.keeper) Plans → IsOutcome told before after digest_of objects objects whole pass op now result
  by_plan planned own =
      fulfilled told before after laws.shared digest_of objects whole s pass op now (writes_nothing op planned)
      (fulfils whole before.handles s.handles pass now op planned) plan result
      (right_plan_of (told before.keeper) (told after.keeper) s.now s.tells s.served whole s.represents s.well pass now laws op planned plan
      (told_fact (told before.keeper) s.now Plans s.tells own s.served.valid s.served.unique s.served.slots whole s.represents s.well s.handles))
      (subst (λ t. IsFulfilled plan pass op t (told after.keeper) before.handles after.handles result) same is)

  abbrev pub Carries : Type 0
  Carries = IfTold (told before.keeper) Plans → IsOutcome told before after digest_of objects objects whole pass op now result

  pub inodes_so : IsTrue (inode_plans.is_planned op) → Carries
  inodes_so planned own = by_plan (first_plan (inode_plans.is_planned op) (dir_plans.is_planned op) (tree_plans.is_planned op) planned) own

  pub entries_so : IsTrue (dir_plans.is_planned op) → Carries
  entries_so planned own = by_plan (second_plan (inode_plans.is_planned op) (dir_plans.is_planned op) (tree_plans.is_planned op) planned) own

  pub trees_so : IsTrue (tree_plans.is_planned op) → Carries
  trees_so planned own = by_plan (third_plan (inode_plans.is_planned op) (dir_plans.is_planned op) (tree_plans.is_planned op) planned) own

-- ---- by the plan of a copy

module _ {K : Type 0} (told : K → Option Told) (before after : RowCore K) (laws : CopyLaws) (digest_of : List ℕ → List ℕ) (objects : Option Objects) (whole : Tree) (s : StandsFor told before whole)
    (pass source parent : ℕ) (name : List ℕ) (now : ℕ) (plan : Plan) (middle : Option Told) (same : middle ≡ told before.keeper) (handles : after.handles ≡ before.handles) where
  abbrev CopyPlans : Tables → Type 0
  CopyPlans t = IsValid t → HasUniqueNames t → (w : Tree) (pass : ℕ) → Represents t w → IsWellFormed w → IsCopyPlan t w pass source parent name now plan

  -- a copy opens and closes nothing
  pub copy_so : (result : Result Reply Refusal) → IsTaken plan middle (told after.keeper) result → IfTold (told before.keeper) CopyPlans
      → IsOutcome told before after digest_of objects objects whole pass (ops.CopyTree source parent name) now result
  copy_so result is own =
      taken told before after laws.shared digest_of objects whole s pass (ops.CopyTree source parent name) now refl plan result
      (right_copy_plan (told before.keeper) (told after.keeper) s.now s.tells s.served whole s.represents s.well pass now source parent name laws plan
      (told_fact (told before.keeper) s.now CopyPlans s.tells own s.served.valid s.served.unique whole pass s.represents s.well))
      (subst (λ t. IsTaken plan t (told after.keeper) result) same is) (on_err result) (λ passes. on_ok result)
    where
      on_err : (result : Result Reply Refusal) → OnErr result (after.handles ≡ before.handles)
      on_err (Ok given) = tt
      on_err (Err refusal) = handles

      on_ok : (result : Result Reply Refusal) → OnOk result (HasHandles after.handles (effect whole pass (ops.CopyTree source parent name) now))
      on_ok (Ok given) =
          subst (λ h. HasHandles h (effect whole pass (ops.CopyTree source parent name) now)) (sym handles) (copy_handles before.handles whole pass source parent name now s.handles)
      on_ok (Err refusal) = tt
