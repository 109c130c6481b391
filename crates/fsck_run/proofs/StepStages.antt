-- Stages of the program, as parts of a step.
use Rattle.std.proofs.Common.{◌≡◌, ◌⊎◌, ℕ, Bool, true, false, List, [], ◌∷◌, ◌++◌, map, Option, None, Some, IsSomeAnd, Result, Ok, Err, IfErr, inl, inr, refl, sym, ap, ◌∙◌, subst}
use Rattle.s3_rows.specs.declared.change.Change.{Change}
use Rattle.s3_rows.specs.declared.params.State.TheVariants as states
use Rattle.s3_rows.specs.Told.{Told, with_batch}
use Rattle.s3_devices.specs.declared.key_list.KeyItem.{KeyItem}
use Rattle.s3_devices.specs.Objects.{Objects, without_object, IsKeptOrGone}
use Rattle.s3_devices.specs.Told.{Becomes}
use Rattle.fsck_findings.specs.Found.{Found}
use Rattle.fsck_findings.specs.Line.{line_of}
use Rattle.fsck_objects.specs.declared.store_pass.StoreRepair.{StoreRepair}
use Rattle.fsck_objects.specs.Store.{repaired_store, stray_keys, unused_keys}
use Rattle.fsck_run.specs.declared.fault.FsckFault.{FsckFault}
use Rattle.fsck_run.specs.declared.stage.Batched.{Batched}
use Rattle.fsck_run.specs.declared.stage.Batched.TheVariants as batched
use Rattle.fsck_run.specs.declared.stage.Stage.{Stage}
use Rattle.fsck_run.specs.declared.stage.Stage.TheVariants as stages
use Rattle.fsck_run.specs.declared.stages.Check.{Check}
use Rattle.fsck_run.specs.declared.stages.Stepped.TheVariants as stepped
use Rattle.fsck_run.specs.Check.{Move, More, Done, to_a_change, with_store, with_keys, from_stage, step_after}
use Rattle.fsck_run.specs.DoomedKeys.{IsFirstGone, IsFirstKeptOrGone}
use Rattle.fsck_run.specs.Faults.{IsOfDevice, IsRefusal}
use Rattle.fsck_run.specs.Listing.{own_keys}
use Rattle.fsck_run.specs.Passes.{IsTaken, found_by, found_in, committed, is_some_batch, state_change, mark_of}
use Rattle.fsck_run.specs.Progress.{Progress, at_stage, behind, progress_of}
use Rattle.fsck_run.specs.Starts.{OverTold, IsStarted, IsFinished, IsStoreFound}
use Rattle.fsck_run.specs.Steps.{IsAt, IsEnd, IsStep, IsBeforeOrBehind, IsStopped, IsStaged, IsStagedTo}
use Rattle.fsck_run.proofs.Refused.{IsRefusal-of_device, IsStopped-kept}
use Rattle.fsck_run.proofs.StageSteps.{IsStaged-commits, step_started, step_passed, step_stored, step_unused, step_none_unused, step_rows_gone, step_stray, step_no_stray, step_finished, step_over}

-- a state is as the program's fields say, whatever is told
abbrev IsShapedAs : Check → Progress → Type 0
IsShapedAs check u = (t : Told) (o : Objects) → progress_of check t o ≡ record u { told = t; store = o }

rest_at : (stage : Stage) (u : Progress) → u.stage ≡ stage → from_stage to_a_change stage u ≡ step_after u
rest_at stage u is = sym (ap (λ (g : Stage). from_stage to_a_change g u) is)

staged_to : (made : Bool) (s u : Progress) (check : Check) (tables : Option Told) (store : Option Objects) → IsShapedAs check u
    → tables ≡ Some u.told → store ≡ Some u.store → IsStaged made s u → IsStagedTo made s check tables store
staged_to made s u check tables store shape told held staged = record {
  reached = u;
  stands = record { tables_are = told; store_is = held; progress = shape u.told u.store };
  staged = staged;
}

-- ---- a stage of the program

pub start_staged : (s : Progress) (check : Check) (keys : List KeyItem) (marked : Bool) (tables : Option Told) (store : Option Objects) → s.stage ≡ stages.Start
    → IsStarted s.told s.store keys marked tables → store ≡ Some s.store
    → IsShapedAs check (record s { stage = stages.Batch batched.Names; keys = keys }) → IsStagedTo marked s check tables store
start_staged s check keys marked tables store starts started held shape =
    let p = started.params in
    let u = record (with_keys s) { told = committed (mark_of p) s.told } in
    staged_to marked s u check tables store
    (λ t o. shape t o ∙ ap (λ (ks : List KeyItem). record s { stage = stages.Batch batched.Names; keys = ks; told = t; store = o }) started.keys_are)
    started.tables_are held
    (IsStaged-commits (mark_of p) (from_stage to_a_change (stages.Batch batched.Names)) s (with_keys s) marked
    (step_started s p starts started.admitted_is) started.marked_is refl refl (rest_at (stages.Batch batched.Names)))

pub batch_staged : (pass : Batched) (s : Progress) (check : Check) (lines : List (List ℕ)) (made : Bool) (tables : Option Told) (store : Option Objects)
    → s.stage ≡ stages.Batch pass → IsTaken (found_in (found_by pass s.keys) s.told.tables) s.told tables s.lines lines made → store ≡ Some s.store
    → IsShapedAs check (record s { stage = behind pass; lines = lines }) → IsStagedTo made s check tables store
batch_staged pass s check lines made tables store stands taken held shape = by_case (found_in (found_by pass s.keys) s.told.tables) refl taken
  where
    by_case : (r : Result Found FsckFault) → found_in (found_by pass s.keys) s.told.tables ≡ r → IsTaken r s.told tables s.lines lines made
        → IsStagedTo made s check tables store
    by_case (Err fault) is never = absurd never
    by_case (Ok f) is done =
        let v = record s { stage = behind pass; lines = s.lines ++ map line_of f.findings } in
        staged_to made s (record v { told = committed f.changes s.told }) check tables store
        (λ t o. shape t o ∙ ap (λ (ls : List (List ℕ)). record s { stage = behind pass; lines = ls; told = t; store = o }) done.lines)
        done.told held
        (IsStaged-commits f.changes (from_stage to_a_change (behind pass)) s v made (step_passed pass s f stands is) done.made_is refl refl (rest_at (behind pass)))

pub store_staged : (s : Progress) (check : Check) (found : StoreRepair) (tables : Option Told) (store : Option Objects) → s.stage ≡ stages.Store
    → IsStoreFound s.keys s.told.tables found → tables ≡ Some s.told → store ≡ Some s.store
    → IsShapedAs check (record s { stage = stages.UnusedKeys; lines = s.lines ++ found.repair.findings; unused = found.unused; rows = found.repair.batch; strays = found.strays })
    → IsStagedTo false s check tables store
store_staged s check found tables store stands is told held shape =
    let p = is.params in
    let f = repaired_store s.keys s.told.tables p in
    let t = s.told.tables in
    staged_to false s (with_store s p) check tables store
    (λ u o. shape u o
    ∙ ap (λ (ls : List (List ℕ)). record s { stage = stages.UnusedKeys; lines = s.lines ++ ls; unused = found.unused; rows = found.repair.batch; strays = found.strays; told = u; store = o }) is.findings
    ∙ ap (λ (ks : List (List ℕ)). record s { stage = stages.UnusedKeys; lines = s.lines ++ map line_of f.findings; unused = ks; rows = found.repair.batch; strays = found.strays; told = u; store = o }) is.unused
    ∙ ap (λ (cs : List Change). record s { stage = stages.UnusedKeys; lines = s.lines ++ map line_of f.findings; unused = unused_keys t; rows = cs; strays = found.strays; told = u; store = o }) is.batch
    ∙ ap (λ (ks : List (List ℕ)). record s { stage = stages.UnusedKeys; lines = s.lines ++ map line_of f.findings; unused = unused_keys t; rows = f.changes; strays = ks; told = u; store = o }) is.strays)
    told held (step_stored s p stands is.params_are, refl, refl)

pub rows_staged : (s : Progress) (check : Check) (made : Bool) (tables : Option Told) (store : Option Objects) → s.stage ≡ stages.UnusedRows
    → tables ≡ Some (committed s.rows s.told) → made ≡ is_some_batch s.rows → store ≡ Some s.store
    → IsShapedAs check (at_stage stages.StrayKeys s) → IsStagedTo made s check tables store
rows_staged s check made tables store stands told made_is held shape =
    staged_to made s (record s { stage = stages.StrayKeys; told = committed s.rows s.told }) check tables store shape told held
    (IsStaged-commits s.rows (from_stage to_a_change stages.StrayKeys) s (at_stage stages.StrayKeys s) made (step_rows_gone s stands) made_is refl refl
    (rest_at stages.StrayKeys))

pub finish_staged : (s : Progress) (check : Check) (tables : Option Told) (store : Option Objects) → s.stage ≡ stages.Finish → IsFinished s.told tables
    → store ≡ Some s.store → IsShapedAs check (at_stage stages.Over s) → IsStagedTo true s check tables store
finish_staged s check tables store stands finished held shape =
    staged_to true s (record s { stage = stages.Over; told = with_batch (state_change finished.params states.Clean ∷ []) s.told }) check tables store
    shape finished.tables_are held (step_finished s finished.params stands finished.params_are)

pub over_staged : (s : Progress) (check : Check) (tables : Option Told) (store : Option Objects) → tables ≡ Some s.told → store ≡ Some s.store
    → IsShapedAs check s → IsStagedTo false s check tables store
over_staged s check tables store told held shape = staged_to false s s check tables store shape told held (refl, refl, refl)

-- ---- deletes

module _ (s : Progress) (check : Check) (rest : List (List ℕ)) (tables : Option Told) (store : Option Objects) (told : tables ≡ Some s.told) where
  pub unused_staged : s.stage ≡ stages.UnusedKeys → IsFirstGone true s.unused s.store rest store → IsShapedAs check (record s { unused = rest })
      → IsStagedTo true s check tables store
  unused_staged stands gone shape = by_case s.unused refl gone
    where
      by_case : (ks : List (List ℕ)) → s.unused ≡ ks → IsFirstGone true ks s.store rest store → IsStagedTo true s check tables store
      by_case [] is never = absurd (cc (never.0))
      by_case (k ∷ ks) is went =
          staged_to true s (record s { unused = ks; store = without_object k s.store }) check tables store
          (λ t o. shape t o ∙ ap (λ (left : List (List ℕ)). record s { unused = left; told = t; store = o }) went.1)
          told went.2 (step_unused s k ks stands is)

  pub none_unused_staged : s.stage ≡ stages.UnusedKeys → IsFirstGone false s.unused s.store rest store
      → IsShapedAs check (record s { stage = stages.UnusedRows; unused = rest }) → IsStagedTo false s check tables store
  none_unused_staged stands none shape = by_case s.unused refl none
    where
      by_case : (ks : List (List ℕ)) → s.unused ≡ ks → IsFirstGone false ks s.store rest store → IsStagedTo false s check tables store
      by_case [] is same =
          staged_to false s (at_stage stages.UnusedRows s) check tables store
          (λ t o. shape t o ∙ ap (λ (left : List (List ℕ)). record s { stage = stages.UnusedRows; unused = left; told = t; store = o }) (same.1 ∙ sym is))
          told same.2 (step_none_unused s stands is, refl, refl)
      by_case (k ∷ ks) is never = absurd (cc (never.0))

  pub stray_staged : s.stage ≡ stages.StrayKeys → IsFirstGone true s.strays s.store rest store → IsShapedAs check (record s { strays = rest })
      → IsStagedTo true s check tables store
  stray_staged stands gone shape = by_case s.strays refl gone
    where
      by_case : (ks : List (List ℕ)) → s.strays ≡ ks → IsFirstGone true ks s.store rest store → IsStagedTo true s check tables store
      by_case [] is never = absurd (cc (never.0))
      by_case (k ∷ ks) is went =
          staged_to true s (record s { strays = ks; store = without_object k s.store }) check tables store
          (λ t o. shape t o ∙ ap (λ (left : List (List ℕ)). record s { strays = left; told = t; store = o }) went.1)
          told went.2 (step_stray s k ks stands is)

  pub no_stray_staged : s.stage ≡ stages.StrayKeys → IsFirstGone false s.strays s.store rest store
      → IsShapedAs check (record s { stage = stages.Finish; strays = rest }) → IsStagedTo false s check tables store
  no_stray_staged stands none shape = by_case s.strays refl none
    where
      by_case : (ks : List (List ℕ)) → s.strays ≡ ks → IsFirstGone false ks s.store rest store → IsStagedTo false s check tables store
      by_case [] is same =
          staged_to false s (at_stage stages.Finish s) check tables store
          (λ t o. shape t o ∙ ap (λ (left : List (List ℕ)). record s { stage = stages.Finish; strays = left; told = t; store = o }) (same.1 ∙ sym is))
          told same.2 (step_no_stray s stands is, refl, refl)
      by_case (k ∷ ks) is never = absurd (cc (never.0))

-- ---- deletes that were refused

no_one : (store : Option Objects) → IsSomeAnd store (λ o. ⊥) → ⊥
no_one None never = never
no_one (Some o) never = never

-- the store is as before the step or as behind it
refused_delete : (fault : FsckFault) (s t : Progress) (k : List ℕ) (tables : Option Told) (store : Option Objects) → IsOfDevice fault → tables ≡ Some s.told
    → step_after s ≡ Ok (More t) → t.store ≡ without_object k s.store → IsSomeAnd store (IsKeptOrGone k s.store) → IsStopped fault s tables store
refused_delete fault s t k tables store of told is gone becomes = record {
  refusal = IsRefusal-of_device (step_after s) fault of;
  tables_stay = told;
  store_is = subst (λ (out : Result Move FsckFault). IsBeforeOrBehind out s.store store) (sym is) (by_case store becomes);
}
  where
    by_case : (after : Option Objects) → IsSomeAnd after (IsKeptOrGone k s.store) → (after ≡ Some s.store) ⊎ (after ≡ Some t.store)
    by_case None never = absurd never
    by_case (Some o) (inl same) = inl (ap Some same)
    by_case (Some o) (inr less) = inr (ap Some (less ∙ sym gone))

pub unused_refused : (fault : FsckFault) (s : Progress) (tables : Option Told) (before store : Option Objects) → s.stage ≡ stages.UnusedKeys → IsOfDevice fault
    → tables ≡ Some s.told → before ≡ Some s.store → Becomes (IsFirstKeptOrGone s.unused) before store → IsStopped fault s tables store
unused_refused fault s tables before store stands of told held becomes =
    by_case s.unused refl (subst (λ (b : Option Objects). Becomes (IsFirstKeptOrGone s.unused) b store) held becomes)
  where
    by_case : (ks : List (List ℕ)) → s.unused ≡ ks → Becomes (IsFirstKeptOrGone ks) (Some s.store) store → IsStopped fault s tables store
    by_case [] is never = absurd (no_one store never)
    by_case (k ∷ ks) is left =
        refused_delete fault s (record s { unused = ks; store = without_object k s.store }) k tables store of told (step_unused s k ks stands is) refl left

pub stray_refused : (fault : FsckFault) (s : Progress) (tables : Option Told) (before store : Option Objects) → s.stage ≡ stages.StrayKeys → IsOfDevice fault
    → tables ≡ Some s.told → before ≡ Some s.store → Becomes (IsFirstKeptOrGone s.strays) before store → IsStopped fault s tables store
stray_refused fault s tables before store stands of told held becomes =
    by_case s.strays refl (subst (λ (b : Option Objects). Becomes (IsFirstKeptOrGone s.strays) b store) held becomes)
  where
    by_case : (ks : List (List ℕ)) → s.strays ≡ ks → Becomes (IsFirstKeptOrGone ks) (Some s.store) store → IsStopped fault s tables store
    by_case [] is never = absurd (no_one store never)
    by_case (k ∷ ks) is left =
        refused_delete fault s (record s { strays = ks; store = without_object k s.store }) k tables store of told (step_stray s k ks stands is) refl left

-- ---- stages within a step

pub staged_on : (s : Progress) (check : Check) (tables : Option Told) (store : Option Objects) → IsStagedTo false s check tables store
    → (tables ≡ Some s.told) × (store ≡ Some s.store) × (step_after s ≡ step_after (progress_of check s.told s.store))
staged_on s check tables store to =
    let r = to.reached in
    let same : progress_of check s.told s.store ≡ r =
    ap (λ (t : Told). progress_of check t s.store) (sym to.staged.1) ∙ ap (progress_of check r.told) (sym to.staged.2) ∙ to.stands.progress in
    (to.stands.tables_are ∙ ap Some to.staged.1, to.stands.store_is ∙ ap Some to.staged.2, to.staged.0 ∙ ap step_after (sym same))

pub staged_made : (s : Progress) (check : Check) (tables : Option Told) (store : Option Objects) → IsStagedTo true s check tables store
    → IsStep (step_after s) stepped.More check tables store
staged_made s check tables store to = subst (λ (out : Result Move FsckFault). IsStep out stepped.More check tables store) (sym to.staged) to.stands

pub staged_end : (s : Progress) (lines : List (List ℕ)) (check : Check) (tables : Option Told) (store : Option Objects) → s.stage ≡ stages.Over
    → tables ≡ Some s.told → store ≡ Some s.store → lines ≡ s.lines → IsStep (step_after s) (stepped.Done lines) check tables store
staged_end s lines check tables store stands told held are =
    subst (λ (out : Result Move FsckFault). IsStep out (stepped.Done lines) check tables store) (sym (step_over s stands))
    (record { tables_are = told; store_is = held; lines_are = are })

pub stopped_before : (fault : FsckFault) (s u : Progress) (tables : Option Told) (store : Option Objects) → step_after s ≡ step_after u → u.told ≡ s.told
    → u.store ≡ s.store → IsStopped fault u tables store → IsStopped fault s tables store
stopped_before fault s u tables store same told held stopped = record {
  refusal = subst (λ (out : Result Move FsckFault). IsRefusal out fault) (sym same) stopped.refusal;
  tables_stay = stopped.tables_stay ∙ ap Some told;
  store_is = subst (λ (out : Result Move FsckFault). IsBeforeOrBehind out s.store store) (sym same)
      (subst (λ (o : Objects). IsBeforeOrBehind (step_after u) o store) held stopped.store_is);
}

-- the same of what is told, in a loop over stages that made no change
pub goes_on_told : (first now after : Check) (k0 k1 k2 : Option Told) (l0 l1 l2 : Option Objects) (made : Bool) → OverTold k0 l0 (λ t o. k1 ≡ Some t)
    → OverTold k0 l0 (λ t o. l1 ≡ Some o) → OverTold k0 l0 (λ t o. step_after (progress_of first t o) ≡ step_after (progress_of now t o))
    → OverTold k1 l1 (λ t o. IsStagedTo made (progress_of now t o) after k2 l2) → made ≡ false
    → OverTold k0 l0 (λ t o. (k2 ≡ Some t) × (l2 ≡ Some o) × (step_after (progress_of first t o) ≡ step_after (progress_of after t o)))
goes_on_told first now after k0 k1 k2 l0 l1 l2 made tables store step staged unmade t o told held ordered keys_ordered =
    let on = staged_on (progress_of now t o) after k2 l2
    (subst (λ (b : Bool). IsStagedTo b (progress_of now t o) after k2 l2) unmade
    (staged t o (tables t o told held ordered keys_ordered) (store t o told held ordered keys_ordered) ordered keys_ordered)) in
    (on.0, on.1, step t o told held ordered keys_ordered ∙ on.2)

-- ---- refusals of stages, over both devices

pub keeper_stopped : (r : Result Bool FsckFault) (s : Told → Objects → Progress) (before after : Option Told) (store : Option Objects)
    → IfErr r (λ e. (any : Option Objects) → OverTold before any (λ t o. IsStopped e (s t o) after any))
    → IfErr r (λ e. OverTold before store (λ t o. IsStopped e (s t o) after store))
keeper_stopped (Ok made) s before after store stopped = tt
keeper_stopped (Err e) s before after store stopped = stopped store

pub link_stopped : (r : Result Bool FsckFault) (s : Told → Objects → Progress) (tables : Option Told) (before after : Option Objects)
    → IfErr r (λ e. (any : Option Told) → OverTold any before (λ t o. IsStopped e (s t o) any after))
    → IfErr r (λ e. OverTold tables before (λ t o. IsStopped e (s t o) tables after))
link_stopped (Ok made) s tables before after stopped = tt
link_stopped (Err e) s tables before after stopped = stopped tables
