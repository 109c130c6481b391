-- What a step does from each stage on.
use Rattle.std.proofs.Common.{◌≡◌, ℕ, Bool, true, false, List, [], ◌∷◌, ◌++◌, map, Option, Some, Result, Ok, Err, refl, sym, ap, ◌∙◌, subst}
use Rattle.s3_rows.specs.declared.change.Change.{Change}
use Rattle.s3_rows.specs.declared.params.State.TheVariants as states
use Rattle.s3_rows.specs.Rows.{Parameters}
use Rattle.s3_rows.specs.Told.{Told, with_batch}
use Rattle.s3_devices.specs.Objects.{Objects, without_object}
use Rattle.fsck_findings.specs.Found.{Found}
use Rattle.fsck_findings.specs.Line.{line_of}
use Rattle.fsck_run.specs.declared.fault.FsckFault.{FsckFault}
use Rattle.fsck_run.specs.declared.stage.Batched.{Batched}
use Rattle.fsck_run.specs.declared.stage.Batched.TheVariants as batched
use Rattle.fsck_run.specs.declared.stage.Stage.{Stage}
use Rattle.fsck_run.specs.declared.stage.Stage.TheVariants as stages
use Rattle.fsck_run.specs.declared.stages.Check.{Check}
use Rattle.fsck_run.specs.Check.{Move, More, Done, to_a_change, commits, deletes, passes, with_strays, with_unused, with_store, with_keys, from_finish, from_strays, from_unused_rows, from_unused_keys, from_store, from_counts, from_losses, from_objects, from_rows, from_names, from_start, from_stage, step_after}
use Rattle.fsck_run.specs.DoomedKeys.{IsFirstGone}
use Rattle.fsck_run.specs.Faults.{◌>>=◌, IsRefusal}
use Rattle.fsck_run.specs.Passes.{names_found, rows_found, objects_found, losses_found, counts_found, found_by, found_in, committed, is_some_batch, state_change, mark_of}
use Rattle.fsck_run.specs.Progress.{Progress, at_stage, behind, progress_of}
use Rattle.fsck_run.specs.Refusals.{admitted, parameters_of}
use Rattle.fsck_run.specs.Steps.{IsStaged, IsStagedTo}
use Rattle.fsck_run.proofs.Refused.{then_ok, refused_first}

-- ---- a stage whose change is a commit

at : (s : Progress) (stage : Stage) → s.stage ≡ stage → step_after s ≡ from_stage to_a_change stage s
at s stage is = ap (λ (g : Stage). from_stage to_a_change g s) is

pub IsStaged-commits : (batch : List Change) (rest : Progress → Result Move FsckFault) (s v : Progress) (made : Bool)
    → step_after s ≡ commits to_a_change batch rest v → made ≡ is_some_batch batch → v.told ≡ s.told → v.store ≡ s.store
    → ((u : Progress) → u.stage ≡ v.stage → rest u ≡ step_after u) → IsStaged made s (record v { told = committed batch v.told })
IsStaged-commits [] rest s v false is made_is told store goes_on = (is ∙ goes_on v refl, told, store)
IsStaged-commits [] rest s v true is made_is told store goes_on = absurd (cc made_is)
IsStaged-commits (c ∷ cs) rest s v true is made_is told store goes_on = is
IsStaged-commits (c ∷ cs) rest s v false is made_is told store goes_on = absurd (cc made_is)

pub step_started : (s : Progress) (p : Parameters) → s.stage ≡ stages.Start → admitted s.told.tables s.store ≡ Ok p
    → step_after s ≡ commits to_a_change (mark_of p) (from_stage to_a_change (stages.Batch batched.Names)) (with_keys s)
unfolding from_stage from_start
step_started s p starts is =
    at s stages.Start starts
    ∙ then_ok (admitted s.told.tables s.store) p (λ q. commits to_a_change (mark_of q) (from_names to_a_change) (with_keys s)) is

pub start_refused : (s : Progress) (fault : FsckFault) → s.stage ≡ stages.Start → IsRefusal (admitted s.told.tables s.store) fault → IsRefusal (step_after s) fault
unfolding from_stage from_start
start_refused s fault starts refused =
    refused_first (step_after s) (admitted s.told.tables s.store) (λ q. commits to_a_change (mark_of q) (from_names to_a_change) (with_keys s)) fault
    (at s stages.Start starts) refused

pub step_passed : (pass : Batched) (s : Progress) (f : Found) → s.stage ≡ stages.Batch pass → found_in (found_by pass s.keys) s.told.tables ≡ Ok f
    → step_after s ≡ passes to_a_change (behind pass) (from_stage to_a_change (behind pass)) s f
unfolding from_stage from_names from_rows from_objects from_losses from_counts
step_passed batched.Names s f stands is =
    at s (stages.Batch batched.Names) stands
    ∙ then_ok (found_in (names_found s.keys) s.told.tables) f (passes to_a_change (stages.Batch batched.Rows) (from_rows to_a_change) s) is
step_passed batched.Rows s f stands is =
    at s (stages.Batch batched.Rows) stands
    ∙ then_ok (found_in (rows_found s.keys) s.told.tables) f (passes to_a_change (stages.Batch batched.Objects) (from_objects to_a_change) s) is
step_passed batched.Objects s f stands is =
    at s (stages.Batch batched.Objects) stands
    ∙ then_ok (found_in (objects_found s.keys) s.told.tables) f (passes to_a_change (stages.Batch batched.Losses) (from_losses to_a_change) s) is
step_passed batched.Losses s f stands is =
    at s (stages.Batch batched.Losses) stands
    ∙ then_ok (found_in (losses_found s.keys) s.told.tables) f (passes to_a_change (stages.Batch batched.Counts) (from_counts to_a_change) s) is
step_passed batched.Counts s f stands is =
    at s (stages.Batch batched.Counts) stands
    ∙ then_ok (found_in (counts_found s.keys) s.told.tables) f (passes to_a_change stages.Store (from_store to_a_change) s) is

pub pass_refused : (pass : Batched) (s : Progress) (fault : FsckFault) → s.stage ≡ stages.Batch pass
    → IsRefusal (found_in (found_by pass s.keys) s.told.tables) fault → IsRefusal (step_after s) fault
unfolding from_stage from_names from_rows from_objects from_losses from_counts
pass_refused batched.Names s fault stands refused =
    refused_first (step_after s) (found_in (names_found s.keys) s.told.tables) (passes to_a_change (stages.Batch batched.Rows) (from_rows to_a_change) s) fault
    (at s (stages.Batch batched.Names) stands) refused
pass_refused batched.Rows s fault stands refused =
    refused_first (step_after s) (found_in (rows_found s.keys) s.told.tables) (passes to_a_change (stages.Batch batched.Objects) (from_objects to_a_change) s) fault
    (at s (stages.Batch batched.Rows) stands) refused
pass_refused batched.Objects s fault stands refused =
    refused_first (step_after s) (found_in (objects_found s.keys) s.told.tables) (passes to_a_change (stages.Batch batched.Losses) (from_losses to_a_change) s) fault
    (at s (stages.Batch batched.Objects) stands) refused
pass_refused batched.Losses s fault stands refused =
    refused_first (step_after s) (found_in (losses_found s.keys) s.told.tables) (passes to_a_change (stages.Batch batched.Counts) (from_counts to_a_change) s) fault
    (at s (stages.Batch batched.Losses) stands) refused
pass_refused batched.Counts s fault stands refused =
    refused_first (step_after s) (found_in (counts_found s.keys) s.told.tables) (passes to_a_change stages.Store (from_store to_a_change) s) fault
    (at s (stages.Batch batched.Counts) stands) refused

pub step_rows_gone : (s : Progress) → s.stage ≡ stages.UnusedRows
    → step_after s ≡ commits to_a_change s.rows (from_stage to_a_change stages.StrayKeys) (at_stage stages.StrayKeys s)
unfolding from_stage from_unused_rows
step_rows_gone s stands = at s stages.UnusedRows stands

pub step_finished : (s : Progress) (p : Parameters) → s.stage ≡ stages.Finish → parameters_of s.told.tables.params ≡ Ok p
    → step_after s ≡ Ok (More (record s { stage = stages.Over; told = with_batch (state_change p states.Clean ∷ []) s.told }))
unfolding from_stage from_finish
step_finished s p stands is =
    at s stages.Finish stands
    ∙ then_ok (parameters_of s.told.tables.params) p
    (λ q. commits to_a_change (state_change q states.Clean ∷ []) (λ t. Ok (Done t)) (at_stage stages.Over s)) is

pub finish_refused : (s : Progress) (fault : FsckFault) → s.stage ≡ stages.Finish → IsRefusal (parameters_of s.told.tables.params) fault → IsRefusal (step_after s) fault
unfolding from_stage from_finish
finish_refused s fault stands refused =
    refused_first (step_after s) (parameters_of s.told.tables.params)
    (λ q. commits to_a_change (state_change q states.Clean ∷ []) (λ t. Ok (Done t)) (at_stage stages.Over s)) fault
    (at s stages.Finish stands) refused

-- ---- a stage without a change

pub step_stored : (s : Progress) (p : Parameters) → s.stage ≡ stages.Store → parameters_of s.told.tables.params ≡ Ok p → step_after s ≡ step_after (with_store s p)
unfolding from_stage from_store
step_stored s p stands is =
    at s stages.Store stands ∙ then_ok (parameters_of s.told.tables.params) p (λ q. from_unused_keys to_a_change (with_store s q)) is

pub store_refused : (s : Progress) (fault : FsckFault) → s.stage ≡ stages.Store → IsRefusal (parameters_of s.told.tables.params) fault → IsRefusal (step_after s) fault
unfolding from_stage from_store
store_refused s fault stands refused =
    refused_first (step_after s) (parameters_of s.told.tables.params) (λ q. from_unused_keys to_a_change (with_store s q)) fault (at s stages.Store stands) refused

pub step_over : (s : Progress) → s.stage ≡ stages.Over → step_after s ≡ Ok (Done s)
unfolding from_stage
step_over s stands = at s stages.Over stands

-- ---- a stage whose change is a delete

pub step_unused : (s : Progress) (k : List ℕ) (ks : List (List ℕ)) → s.stage ≡ stages.UnusedKeys → s.unused ≡ k ∷ ks
    → step_after s ≡ Ok (More (record s { unused = ks; store = without_object k s.store }))
unfolding from_stage from_unused_keys
step_unused s k ks stands some =
    at s stages.UnusedKeys stands
    ∙ ap (λ (xs : List (List ℕ)). deletes to_a_change with_unused (λ t. from_unused_rows to_a_change (at_stage stages.UnusedRows t)) xs s) some

pub step_none_unused : (s : Progress) → s.stage ≡ stages.UnusedKeys → s.unused ≡ [] → step_after s ≡ step_after (at_stage stages.UnusedRows s)
unfolding from_stage from_unused_keys
step_none_unused s stands none =
    at s stages.UnusedKeys stands
    ∙ ap (λ (xs : List (List ℕ)). deletes to_a_change with_unused (λ t. from_unused_rows to_a_change (at_stage stages.UnusedRows t)) xs s) none

pub step_stray : (s : Progress) (k : List ℕ) (ks : List (List ℕ)) → s.stage ≡ stages.StrayKeys → s.strays ≡ k ∷ ks
    → step_after s ≡ Ok (More (record s { strays = ks; store = without_object k s.store }))
unfolding from_stage from_strays
step_stray s k ks stands some =
    at s stages.StrayKeys stands
    ∙ ap (λ (xs : List (List ℕ)). deletes to_a_change with_strays (λ t. from_finish to_a_change (at_stage stages.Finish t)) xs s) some

pub step_no_stray : (s : Progress) → s.stage ≡ stages.StrayKeys → s.strays ≡ [] → step_after s ≡ step_after (at_stage stages.Finish s)
unfolding from_stage from_strays
step_no_stray s stands none =
    at s stages.StrayKeys stands
    ∙ ap (λ (xs : List (List ℕ)). deletes to_a_change with_strays (λ t. from_finish to_a_change (at_stage stages.Finish t)) xs s) none

-- ---- what stages leave

pub IsStagedTo-at : (made : Bool) (s : Progress) (check : Check) (tables : Option Told) (store : Option Objects) (t : Told) (o : Objects)
    → tables ≡ Some t → store ≡ Some o → IsStaged made s (progress_of check t o) → IsStagedTo made s check tables store
IsStagedTo-at made s check tables store t o told held staged = record {
  reached = progress_of check t o;
  stands = record { tables_are = told; store_is = held; progress = refl };
  staged = staged;
}
