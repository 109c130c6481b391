-- A check of the program, step by step.
use Rattle.std.proofs.Common.{◌≡◌, ◌⊎◌, ℕ, zero, suc, List, Option, Some, Result, Ok, Err, inl, inr, refl, sym, ap, ◌∙◌, subst}
use Rattle.std.specs.Prelude.{option_and_then}
use Rattle.s3_rows.specs.Tables.{IsOrdered}
use Rattle.s3_rows.specs.Told.{Told}
use Rattle.s3_devices.specs.Objects.{Objects, AreOrdered}
use Rattle.fsck_run.specs.declared.fault.FsckFault.{FsckFault}
use Rattle.fsck_run.specs.declared.fault.FsckFault.TheVariants as faults
use Rattle.fsck_run.specs.declared.stages.Check.{Check}
use Rattle.fsck_run.specs.declared.stages.Stepped.{Stepped}
use Rattle.fsck_run.specs.declared.stages.Stepped.TheVariants as stepped
use Rattle.fsck_run.specs.Check.{Move, More, Done, moved, step_after, rest_after, check_after, after_steps}
use Rattle.fsck_run.specs.Faults.{IsRefusal}
use Rattle.fsck_run.specs.Progress.{Progress, begun, progress_of}
use Rattle.fsck_run.specs.Starts.{OverTold}
use Rattle.fsck_run.specs.Steps.{IsAt, IsEnd, IsStep, IsBeforeOrBehind, IsStopped, IsChecked, IsBrokenOff, IsUnchanged}
use Rattle.fsck_run.proofs.Refused.{IsStopped-kept}
use Rattle.fsck_run.proofs.Underway.{IsUnderway, Goes, step_goes, first_step_goes}
use Rattle.fsck_run.proofs.WholeChecks.{rest_after-more, rest_after-done, rest_after-refused}

-- so many steps led to where the program is
pub record IsUnderCheck (t : Told) (o : Objects) (check : Check) (tables : Option Told) (store : Option Objects) : Type 0 where
  pub steps : ℕ
  pub reached : Progress
  pub by_steps : after_steps steps (begun t o) ≡ Some reached
  pub stands : IsAt reached check tables store
  pub kept : (reached ≡ begun t o) ⊎ IsUnderway reached
  pub rest : rest_after reached ≡ check_after t o

pub IsUnderCheck-begun : (t : Told) (o : Objects) (check : Check) (tables : Option Told) (store : Option Objects) → progress_of check t o ≡ begun t o
    → tables ≡ Some t → store ≡ Some o → IsUnderCheck t o check tables store
IsUnderCheck-begun t o check tables store is told held = record {
  steps = 0;
  reached = begun t o;
  by_steps = refl;
  stands = record { tables_are = told; store_is = held; progress = is };
  kept = inl refl;
  rest = refl;
}

module _ (t : Told) (o : Objects) (ordered : IsOrdered t.tables) (keys_ordered : AreOrdered o) where
  tables_ordered : (s : Progress) → (s ≡ begun t o) ⊎ IsUnderway s → IsOrdered s.told.tables
  tables_ordered s (inl is) = subst (λ (u : Progress). IsOrdered u.told.tables) (sym is) ordered
  tables_ordered s (inr underway) = underway.sound.ordered

  store_ordered : (s : Progress) → (s ≡ begun t o) ⊎ IsUnderway s → AreOrdered s.store
  store_ordered s (inl is) = subst (λ (u : Progress). AreOrdered u.store) (sym is) keys_ordered
  store_ordered s (inr underway) = underway.sound.keys_ordered

  -- a step that made a change goes on
  goes : (s u : Progress) → (s ≡ begun t o) ⊎ IsUnderway s → step_after s ≡ Ok (More u) → IsUnderway u
  goes s u (inl is) made =
      first_step_goes s u (ap (λ (v : Progress). v.stage) is) (tables_ordered s (inl is)) (store_ordered s (inl is)) made
  goes s u (inr underway) made = subst Goes made (step_goes s underway)

  module _ (check check_then : Check) (tables tables_then : Option Told) (store store_then : Option Objects) (under : IsUnderCheck t o check tables store) where
    -- what is told of a step, where the program is
    told_there : (P : Progress → Type 0) → OverTold tables store (λ u p. P (progress_of check u p)) → P under.reached
    told_there P over =
        let s = under.reached in
        subst P under.stands.progress
        (over s.told s.store under.stands.tables_are under.stands.store_is (tables_ordered s under.kept) (store_ordered s under.kept))

    pub step_more : (answer : Stepped) → answer ≡ stepped.More
        → OverTold tables store (λ u p. IsStep (step_after (progress_of check u p)) answer check_then tables_then store_then)
        → IsUnderCheck t o check_then tables_then store_then
    step_more answer more over =
        by_case (step_after under.reached) refl
        (subst (λ (a : Stepped). IsStep (step_after under.reached) a check_then tables_then store_then) more
        (told_there (λ s. IsStep (step_after s) answer check_then tables_then store_then) over))
      where
        by_case : (out : Result Move FsckFault) → step_after under.reached ≡ out → IsStep out stepped.More check_then tables_then store_then
            → IsUnderCheck t o check_then tables_then store_then
        by_case (Ok (More u)) is stands = record {
          steps = suc under.steps;
          reached = u;
          by_steps = ap (option_and_then (λ v. moved (step_after v))) under.by_steps ∙ ap moved is;
          stands = stands;
          kept = inr (goes under.reached u under.kept is);
          rest = sym (rest_after-more under.reached u is) ∙ under.rest;
        }
        by_case (Ok (Done u)) is never = absurd never
        by_case (Err fault) is never = absurd never

    pub step_done : (answer : Stepped) (lines : List (List ℕ)) → answer ≡ stepped.Done lines
        → OverTold tables store (λ u p. IsStep (step_after (progress_of check u p)) answer check_then tables_then store_then)
        → IsChecked (check_after t o) lines tables_then store_then
    step_done answer lines done over =
        by_case (step_after under.reached) refl
        (subst (λ (a : Stepped). IsStep (step_after under.reached) a check_then tables_then store_then) done
        (told_there (λ s. IsStep (step_after s) answer check_then tables_then store_then) over))
      where
        by_case : (out : Result Move FsckFault) → step_after under.reached ≡ out → IsStep out (stepped.Done lines) check_then tables_then store_then
            → IsChecked (check_after t o) lines tables_then store_then
        by_case (Ok (More u)) is never = absurd never
        by_case (Ok (Done u)) is ends =
            subst (λ (r : Result Progress FsckFault). IsChecked r lines tables_then store_then)
            (sym (rest_after-done under.reached u is) ∙ under.rest) ends
        by_case (Err fault) is never = absurd never

    pub step_refused : (fault : FsckFault) → OverTold tables store (λ u p. IsStopped fault (progress_of check u p) tables_then store_then)
        → IsBrokenOff fault t o tables_then store_then
    step_refused fault over =
        let stopped = told_there (λ s. IsStopped fault s tables_then store_then) over in
        record {
          refusal = refused fault stopped.refusal;
          steps = under.steps;
          reached = under.reached;
          by_steps = under.by_steps;
          stopped = stopped;
        }
      where
        whole : (e : FsckFault) → step_after under.reached ≡ Err e → check_after t o ≡ Err e
        whole e is = sym under.rest ∙ rest_after-refused under.reached e is

        refused : (e : FsckFault) → IsRefusal (step_after under.reached) e → IsRefusal (check_after t o) e
        refused faults.Keeper is = tt
        refused faults.Link is = tt
        refused faults.Memory is = tt
        refused faults.NoFileSystem is = whole faults.NoFileSystem is
        refused (faults.Newer newer keeper) is = whole (faults.Newer newer keeper) is
        refused (faults.Slots slot) is = whole (faults.Slots slot) is
        refused faults.Worn is = whole faults.Worn is

    -- a refusal that no check underway gives
    first_refused : (e : FsckFault) → (IsUnderway under.reached → ⊥) → step_after under.reached ≡ Err e → IsStopped e under.reached tables_then store_then
        → (tables_then ≡ Some t) × (store_then ≡ Some o)
    first_refused e never is stopped = by_case under.kept
      where
        by_case : (under.reached ≡ begun t o) ⊎ IsUnderway under.reached → (tables_then ≡ Some t) × (store_then ≡ Some o)
        by_case (inl first) = (
          stopped.tables_stay ∙ ap (λ (s : Progress). Some s.told) first,
          subst (λ (out : Result Move FsckFault). IsBeforeOrBehind out under.reached.store store_then) is stopped.store_is ∙ ap (λ (s : Progress). Some s.store) first,
        )
        by_case (inr underway) = absurd (never underway)

    pub step_unchanged : (fault : FsckFault) → OverTold tables store (λ u p. IsStopped fault (progress_of check u p) tables_then store_then)
        → IsUnchanged fault t o tables_then store_then
    step_unchanged fault over = by_case fault (told_there (λ s. IsStopped fault s tables_then store_then) over)
      where
        by_case : (e : FsckFault) → IsStopped e under.reached tables_then store_then → IsUnchanged e t o tables_then store_then
        by_case faults.NoFileSystem stopped =
            first_refused faults.NoFileSystem (λ underway. subst Goes stopped.refusal (step_goes under.reached underway)) stopped.refusal stopped
        by_case (faults.Newer newer keeper) stopped =
            first_refused (faults.Newer newer keeper) (λ underway. subst Goes stopped.refusal (step_goes under.reached underway)) stopped.refusal stopped
        by_case (faults.Slots slot) stopped =
            first_refused (faults.Slots slot) (λ underway. subst Goes stopped.refusal (step_goes under.reached underway)) stopped.refusal stopped
        by_case faults.Worn stopped = tt
        by_case faults.Keeper stopped = tt
        by_case faults.Link stopped = tt
        by_case faults.Memory stopped = tt

-- no memory for more steps
pub out_of_steps : (t : Told) (o : Objects) (check : Check) (tables : Option Told) (store : Option Objects) → IsUnderCheck t o check tables store
    → IsBrokenOff faults.Memory t o tables store
out_of_steps t o check tables store under = record {
  refusal = tt;
  steps = under.steps;
  reached = under.reached;
  by_steps = under.by_steps;
  stopped = IsStopped-kept faults.Memory under.reached tables store tt under.stands.tables_are under.stands.store_is;
}
