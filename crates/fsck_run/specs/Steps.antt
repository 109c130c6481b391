-- What steps and checks of the program leave of what the keeper and the link tell.
use Rattle.std.specs.Prelude.{◌≡◌, ◌⊎◌, ℕ, List, Bool, true, false, Option, Some, Result, Ok, Err}
use Rattle.s3_rows.specs.Told.{Told}
use Rattle.s3_devices.specs.Objects.{Objects}
use Rattle.fsck_run.specs.declared.fault.FsckFault.{FsckFault}
use Rattle.fsck_run.specs.declared.fault.FsckFault.TheVariants as faults
use Rattle.fsck_run.specs.declared.stages.Check.{Check}
use Rattle.fsck_run.specs.declared.stages.Stepped.{Stepped}
use Rattle.fsck_run.specs.declared.stages.Stepped.TheVariants as stepped
use Rattle.fsck_run.specs.Check.{Move, More, Done, step_after, check_after, after_steps}
use Rattle.fsck_run.specs.Faults.{IsRefusal}
use Rattle.fsck_run.specs.Progress.{Progress, begun, progress_of}

-- the program is so far
pub record IsAt (s : Progress) (check : Check) (tables : Option Told) (store : Option Objects) : Type 0 where
  pub tables_are : tables ≡ Some s.told
  pub store_is : store ≡ Some s.store
  pub progress : progress_of check s.told s.store ≡ s

-- the check ended so, with these lines
pub record IsEnd (s : Progress) (lines : List (List ℕ)) (tables : Option Told) (store : Option Objects) : Type 0 where
  pub tables_are : tables ≡ Some s.told
  pub store_is : store ≡ Some s.store
  pub lines_are : lines ≡ s.lines

-- ---- steps

-- a step made its change, or none was left
abbrev pub IsStep : Result Move FsckFault → Stepped → Check → Option Told → Option Objects → Type 0
IsStep (Ok (More s)) stepped.More check tables store = IsAt s check tables store
IsStep (Ok (More s)) (stepped.Done lines) check tables store = ⊥
IsStep (Ok (Done s)) stepped.More check tables store = ⊥
IsStep (Ok (Done s)) (stepped.Done lines) check tables store = IsEnd s lines tables store
IsStep (Err fault) answer check tables store = ⊥

-- the store is as before the step or as behind it
abbrev pub IsBeforeOrBehind : Result Move FsckFault → Objects → Option Objects → Type 0
IsBeforeOrBehind (Ok (More s)) o store = (store ≡ Some o) ⊎ (store ≡ Some s.store)
IsBeforeOrBehind (Ok (Done s)) o store = store ≡ Some o
IsBeforeOrBehind (Err fault) o store = store ≡ Some o

-- a step was refused, which leaves the tables as they were
pub record IsStopped (fault : FsckFault) (s : Progress) (tables : Option Told) (store : Option Objects) : Type 0 where
  pub refusal : IsRefusal (step_after s) fault
  pub tables_stay : tables ≡ Some s.told
  pub store_is : IsBeforeOrBehind (step_after s) s.store store

-- a stage made the change of the step, or no change and the step goes on
abbrev pub IsStaged : Bool → Progress → Progress → Type 0
IsStaged true s t = step_after s ≡ Ok (More t)
IsStaged false s t = (step_after s ≡ step_after t) × (t.told ≡ s.told) × (t.store ≡ s.store)

pub record IsStagedTo (made : Bool) (s : Progress) (check : Check) (tables : Option Told) (store : Option Objects) : Type 0 where
  pub reached : Progress
  pub stands : IsAt reached check tables store
  pub staged : IsStaged made s reached

-- ---- checks

abbrev pub IsChecked : Result Progress FsckFault → List (List ℕ) → Option Told → Option Objects → Type 0
IsChecked (Ok s) lines tables store = IsEnd s lines tables store
IsChecked (Err fault) lines tables store = ⊥

-- so many steps were made, and the next one was refused
pub record IsBrokenOff (fault : FsckFault) (t : Told) (o : Objects) (tables : Option Told) (store : Option Objects) : Type 0 where
  pub refusal : IsRefusal (check_after t o) fault
  pub steps : ℕ
  pub reached : Progress
  pub by_steps : after_steps steps (begun t o) ≡ Some reached
  pub stopped : IsStopped fault reached tables store

-- what is refused at once changes nothing
abbrev pub IsUnchanged : FsckFault → Told → Objects → Option Told → Option Objects → Type 0
IsUnchanged faults.NoFileSystem t o tables store = (tables ≡ Some t) × (store ≡ Some o)
IsUnchanged (faults.Newer newer keeper) t o tables store = (tables ≡ Some t) × (store ≡ Some o)
IsUnchanged (faults.Slots slot) t o tables store = (tables ≡ Some t) × (store ≡ Some o)
IsUnchanged fault t o tables store = Unit {0}
