-- Refusals through the parts of a check.
use Rattle.std.proofs.Common.{◌≡◌, Option, Some, Result, Ok, Err, inl, inr, refl, sym, ap, subst}
use Rattle.s3_rows.specs.Told.{Told}
use Rattle.s3_devices.specs.Objects.{Objects}
use Rattle.fsck_run.specs.declared.fault.FsckFault.{FsckFault}
use Rattle.fsck_run.specs.declared.fault.FsckFault.TheVariants as faults
use Rattle.fsck_run.specs.Check.{Move, More, Done, step_after}
use Rattle.fsck_run.specs.Faults.{◌>>=◌, IsOfDevice, IsRefusal}
use Rattle.fsck_run.specs.Progress.{Progress}
use Rattle.fsck_run.specs.Steps.{IsBeforeOrBehind, IsStopped}

pub then_ok : {A B : Type 0} (r : Result A FsckFault) (x : A) (f : A → Result B FsckFault) → r ≡ Ok x → (r >>= f) ≡ f x
then_ok {A} r x f is = ap (λ (q : Result A FsckFault). q >>= f) is

-- ---- IsRefusal

pub IsRefusal-of_device : {A : Type 0} (out : Result A FsckFault) (fault : FsckFault) → IsOfDevice fault → IsRefusal out fault
IsRefusal-of_device out faults.Keeper of = tt
IsRefusal-of_device out faults.Link of = tt
IsRefusal-of_device out faults.Memory of = tt
IsRefusal-of_device out faults.NoFileSystem of = absurd of
IsRefusal-of_device out (faults.Newer store keeper) of = absurd of
IsRefusal-of_device out (faults.Slots slot) of = absurd of
IsRefusal-of_device out faults.Worn of = absurd of

-- what is refused first is refused
pub IsRefusal-then : {A B : Type 0} (r : Result A FsckFault) (f : A → Result B FsckFault) (fault : FsckFault) → IsRefusal r fault → IsRefusal (r >>= f) fault
IsRefusal-then r f faults.Keeper is = tt
IsRefusal-then r f faults.Link is = tt
IsRefusal-then r f faults.Memory is = tt
IsRefusal-then {A} r f faults.NoFileSystem is = ap (λ (q : Result A FsckFault). q >>= f) is
IsRefusal-then {A} r f (faults.Newer store keeper) is = ap (λ (q : Result A FsckFault). q >>= f) is
IsRefusal-then {A} r f (faults.Slots slot) is = ap (λ (q : Result A FsckFault). q >>= f) is
IsRefusal-then {A} r f faults.Worn is = ap (λ (q : Result A FsckFault). q >>= f) is

-- the same, of a result that is spelled otherwise
pub refused_first : {A B : Type 0} (out : Result B FsckFault) (r : Result A FsckFault) (f : A → Result B FsckFault) (fault : FsckFault)
    → out ≡ (r >>= f) → IsRefusal r fault → IsRefusal out fault
refused_first {A} {B} out r f fault is refused = subst (λ (x : Result B FsckFault). IsRefusal x fault) (sym is) (IsRefusal-then r f fault refused)

-- ---- IsStopped

pub IsBeforeOrBehind-kept : (out : Result Move FsckFault) (o : Objects) → IsBeforeOrBehind out o (Some o)
IsBeforeOrBehind-kept (Ok (More s)) o = inl refl
IsBeforeOrBehind-kept (Ok (Done s)) o = refl
IsBeforeOrBehind-kept (Err fault) o = refl

-- a refusal that left all as it was
pub IsStopped-kept : (fault : FsckFault) (s : Progress) (tables : Option Told) (store : Option Objects) → IsRefusal (step_after s) fault
    → tables ≡ Some s.told → store ≡ Some s.store → IsStopped fault s tables store
IsStopped-kept fault s tables store refused told held = record {
  refusal = refused;
  tables_stay = told;
  store_is = subst (IsBeforeOrBehind (step_after s) s.store) (sym held) (IsBeforeOrBehind-kept (step_after s) s.store);
}
