-- Which device failed, and where a check is refused by what it checks.
use Rattle.std.specs.Prelude.{◌≡◌, Bool, true, false, Result, Ok, Err}
use Rattle.fsck_run.specs.declared.fault.FsckFault.{FsckFault}
use Rattle.fsck_run.specs.declared.fault.FsckFault.TheVariants as faults

abbrev pub keeper_has_failed : {A : Type 0} → Result A FsckFault → Bool
keeper_has_failed (Err faults.Keeper) = true
keeper_has_failed _ = false

abbrev pub link_has_failed : {A : Type 0} → Result A FsckFault → Bool
link_has_failed (Err faults.Link) = true
link_has_failed _ = false

-- the second after the first, where that is not refused
infixl 10 ◌>>=◌
abbrev pub ◌>>=◌ : {A B : Type 0} → Result A FsckFault → (A → Result B FsckFault) → Result B FsckFault
(Ok x) >>= f = f x
(Err fault) >>= f = Err fault

-- a device failed, there was no memory, or exactly this is refused
abbrev pub IsRefusal : {A : Type 0} → Result A FsckFault → FsckFault → Type 0
IsRefusal out faults.Keeper = Unit {0}
IsRefusal out faults.Link = Unit {0}
IsRefusal out faults.Memory = Unit {0}
IsRefusal out faults.NoFileSystem = out ≡ Err faults.NoFileSystem
IsRefusal out (faults.Newer store keeper) = out ≡ Err (faults.Newer store keeper)
IsRefusal out (faults.Slots slot) = out ≡ Err (faults.Slots slot)
IsRefusal out faults.Worn = out ≡ Err faults.Worn

-- a device failed, or there was no memory
abbrev pub IsOfDevice : FsckFault → Type 0
IsOfDevice faults.Keeper = Unit {0}
IsOfDevice faults.Link = Unit {0}
IsOfDevice faults.Memory = Unit {0}
IsOfDevice _ = ⊥
