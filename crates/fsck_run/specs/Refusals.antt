-- What a check refuses before it changes anything.
use Rattle.std.specs.Prelude.{ℕ, List, [], ◌∷◌, max, nat_lt, Option, None, Some, Result, Ok, Err, if◌then◌else◌}
use Rattle.s3_rows.specs.Rows.{Slot, Parameters}
use Rattle.s3_rows.specs.Tables.{Tables}
use Rattle.s3_devices.specs.declared.key_list.KeyItem.{KeyItem}
use Rattle.s3_devices.specs.Objects.{Objects}
use Rattle.metadata_backup.specs.Numbers.{generation_of}
use Rattle.fsck_run.specs.declared.fault.FsckFault.{FsckFault}
use Rattle.fsck_run.specs.declared.fault.FsckFault.TheVariants as faults
use Rattle.fsck_run.specs.Faults.{◌>>=◌}
use Rattle.fsck_run.specs.Listing.{own_keys}

-- the generation that a key names, or 0
abbrev pub generation_or_zero : KeyItem → ℕ
generation_or_zero k = elim (generation_of k.key) [ Some n ↦ n | None ↦ 0 ]

-- the greatest generation that keys name, or 0
abbrev pub newest : List KeyItem → ℕ
newest [] = 0
newest (k ∷ ks) = max (generation_or_zero k) (newest ks)

-- a store that is newer than the keeper
abbrev pub newer_refusal : ℕ → ℕ → Result (Unit {0}) FsckFault
newer_refusal store keeper = if nat_lt keeper store then Err (faults.Newer store keeper) else Ok tt

-- a block on the cache disk: the least slot that has one
abbrev pub slots_refusal : List Slot → Result (Unit {0}) FsckFault
slots_refusal [] = Ok tt
slots_refusal (r ∷ rs) = Err (faults.Slots r.slot)

-- a file system has parameters
abbrev pub parameters_of : Option Parameters → Result Parameters FsckFault
parameters_of (Some p) = Ok p
parameters_of None = Err faults.NoFileSystem

-- the parameters of tables that are not refused beside these keys. The refusals are in this order
abbrev pub admitted_beside : List KeyItem → Tables → Result Parameters FsckFault
admitted_beside keys t = do
  p ← parameters_of t.params
  newer ← newer_refusal (newest keys) p.generation
  slots ← slots_refusal t.slots
  Ok p

-- the same beside a store
abbrev pub admitted : Tables → Objects → Result Parameters FsckFault
admitted t o = admitted_beside (own_keys o) t
