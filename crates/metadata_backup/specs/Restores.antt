-- What restoring a generation makes of tables, and which refusal comes first.
use Rattle.std.specs.Prelude.{◌≡◌, ◌≢◌, ℕ, ◌^◌, List, max, Bool, true, false, nat_lt, ◌&&◌, is_ok, IsTrue, Option, None, Some, Result, Ok, Err, option_map, if◌then◌else◌}
use Rattle.std.specs.Map.{keys_of}
use Rattle.s3_rows.specs.declared.params.State.TheVariants as states
use Rattle.s3_rows.specs.Rows.{Parameters}
use Rattle.s3_rows.specs.Tables.{Tables}
use Rattle.s3_rows.specs.Told.{Told, one_more}
use Rattle.s3_devices.specs.Keys.{generation_key}
use Rattle.s3_devices.specs.Objects.{Objects, held_at}
use Rattle.keeper_dump.specs.Dump.{dump_read}
use Rattle.keeper_dump.specs.declared.fault.DumpFault.{DumpFault}
use Rattle.keeper_dump.specs.declared.fault.DumpFault.TheVariants as dump_faults
use Rattle.metadata_backup.specs.declared.restore_fault.RestoreFault.{RestoreFault}
use Rattle.metadata_backup.specs.declared.restore_fault.RestoreFault.TheVariants as faults
use Rattle.metadata_backup.specs.Survey.{newest_in, objects_end}

-- ---- what is restored

-- a dump's parameters, restored over those of a keeper, by the newest generation of the store and one more than its greatest object
abbrev pub restored_parameters : Parameters → Option Parameters → ℕ → ℕ → Parameters
restored_parameters p before newest next = record p {
  state = states.Restored;
  generation = max newest (elim before [ Some b ↦ b.generation | None ↦ 0 ]);
  last_done = newest;
  next_object = max p.next_object next;
}

-- a dump's tables, restored
abbrev pub restored : Tables → Option Parameters → ℕ → ℕ → Tables
restored t before newest next = record t { params = option_map (λ p. restored_parameters p before newest next) t.params }

-- ---- what is to be restored

-- the bytes of a generation, whose number is from 1 to 2^62 - 1
abbrev pub generation_in : Objects → ℕ → Option (List ℕ)
generation_in o generation = if nat_lt 0 generation && nat_lt generation (2 ^ 62) then held_at o (generation_key generation) else None

-- what a dump is read as, or its fault
abbrev pub of_dump : Result Tables DumpFault → Result Tables RestoreFault
of_dump (Ok t) = Ok t
of_dump (Err fault) = Err (faults.Dump fault)

-- the tables whose dump the bytes are, or the first refusal
abbrev pub dumped_in : Option (List ℕ) → Result Tables RestoreFault
dumped_in None = Err faults.NoGeneration
dumped_in (Some bytes) = of_dump (dump_read bytes)

-- a generation's tables, or the first refusal by what the store holds
abbrev pub source_of : Objects → ℕ → Result Tables RestoreFault
source_of o generation = elim (newest_in (keys_of o)) [ Some newest ↦ dumped_in (generation_in o generation) | None ↦ Err faults.NoFileSystem ]

-- ---- answers

abbrev pub is_mounted : Option Parameters → Bool
is_mounted (Some p) = elim p.state [ states.Mounted ↦ true | states.Clean ↦ false | states.Restored ↦ false ]
is_mounted None = false

-- Mounted is answered of tables in this state alone, and of these nothing else but a fault of the keeper or want of memory
abbrev pub IsRightOfState : Bool → Result (Unit {0}) RestoreFault → Type 0
IsRightOfState mounted (Err faults.Mounted) = IsTrue mounted
IsRightOfState mounted (Err faults.Keeper) = Unit {0}
IsRightOfState mounted (Err faults.Memory) = Unit {0}
IsRightOfState mounted _ = mounted ≡ false

-- the refusal is that of the store, or one that the store does not decide
abbrev pub IsRefusal : Result Tables RestoreFault → RestoreFault → Type 0
IsRefusal source faults.NoFileSystem = source ≡ Err faults.NoFileSystem
IsRefusal source faults.NoGeneration = source ≡ Err faults.NoGeneration
IsRefusal source (faults.Dump fault) = source ≡ Err (faults.Dump fault)
IsRefusal source _ = Unit {0}

-- where the answer is Ok there are tables, and else it is right as a refusal
abbrev pub IsRightOfSource : Result Tables RestoreFault → Result (Unit {0}) RestoreFault → Type 0
IsRightOfSource source (Ok x) = IsTrue (is_ok source)
IsRightOfSource source (Err fault) = IsRefusal source fault

-- what is found of a generation: its tables, the newest one, and one more than the greatest data object
pub record IsFoundIn (o : Objects) (generation : ℕ) (tables : Tables) (newest next_object : ℕ) : Type 0 where
  pub source : source_of o generation ≡ Ok tables
  pub newest_is : newest_in (keys_of o) ≡ Some newest
  pub next_is : next_object ≡ objects_end (keys_of o)

-- the generation's tables stand, by one batch, over those that stood before
pub record IsRestored (generation : ℕ) (before : Told) (o : Objects) (after : Option Told) : Type 0 where
  pub dumped : Tables
  pub newest : ℕ
  pub found : IsFoundIn o generation dumped newest (objects_end (keys_of o))
  pub told : after ≡ Some (record { tables = restored dumped before.tables.params newest (objects_end (keys_of o)); commits = one_more before.commits })

-- ---- faults

abbrev pub keeper_has_failed : {A : Type 0} → Result A RestoreFault → Bool
keeper_has_failed (Err faults.Keeper) = true
keeper_has_failed _ = false

abbrev pub link_has_failed : {A : Type 0} → Result A RestoreFault → Bool
link_has_failed (Err faults.Link) = true
link_has_failed _ = false

-- no fault of a dump is want of memory
abbrev pub IsNoWantOfMemory : RestoreFault → Type 0
IsNoWantOfMemory (faults.Dump fault) = fault ≢ dump_faults.Memory
IsNoWantOfMemory _ = Unit {0}

-- the fault came from what the store holds, from the link, or from want of memory
abbrev pub IsOfStore : RestoreFault → Type 0
IsOfStore faults.Mounted = ⊥
IsOfStore faults.Keeper = ⊥
IsOfStore _ = Unit {0}
