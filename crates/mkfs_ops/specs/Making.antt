-- What making a file system leaves in tables and in the store, and which answers it gives.
use Rattle.std.specs.Prelude.{◌≡◌, ℕ, ◌*◌, ◌^◌, ◌<◌, ◌≤◌, List, Bool, true, false, IsTrue, nat_eq, Some, Result, Ok, Err, codes}
use Rattle.std.specs.List.{list_any, starts_with}
use Rattle.std.specs.Map.{keys_of}
use Rattle.s3_rows.specs.Rows.{Parameters}
use Rattle.s3_rows.specs.Tables.{Tables}
use Rattle.s3_rows.specs.Made.{made_tables, made_parameters}
use Rattle.s3_devices.specs.Objects.{Objects}
use Rattle.mkfs_ops.specs.declared.settings.Settings.{Settings}
use Rattle.mkfs_ops.specs.declared.fault.MakeFault.{MakeFault}
use Rattle.mkfs_ops.specs.declared.fault.MakeFault.TheVariants as faults

-- ---- what is made

-- within the limits of blocks, of slots, of the cache disk and of times
pub record AreSettings (s : Settings) : Type 0 where
  pub least : 4096 ≤ s.block_size
  pub greatest : s.block_size ≤ 10485760
  pub slots : s.slots ≤ 65536
  pub disk : s.slots * s.block_size ≤ 2 ^ 32
  pub time : s.now < 2 ^ 62

-- the parameters, with the generation that is done
abbrev pub parameters_done : Settings → ℕ → Parameters
parameters_done s last_done = record (made_parameters s.block_size s.slots) { last_done = last_done }

-- the tables of a file system that was made with the settings
abbrev pub made_with : Settings → Tables
made_with s = made_tables s.block_size s.slots s.now

-- the same as their first generation has them, which is not done while it is dumped
abbrev pub first_tables : Settings → Tables
first_tables s = record (made_with s) { params = Some (parameters_done s 0) }

-- ---- what is there before

-- the key begins with `s3ql_`, as all keys of a file system do
abbrev pub is_own : List ℕ → Bool
is_own key = starts_with nat_eq key (codes "s3ql_")

-- some key is one of a file system
abbrev pub has_own_key : Objects → Bool
has_own_key o = list_any is_own (keys_of o)

-- ---- answers

-- of tables that were made, nothing is answered but that, a fault of the keeper, or want of memory
abbrev pub IsRightOfTables : Bool → Result (Unit {0}) MakeFault → Type 0
IsRightOfTables made (Err faults.Exists) = Unit {0}
IsRightOfTables made (Err faults.Keeper) = Unit {0}
IsRightOfTables made (Err faults.Memory) = Unit {0}
IsRightOfTables made _ = made ≡ false

-- over a store with a key of a file system none is made
abbrev pub IsRightOfStore : Bool → Result (Unit {0}) MakeFault → Type 0
IsRightOfStore used (Ok x) = used ≡ false
IsRightOfStore used (Err fault) = Unit {0}

-- Exists is answered only where something exists
abbrev pub IsRightOfBoth : Bool → Result (Unit {0}) MakeFault → Type 0
IsRightOfBoth exists (Err faults.Exists) = IsTrue exists
IsRightOfBoth exists _ = Unit {0}

-- the refusal is that something exists
abbrev pub IsExists : MakeFault → Type 0
IsExists faults.Exists = Unit {0}
IsExists _ = ⊥

-- ---- faults

-- the fault came from a device, or from want of memory
abbrev pub IsOfDevices : MakeFault → Type 0
IsOfDevices faults.Exists = ⊥
IsOfDevices _ = Unit {0}

abbrev pub keeper_has_failed : {A : Type 0} → Result A MakeFault → Bool
keeper_has_failed (Err faults.Keeper) = true
keeper_has_failed _ = false

abbrev pub link_has_failed : {A : Type 0} → Result A MakeFault → Bool
link_has_failed (Err faults.Link) = true
link_has_failed _ = false
