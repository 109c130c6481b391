-- How a check begins and ends in tables and a store that are told.
use Rattle.std.specs.Prelude.{◌≡◌, List, [], ◌∷◌, map, Bool, Option, Some, Ok}
use Rattle.s3_rows.specs.declared.params.State.TheVariants as states
use Rattle.s3_rows.specs.Rows.{Parameters}
use Rattle.s3_rows.specs.Tables.{Tables, IsOrdered}
use Rattle.s3_rows.specs.Told.{Told, with_batch}
use Rattle.s3_devices.specs.declared.key_list.KeyItem.{KeyItem}
use Rattle.s3_devices.specs.Objects.{Objects, AreOrdered}
use Rattle.fsck_findings.specs.Line.{line_of}
use Rattle.fsck_objects.specs.declared.store_pass.StoreRepair.{StoreRepair}
use Rattle.fsck_objects.specs.Store.{repaired_store, stray_keys, unused_keys}
use Rattle.fsck_run.specs.Listing.{own_keys}
use Rattle.fsck_run.specs.Passes.{committed, is_some_batch, mark_of, state_change}
use Rattle.fsck_run.specs.Refusals.{admitted, parameters_of}

-- the fact holds of tables and objects in order, where both are told
abbrev pub OverTold : Option Told → Option Objects → (Told → Objects → Type 0) → Type 0
OverTold tables store P = (t : Told) (o : Objects) → tables ≡ Some t → store ≡ Some o → IsOrdered t.tables → AreOrdered o → P t o

-- nothing was refused, the keys were listed, and a clean file system was marked
pub record IsStarted (t : Told) (o : Objects) (keys : List KeyItem) (marked : Bool) (tables : Option Told) : Type 0 where
  pub params : Parameters
  pub admitted_is : admitted t.tables o ≡ Ok params
  pub keys_are : keys ≡ own_keys o
  pub marked_is : marked ≡ is_some_batch (mark_of params)
  pub tables_are : tables ≡ Some (committed (mark_of params) t)

-- the file system was marked as clean
pub record IsFinished (t : Told) (tables : Option Told) : Type 0 where
  pub params : Parameters
  pub params_are : parameters_of t.tables.params ≡ Ok params
  pub tables_are : tables ≡ Some (with_batch (state_change params states.Clean ∷ []) t)

-- what is to go from the store and the tables is found
pub record IsStoreFound (keys : List KeyItem) (t : Tables) (r : StoreRepair) : Type 0 where
  pub params : Parameters
  pub params_are : parameters_of t.params ≡ Ok params
  pub unused : r.unused ≡ unused_keys t
  pub strays : r.strays ≡ stray_keys t params keys
  pub batch : r.repair.batch ≡ (repaired_store keys t params).changes
  pub findings : r.repair.findings ≡ map line_of (repaired_store keys t params).findings
