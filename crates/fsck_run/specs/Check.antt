-- What a check does from each stage on. It is read in two ways: up to the next change, which is a step, and to the end, which is the whole
-- check.
use Rattle.std.specs.Prelude.{ℕ, zero, suc, List, [], ◌∷◌, ◌++◌, map, Bool, true, Option, None, Some, Result, Ok, Err, option_and_then, if◌then◌else◌}
use Rattle.s3_rows.specs.declared.change.Change.{Change}
use Rattle.s3_rows.specs.declared.params.State.TheVariants as states
use Rattle.s3_rows.specs.Rows.{Parameters}
use Rattle.s3_rows.specs.Tables.{Tables}
use Rattle.s3_rows.specs.Told.{Told}
use Rattle.s3_devices.specs.declared.key_list.KeyItem.{KeyItem}
use Rattle.s3_devices.specs.Objects.{Objects, without_object}
use Rattle.fsck_findings.specs.Found.{Found}
use Rattle.fsck_findings.specs.Line.{line_of}
use Rattle.fsck_objects.specs.Store.{repaired_store, stray_keys, unused_keys}
use Rattle.fsck_run.specs.declared.fault.FsckFault.{FsckFault}
use Rattle.fsck_run.specs.declared.stage.Batched.TheVariants as batched
use Rattle.fsck_run.specs.declared.stage.Stage.{Stage}
use Rattle.fsck_run.specs.declared.stage.Stage.TheVariants as stages
use Rattle.fsck_run.specs.Faults.{◌>>=◌}
use Rattle.fsck_run.specs.Listing.{own_keys}
use Rattle.fsck_run.specs.Passes.{names_found, rows_found, objects_found, losses_found, counts_found, found_in, committed, is_some_batch, state_change, mark_of}
use Rattle.fsck_run.specs.Progress.{Progress, begun, at_stage}
use Rattle.fsck_run.specs.Refusals.{admitted, parameters_of}

-- ---- how far

-- what comes behind a stage, which made a change or none and has a rest, and what the end gives
pub record Way (A : Type 0) : Type 0 where
  pub on : Bool → (Progress → Result A FsckFault) → Progress → Result A FsckFault
  pub over : Progress → A

-- a change was made, or none was left
pub data Move : Type 0 where
  More : Progress → Move
  Done : Progress → Move

abbrev pub to_a_change : Way Move
to_a_change = record { on = λ made rest s. if made then Ok (More s) else rest s; over = λ s. Done s }

abbrev pub to_the_end : Way Progress
to_the_end = record { on = λ made rest s. rest s; over = λ s. s }

-- ---- what stages have in common

-- a batch is committed, unless it is empty
abbrev pub commits : {A : Type 0} → Way A → List Change → (Progress → Result A FsckFault) → Progress → Result A FsckFault
commits w batch rest s = w.on (is_some_batch batch) rest (record s { told = committed batch s.told })

-- keys go, one change each; `leaving` says which are left
abbrev pub deletes : {A : Type 0} → Way A → (List (List ℕ) → Progress → Progress) → (Progress → Result A FsckFault) → List (List ℕ) → Progress → Result A FsckFault
deletes w leaving rest [] s = rest s
deletes w leaving rest (k ∷ ks) s = w.on true (deletes w leaving rest ks) (leaving ks (record s { store = without_object k s.store }))

-- what a pass finds is committed, with its lines
abbrev pub passes : {A : Type 0} → Way A → Stage → (Progress → Result A FsckFault) → Progress → Found → Result A FsckFault
passes w next rest s f = commits w f.changes rest (record s { stage = next; lines = s.lines ++ map line_of f.findings })

-- ---- the stages, from the last on

-- state 0 comes last
unfoldable pub from_finish : {A : Type 0} → Way A → Progress → Result A FsckFault
from_finish w s = do
  p ← parameters_of s.told.tables.params
  commits w (state_change p states.Clean ∷ []) (λ t. Ok (w.over t)) (at_stage stages.Over s)

abbrev pub with_strays : List (List ℕ) → Progress → Progress
with_strays ks s = record s { strays = ks }

-- keys of objects without row, and of generations that were not stored whole, go
unfoldable pub from_strays : {A : Type 0} → Way A → Progress → Result A FsckFault
from_strays w s = deletes w with_strays (λ t. from_finish w (at_stage stages.Finish t)) s.strays s

-- rows of objects that no block has go, behind their keys
unfoldable pub from_unused_rows : {A : Type 0} → Way A → Progress → Result A FsckFault
from_unused_rows w s = commits w s.rows (from_strays w) (at_stage stages.StrayKeys s)

abbrev pub with_unused : List (List ℕ) → Progress → Progress
with_unused ks s = record s { unused = ks }

unfoldable pub from_unused_keys : {A : Type 0} → Way A → Progress → Result A FsckFault
from_unused_keys w s = deletes w with_unused (λ t. from_unused_rows w (at_stage stages.UnusedRows t)) s.unused s

-- what is to go from the store is noted, with its lines
abbrev pub with_store : Progress → Parameters → Progress
with_store s p = record s {
  stage = stages.UnusedKeys;
  lines = s.lines ++ map line_of (repaired_store s.keys s.told.tables p).findings;
  unused = unused_keys s.told.tables;
  rows = (repaired_store s.keys s.told.tables p).changes;
  strays = stray_keys s.told.tables p s.keys;
}

unfoldable pub from_store : {A : Type 0} → Way A → Progress → Result A FsckFault
from_store w s = parameters_of s.told.tables.params >>= (λ p. from_unused_keys w (with_store s p))

-- the passes, each over the tables as they are then, and the keys as they were listed
unfoldable pub from_counts : {A : Type 0} → Way A → Progress → Result A FsckFault
from_counts w s = found_in (counts_found s.keys) s.told.tables >>= passes w stages.Store (from_store w) s

unfoldable pub from_losses : {A : Type 0} → Way A → Progress → Result A FsckFault
from_losses w s = found_in (losses_found s.keys) s.told.tables >>= passes w (stages.Batch batched.Counts) (from_counts w) s

unfoldable pub from_objects : {A : Type 0} → Way A → Progress → Result A FsckFault
from_objects w s = found_in (objects_found s.keys) s.told.tables >>= passes w (stages.Batch batched.Losses) (from_losses w) s

unfoldable pub from_rows : {A : Type 0} → Way A → Progress → Result A FsckFault
from_rows w s = found_in (rows_found s.keys) s.told.tables >>= passes w (stages.Batch batched.Objects) (from_objects w) s

unfoldable pub from_names : {A : Type 0} → Way A → Progress → Result A FsckFault
from_names w s = found_in (names_found s.keys) s.told.tables >>= passes w (stages.Batch batched.Rows) (from_rows w) s

-- where nothing is refused, the store is listed, and a clean file system is marked
abbrev pub with_keys : Progress → Progress
with_keys s = record s { stage = stages.Batch batched.Names; keys = own_keys s.store }

unfoldable pub from_start : {A : Type 0} → Way A → Progress → Result A FsckFault
from_start w s = admitted s.told.tables s.store >>= (λ p. commits w (mark_of p) (from_names w) (with_keys s))

unfoldable pub from_stage : {A : Type 0} → Way A → Stage → Progress → Result A FsckFault
from_stage w stages.Start s = from_start w s
from_stage w (stages.Batch batched.Names) s = from_names w s
from_stage w (stages.Batch batched.Rows) s = from_rows w s
from_stage w (stages.Batch batched.Objects) s = from_objects w s
from_stage w (stages.Batch batched.Losses) s = from_losses w s
from_stage w (stages.Batch batched.Counts) s = from_counts w s
from_stage w stages.Store s = from_store w s
from_stage w stages.UnusedKeys s = from_unused_keys w s
from_stage w stages.UnusedRows s = from_unused_rows w s
from_stage w stages.StrayKeys s = from_strays w s
from_stage w stages.Finish s = from_finish w s
from_stage w stages.Over s = Ok (w.over s)

-- ---- the two ways

-- one step
abbrev pub step_after : Progress → Result Move FsckFault
step_after s = from_stage to_a_change s.stage s

-- all that is left
abbrev pub rest_after : Progress → Result Progress FsckFault
rest_after s = from_stage to_the_end s.stage s

-- a check of tables and a store
abbrev pub check_after : Told → Objects → Result Progress FsckFault
check_after t o = rest_after (begun t o)

-- so many steps, each of which makes a change
abbrev pub moved : Result Move FsckFault → Option Progress
moved (Ok (More s)) = Some s
moved (Ok (Done s)) = None
moved (Err fault) = None

abbrev pub after_steps : ℕ → Progress → Option Progress
after_steps zero s = Some s
after_steps (suc n) s = option_and_then (λ t. moved (step_after t)) (after_steps n s)
