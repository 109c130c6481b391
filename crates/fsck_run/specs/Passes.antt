-- The passes of a check that are one batch each, as functions of the tables and of the keys that the store lists; and what it leaves of
-- tables to commit a batch that is not empty.
use Rattle.std.specs.Prelude.{◌≡◌, ℕ, List, [], ◌∷◌, ◌++◌, max, map, Bool, true, false, Option, None, Some, option_map, Result, Ok, Err}
use Rattle.s3_rows.specs.declared.change.Change.{Change}
use Rattle.s3_rows.specs.declared.change.Change.TheVariants as changes
use Rattle.s3_rows.specs.declared.params.State.{State}
use Rattle.s3_rows.specs.declared.params.State.TheVariants as states
use Rattle.s3_rows.specs.Rows.{Parameters}
use Rattle.s3_rows.specs.Tables.{Tables}
use Rattle.s3_rows.specs.Told.{Told, with_batch}
use Rattle.s3_devices.specs.declared.key_list.KeyItem.{KeyItem}
use Rattle.fsck_findings.specs.declared.repair.Repair.{Repair}
use Rattle.fsck_findings.specs.declared.repair.PassFault.{PassFault}
use Rattle.fsck_findings.specs.declared.repair.PassFault.TheVariants as pass_faults
use Rattle.fsck_findings.specs.Line.{line_of}
use Rattle.fsck_findings.specs.Found.{Found, ◌then_also◌}
use Rattle.fsck_findings.specs.Work.{above, inodes_in_use, names_in_use, blocks_in_use}
use Rattle.fsck_names.specs.Made.{Made}
use Rattle.fsck_names.specs.Pass.{pass_on_names}
use Rattle.fsck_names.specs.Losses.{pass_on_losses}
use Rattle.fsck_tables.specs.Rows.{repaired_rows}
use Rattle.fsck_tables.specs.Counts.{repaired_counts}
use Rattle.fsck_objects.specs.Missing.{repaired_objects}
use Rattle.fsck_objects.specs.Numbers.{raised_objects}
use Rattle.fsck_run.specs.declared.fault.FsckFault.{FsckFault}
use Rattle.fsck_run.specs.declared.fault.FsckFault.TheVariants as faults
use Rattle.fsck_run.specs.declared.stage.Batched.{Batched}
use Rattle.fsck_run.specs.declared.stage.Batched.TheVariants as batched
use Rattle.fsck_run.specs.Faults.{◌>>=◌}
use Rattle.fsck_run.specs.Refusals.{parameters_of}

-- ---- passes, each of which gives none where it needs a number and none is left

abbrev pub found_of : Made → Found
found_of m = record { changes = m.batch; findings = m.found }

abbrev pub names_found : List KeyItem → Tables → Option Found
names_found keys t = option_map found_of (pass_on_names t)

-- the parameters with the numbers that come next as the pass on rows leaves them
abbrev pub raised : Tables → Parameters → Parameters
raised t p = record p {
  next_inode = max p.next_inode (above (inodes_in_use t));
  next_name = max p.next_name (above (names_in_use t));
  next_block = max p.next_block (above (blocks_in_use t));
}

-- the number that the next object gets is raised last
abbrev pub rows_found : List KeyItem → Tables → Option Found
rows_found keys t = option_map (λ p. repaired_rows p t then_also raised_objects keys t (raised t p)) t.params

abbrev pub objects_found : List KeyItem → Tables → Option Found
objects_found keys t = Some (repaired_objects keys t)

abbrev pub losses_found : List KeyItem → Tables → Option Found
losses_found keys t = option_map found_of (pass_on_losses t)

abbrev pub counts_found : List KeyItem → Tables → Option Found
counts_found keys t = Some (repaired_counts t)

abbrev pub found_by : Batched → List KeyItem → Tables → Option Found
found_by batched.Names = names_found
found_by batched.Rows = rows_found
found_by batched.Objects = objects_found
found_by batched.Losses = losses_found
found_by batched.Counts = counts_found

-- ---- answers

-- what a pass finds in the tables of a file system, where it needs no number that is not left
abbrev pub found_in : (Tables → Option Found) → Tables → Result Found FsckFault
found_in found t = parameters_of t.params >>= (λ p. elim (found t) [ Some f ↦ Ok f | None ↦ Err faults.Worn ])

-- exactly the changes and the lines that are found, that a number is needed and not left, or that there was no memory
abbrev pub IsRepair : Option Found → Result Repair PassFault → Type 0
IsRepair None (Ok r) = ⊥
IsRepair (Some f) (Ok r) = (r.batch ≡ f.changes) × (r.findings ≡ map line_of f.findings)
IsRepair found (Err pass_faults.Worn) = found ≡ None
IsRepair found (Err pass_faults.Memory) = Unit {0}

-- an empty batch is not committed
abbrev pub committed : List Change → Told → Told
committed [] s = s
committed (c ∷ cs) s = with_batch (c ∷ cs) s

abbrev pub is_some_batch : List Change → Bool
is_some_batch [] = false
is_some_batch (c ∷ cs) = true

-- the batch of a pass was committed, and its lines were added
pub record IsTakenAs (f : Found) (before : Told) (after : Option Told) (old new : List (List ℕ)) (made : Bool) : Type 0 where
  pub told : after ≡ Some (committed f.changes before)
  pub lines : new ≡ old ++ map line_of f.findings
  pub made_is : made ≡ is_some_batch f.changes

-- the same, of a pass that was not refused
abbrev pub IsTaken : Result Found FsckFault → Told → Option Told → List (List ℕ) → List (List ℕ) → Bool → Type 0
IsTaken (Err fault) before after old new made = ⊥
IsTaken (Ok f) before after old new made = IsTakenAs f before after old new made

-- ---- the state of the file system

-- it is set
abbrev pub state_change : Parameters → State → Change
state_change p state = changes.SetParams (record p { state = state })

-- a clean file system is marked as one that is not
abbrev pub mark_of : Parameters → List Change
mark_of p = elim p.state [ states.Clean ↦ state_change p states.Restored ∷ [] | states.Mounted ↦ [] | states.Restored ↦ [] ]
