-- A check that comes to its end leaves a file system that is marked as clean.
use Rattle.std.proofs.Common.{◌≡◌, ℕ, List, [], ◌∷◌, ◌++◌, map, Some, Result, Ok, Err, refl, subst}
use Rattle.std.specs.Prelude.{option_map}
use Rattle.s3_rows.specs.declared.params.State.TheVariants as states
use Rattle.s3_rows.specs.Told.{Told}
use Rattle.s3_devices.specs.Objects.{Objects, without_object}
use Rattle.fsck_findings.specs.Found.{Found}
use Rattle.fsck_findings.specs.Line.{line_of}
use Rattle.fsck_run.specs.declared.fault.FsckFault.{FsckFault}
use Rattle.fsck_run.specs.declared.stage.Batched.TheVariants as batched
use Rattle.fsck_run.specs.declared.stage.Stage.{Stage}
use Rattle.fsck_run.specs.declared.stage.Stage.TheVariants as stages
use Rattle.fsck_run.specs.Check.{to_the_end, commits, deletes, passes, with_strays, with_unused, with_store, with_keys, from_finish, from_strays, from_unused_rows, from_unused_keys, from_store, from_counts, from_losses, from_objects, from_rows, from_names, from_start, from_stage, check_after}
use Rattle.fsck_run.specs.Faults.{◌>>=◌}
use Rattle.fsck_run.specs.Passes.{names_found, rows_found, objects_found, losses_found, counts_found, found_in, committed, state_change, mark_of}
use Rattle.fsck_run.specs.Progress.{Progress, begun, at_stage}
use Rattle.fsck_run.specs.Refusals.{admitted, parameters_of}

abbrev EndsClean : Result Progress FsckFault → Type 0
EndsClean (Ok s) = option_map (λ p. p.state) s.told.tables.params ≡ Some states.Clean
EndsClean (Err fault) = Unit {0}

then_ends : {A : Type 0} (r : Result A FsckFault) (f : A → Result Progress FsckFault) → ((x : A) → EndsClean (f x)) → EndsClean (r >>= f)
then_ends (Ok x) f ends = ends x
then_ends (Err fault) f ends = tt

deletes_end : (leaving : List (List ℕ) → Progress → Progress) (rest : Progress → Result Progress FsckFault) → ((s : Progress) → EndsClean (rest s))
    → (ks : List (List ℕ)) (s : Progress) → EndsClean (deletes to_the_end leaving rest ks s)
deletes_end leaving rest ends [] s = ends s
deletes_end leaving rest ends (k ∷ ks) s = deletes_end leaving rest ends ks (leaving ks (record s { store = without_object k s.store }))

passes_end : (next : Stage) (rest : Progress → Result Progress FsckFault) → ((s : Progress) → EndsClean (rest s))
    → (r : Result Found FsckFault) (s : Progress) → EndsClean (r >>= passes to_the_end next rest s)
passes_end next rest ends r s =
    then_ends r (passes to_the_end next rest s) (λ f.
    ends (record s { stage = next; lines = s.lines ++ map line_of f.findings; told = committed f.changes s.told }))

finish_ends : (s : Progress) → EndsClean (from_finish to_the_end s)
unfolding from_finish
finish_ends s =
    then_ends (parameters_of s.told.tables.params)
    (λ p. commits to_the_end (state_change p states.Clean ∷ []) (λ t. Ok t) (at_stage stages.Over s)) (λ p. refl)

strays_end : (s : Progress) → EndsClean (from_strays to_the_end s)
unfolding from_strays
strays_end s = deletes_end with_strays (λ t. from_finish to_the_end (at_stage stages.Finish t)) (λ t. finish_ends (at_stage stages.Finish t)) s.strays s

unused_rows_end : (s : Progress) → EndsClean (from_unused_rows to_the_end s)
unfolding from_unused_rows
unused_rows_end s = strays_end (record s { stage = stages.StrayKeys; told = committed s.rows s.told })

unused_keys_end : (s : Progress) → EndsClean (from_unused_keys to_the_end s)
unfolding from_unused_keys
unused_keys_end s =
    deletes_end with_unused (λ t. from_unused_rows to_the_end (at_stage stages.UnusedRows t)) (λ t. unused_rows_end (at_stage stages.UnusedRows t)) s.unused s

store_ends : (s : Progress) → EndsClean (from_store to_the_end s)
unfolding from_store
store_ends s =
    then_ends (parameters_of s.told.tables.params) (λ p. from_unused_keys to_the_end (with_store s p)) (λ p. unused_keys_end (with_store s p))

counts_end : (s : Progress) → EndsClean (from_counts to_the_end s)
unfolding from_counts
counts_end s = passes_end stages.Store (from_store to_the_end) store_ends (found_in (counts_found s.keys) s.told.tables) s

losses_end : (s : Progress) → EndsClean (from_losses to_the_end s)
unfolding from_losses
losses_end s = passes_end (stages.Batch batched.Counts) (from_counts to_the_end) counts_end (found_in (losses_found s.keys) s.told.tables) s

objects_end : (s : Progress) → EndsClean (from_objects to_the_end s)
unfolding from_objects
objects_end s = passes_end (stages.Batch batched.Losses) (from_losses to_the_end) losses_end (found_in (objects_found s.keys) s.told.tables) s

rows_end : (s : Progress) → EndsClean (from_rows to_the_end s)
unfolding from_rows
rows_end s = passes_end (stages.Batch batched.Objects) (from_objects to_the_end) objects_end (found_in (rows_found s.keys) s.told.tables) s

names_end : (s : Progress) → EndsClean (from_names to_the_end s)
unfolding from_names
names_end s = passes_end (stages.Batch batched.Rows) (from_rows to_the_end) rows_end (found_in (names_found s.keys) s.told.tables) s

start_ends : (s : Progress) → EndsClean (from_start to_the_end s)
unfolding from_start
start_ends s =
    then_ends (admitted s.told.tables s.store) (λ p. commits to_the_end (mark_of p) (from_names to_the_end) (with_keys s))
    (λ p. names_end (record (with_keys s) { told = committed (mark_of p) s.told }))

pub check_after-clean : (t : Told) (o : Objects) (s : Progress) → check_after t o ≡ Ok s → option_map (λ p. p.state) s.told.tables.params ≡ Some states.Clean
unfolding from_stage
check_after-clean t o s is = subst EndsClean is (start_ends (begun t o))
