-- A check that is underway keeps tables and keys in order and parameters where they are, and refuses nothing but that a number is left.
use Rattle.std.proofs.Common.{◌≡◌, ℕ, Bool, true, false, List, [], ◌∷◌, ◌++◌, map, Option, None, Some, is_some, Result, Ok, Err, refl, sym, ap, ◌∙◌, subst}
use Rattle.std.specs.Prelude.{if◌then◌else◌}
use Rattle.s3_rows.specs.declared.change.Change.{Change}
use Rattle.s3_rows.specs.declared.change.Change.TheVariants as changes
use Rattle.s3_rows.specs.declared.params.State.TheVariants as states
use Rattle.s3_rows.specs.Batches.{after_change, tables_after}
use Rattle.s3_rows.specs.Rows.{Parameters}
use Rattle.s3_rows.specs.Tables.{Tables, IsOrdered}
use Rattle.s3_rows.specs.Told.{Told}
use Rattle.row_lemmas.proofs.Tables.{IsOrdered-tables_after}
use Rattle.s3_devices.specs.declared.key_list.KeyItem.{KeyItem}
use Rattle.s3_devices.specs.Objects.{Objects, AreOrdered, without_object}
use Rattle.s3_devices.proofs.ObjectLemmas.{KeepsOthers-without_object}
use Rattle.fsck_findings.specs.Found.{Found}
use Rattle.fsck_findings.specs.Line.{line_of}
use Rattle.fsck_run.specs.declared.fault.FsckFault.{FsckFault}
use Rattle.fsck_run.specs.declared.fault.FsckFault.TheVariants as faults
use Rattle.fsck_run.specs.declared.stage.Batched.TheVariants as batched
use Rattle.fsck_run.specs.declared.stage.Stage.{Stage}
use Rattle.fsck_run.specs.declared.stage.Stage.TheVariants as stages
use Rattle.fsck_run.specs.Check.{Move, More, Done, to_a_change, commits, deletes, passes, with_strays, with_unused, with_store, with_keys, from_finish, from_strays, from_unused_rows, from_unused_keys, from_store, from_counts, from_losses, from_objects, from_rows, from_names, from_start, from_stage, step_after}
use Rattle.fsck_run.specs.Faults.{◌>>=◌}
use Rattle.fsck_run.specs.Listing.{own_keys}
use Rattle.fsck_run.specs.Passes.{names_found, rows_found, objects_found, losses_found, counts_found, found_in, committed, is_some_batch, state_change, mark_of}
use Rattle.fsck_run.specs.Progress.{Progress, at_stage}
use Rattle.fsck_run.specs.Refusals.{admitted, admitted_beside, parameters_of, newer_refusal, newest, slots_refusal}

-- ---- parameters stay

is_some-after_change : (change : Change) (t : Tables) → is_some t.params ≡ true → is_some (after_change change t).params ≡ true
is_some-after_change (changes.PutInode r) t some = some
is_some-after_change (changes.DeleteInode id) t some = some
is_some-after_change (changes.PutName r) t some = some
is_some-after_change (changes.DeleteName id) t some = some
is_some-after_change (changes.PutContent r) t some = some
is_some-after_change (changes.DeleteContent parent name_id) t some = some
is_some-after_change (changes.PutInodeBlock r) t some = some
is_some-after_change (changes.DeleteInodeBlock inode blockno) t some = some
is_some-after_change (changes.PutBlock r) t some = some
is_some-after_change (changes.DeleteBlock id) t some = some
is_some-after_change (changes.PutObject r) t some = some
is_some-after_change (changes.DeleteObject id) t some = some
is_some-after_change (changes.PutTarget r) t some = some
is_some-after_change (changes.DeleteTarget inode) t some = some
is_some-after_change (changes.PutAttr r) t some = some
is_some-after_change (changes.DeleteAttr inode name_id) t some = some
is_some-after_change (changes.PutSlot r) t some = some
is_some-after_change (changes.DeleteSlot slot) t some = some
is_some-after_change (changes.SetParams p) t some = refl

is_some-tables_after : (batch : List Change) (t : Tables) → is_some t.params ≡ true → is_some (tables_after batch t).params ≡ true
is_some-tables_after [] t some = some
is_some-tables_after (c ∷ cs) t some = is_some-tables_after cs (after_change c t) (is_some-after_change c t some)

-- ---- in order, with parameters

pub record IsSound (t : Told) (o : Objects) : Type 0 where
  pub ordered : IsOrdered t.tables
  pub keys_ordered : AreOrdered o
  pub params : is_some t.tables.params ≡ true

IsSound-committed : (batch : List Change) (t : Told) (o : Objects) → IsSound t o → IsSound (committed batch t) o
IsSound-committed [] t o sound = sound
IsSound-committed (c ∷ cs) t o sound = record {
  ordered = IsOrdered-tables_after (c ∷ cs) t.tables sound.ordered;
  keys_ordered = sound.keys_ordered;
  params = is_some-tables_after (c ∷ cs) t.tables sound.params;
}

IsSound-without_object : (k : List ℕ) (t : Told) (o : Objects) → IsSound t o → IsSound t (without_object k o)
IsSound-without_object k t o sound = record {
  ordered = sound.ordered;
  keys_ordered = (KeepsOthers-without_object k o).ordered sound.keys_ordered;
  params = sound.params;
}

abbrev pub is_start : Stage → Bool
is_start stages.Start = true
is_start _ = false

pub record IsUnderway (s : Progress) : Type 0 where
  pub sound : IsSound s.told s.store
  pub behind_start : is_start s.stage ≡ false

-- what a step of a check that is underway makes
abbrev pub Goes : Result Move FsckFault → Type 0
Goes (Ok (More t)) = IsUnderway t
Goes (Ok (Done t)) = Unit {0}
Goes (Err faults.Worn) = Unit {0}
Goes (Err _) = ⊥

-- ---- what stages have in common

goes_on : (made : Bool) (rest : Progress → Result Move FsckFault) (s : Progress) → IsUnderway s → Goes (rest s) → Goes (if made then Ok (More s) else rest s)
goes_on true rest s underway goes = underway
goes_on false rest s underway goes = goes

goes_with_params : (o : Option Parameters) (f : Parameters → Result Move FsckFault) → is_some o ≡ true → ((p : Parameters) → Goes (f p)) → Goes (parameters_of o >>= f)
goes_with_params None f some goes = absurd (cc some)
goes_with_params (Some p) f some goes = goes p

goes_with_found : (o : Option Parameters) (found : Option Found) (f : Found → Result Move FsckFault) → is_some o ≡ true → ((x : Found) → Goes (f x))
    → Goes (parameters_of o >>= (λ p. elim found [ Some x ↦ Ok x | None ↦ Err faults.Worn ]) >>= f)
goes_with_found None found f some goes = absurd (cc some)
goes_with_found (Some p) None f some goes = tt
goes_with_found (Some p) (Some x) f some goes = goes x

pass_goes : (found : Tables → Option Found) (next : Stage) (rest : Progress → Result Move FsckFault) (s : Progress) → IsSound s.told s.store → is_start next ≡ false
    → ((t : Progress) → IsSound t.told t.store → Goes (rest t)) → Goes (found_in found s.told.tables >>= passes to_a_change next rest s)
pass_goes found next rest s sound behind goes =
    goes_with_found s.told.tables.params (found s.told.tables) (passes to_a_change next rest s) sound.params (λ f.
    let t = record s { stage = next; lines = s.lines ++ map line_of f.findings; told = committed f.changes s.told } in
    let still : IsSound t.told t.store = IsSound-committed f.changes s.told s.store sound in
    goes_on (is_some_batch f.changes) rest t (record { sound = still; behind_start = behind }) (goes t still))

-- ---- the stages, from the last on

finish_goes : (s : Progress) → IsSound s.told s.store → Goes (from_finish to_a_change s)
unfolding from_finish
finish_goes s sound =
    goes_with_params s.told.tables.params (λ p. commits to_a_change (state_change p states.Clean ∷ []) (λ t. Ok (Done t)) (at_stage stages.Over s)) sound.params
    (λ p. record { sound = IsSound-committed (state_change p states.Clean ∷ []) s.told s.store sound; behind_start = refl })

strays_go : (s : Progress) → IsUnderway s → Goes (from_strays to_a_change s)
unfolding from_strays
strays_go s underway = by_case s.strays
  where
    by_case : (xs : List (List ℕ)) → Goes (deletes to_a_change with_strays (λ t. from_finish to_a_change (at_stage stages.Finish t)) xs s)
    by_case [] = finish_goes (at_stage stages.Finish s) underway.sound
    by_case (k ∷ ks) = record { sound = IsSound-without_object k s.told s.store underway.sound; behind_start = underway.behind_start }

unused_rows_go : (s : Progress) → IsSound s.told s.store → Goes (from_unused_rows to_a_change s)
unfolding from_unused_rows
unused_rows_go s sound =
    let t = record s { stage = stages.StrayKeys; told = committed s.rows s.told } in
    let next : IsUnderway t = record { sound = IsSound-committed s.rows s.told s.store sound; behind_start = refl } in
    goes_on (is_some_batch s.rows) (from_strays to_a_change) t next (strays_go t next)

unused_keys_go : (s : Progress) → IsUnderway s → Goes (from_unused_keys to_a_change s)
unfolding from_unused_keys
unused_keys_go s underway = by_case s.unused
  where
    by_case : (xs : List (List ℕ)) → Goes (deletes to_a_change with_unused (λ t. from_unused_rows to_a_change (at_stage stages.UnusedRows t)) xs s)
    by_case [] = unused_rows_go (at_stage stages.UnusedRows s) underway.sound
    by_case (k ∷ ks) = record { sound = IsSound-without_object k s.told s.store underway.sound; behind_start = underway.behind_start }

store_goes : (s : Progress) → IsSound s.told s.store → Goes (from_store to_a_change s)
unfolding from_store
store_goes s sound =
    goes_with_params s.told.tables.params (λ p. from_unused_keys to_a_change (with_store s p)) sound.params
    (λ p. unused_keys_go (with_store s p) (record { sound = sound; behind_start = refl }))

counts_go : (s : Progress) → IsSound s.told s.store → Goes (from_counts to_a_change s)
unfolding from_counts
counts_go s sound = pass_goes (counts_found s.keys) stages.Store (from_store to_a_change) s sound refl store_goes

losses_go : (s : Progress) → IsSound s.told s.store → Goes (from_losses to_a_change s)
unfolding from_losses
losses_go s sound = pass_goes (losses_found s.keys) (stages.Batch batched.Counts) (from_counts to_a_change) s sound refl counts_go

objects_go : (s : Progress) → IsSound s.told s.store → Goes (from_objects to_a_change s)
unfolding from_objects
objects_go s sound = pass_goes (objects_found s.keys) (stages.Batch batched.Losses) (from_losses to_a_change) s sound refl losses_go

rows_go : (s : Progress) → IsSound s.told s.store → Goes (from_rows to_a_change s)
unfolding from_rows
rows_go s sound = pass_goes (rows_found s.keys) (stages.Batch batched.Objects) (from_objects to_a_change) s sound refl objects_go

names_go : (s : Progress) → IsSound s.told s.store → Goes (from_names to_a_change s)
unfolding from_names
names_go s sound = pass_goes (names_found s.keys) (stages.Batch batched.Rows) (from_rows to_a_change) s sound refl rows_go

pub step_goes : (s : Progress) → IsUnderway s → Goes (step_after s)
unfolding from_stage
step_goes s underway = by_case s.stage underway.behind_start
  where
    by_case : (g : Stage) → is_start g ≡ false → Goes (from_stage to_a_change g s)
    by_case stages.Start behind = absurd (cc behind)
    by_case (stages.Batch batched.Names) behind = names_go s underway.sound
    by_case (stages.Batch batched.Rows) behind = rows_go s underway.sound
    by_case (stages.Batch batched.Objects) behind = objects_go s underway.sound
    by_case (stages.Batch batched.Losses) behind = losses_go s underway.sound
    by_case (stages.Batch batched.Counts) behind = counts_go s underway.sound
    by_case stages.Store behind = store_goes s underway.sound
    by_case stages.UnusedKeys behind = unused_keys_go s underway
    by_case stages.UnusedRows behind = unused_rows_go s underway.sound
    by_case stages.StrayKeys behind = strays_go s underway
    by_case stages.Finish behind = finish_goes s underway.sound
    by_case stages.Over behind = tt

-- ---- the first step

-- where nothing is refused there are parameters
params_from_admitted : (keys : List KeyItem) (t : Tables) (p : Parameters) → admitted_beside keys t ≡ Ok p → is_some t.params ≡ true
params_from_admitted keys t p is = by_case t.params is
  where
    by_case : (o : Option Parameters)
        → (parameters_of o >>= (λ q. newer_refusal (newest keys) q.generation >>= (λ newer. slots_refusal t.slots >>= (λ slots. Ok q)))) ≡ Ok p → is_some o ≡ true
    by_case None never = absurd (cc never)
    by_case (Some q) there = refl

-- the first step that makes a change brings the check underway
pub first_step_goes : (s t : Progress) → s.stage ≡ stages.Start → IsOrdered s.told.tables → AreOrdered s.store → step_after s ≡ Ok (More t) → IsUnderway t
unfolding from_stage from_start
first_step_goes s t starts ordered keys_ordered is =
    by_case (admitted s.told.tables s.store) refl (sym (ap (λ (g : Stage). from_stage to_a_change g s) starts) ∙ is)
  where
    by_case : (r : Result Parameters FsckFault) → admitted s.told.tables s.store ≡ r
        → (r >>= (λ p. commits to_a_change (mark_of p) (from_names to_a_change) (with_keys s))) ≡ Ok (More t) → IsUnderway t
    by_case (Err fault) was never = absurd (cc never)
    by_case (Ok p) was there =
        let u = record (with_keys s) { told = committed (mark_of p) s.told } in
        let sound : IsSound s.told s.store = record { ordered = ordered; keys_ordered = keys_ordered; params = params_from_admitted (own_keys s.store) s.told.tables p was } in
        let still : IsSound u.told u.store = IsSound-committed (mark_of p) s.told s.store sound in
        subst Goes there (goes_on (is_some_batch (mark_of p)) (from_names to_a_change) u (record { sound = still; behind_start = refl }) (names_go u still))
