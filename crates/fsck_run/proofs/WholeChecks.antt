-- A step leaves of a check what was left before it, but for its change.
use Rattle.std.proofs.Common.{◌≡◌, ℕ, Bool, true, false, List, [], ◌∷◌, ◌++◌, map, Result, Ok, Err, refl, sym, ap, subst}
use Rattle.std.specs.Prelude.{if◌then◌else◌}
use Rattle.s3_rows.specs.declared.change.Change.{Change}
use Rattle.s3_rows.specs.declared.params.State.TheVariants as states
use Rattle.s3_devices.specs.Objects.{without_object}
use Rattle.fsck_findings.specs.Found.{Found}
use Rattle.fsck_findings.specs.Line.{line_of}
use Rattle.fsck_run.specs.declared.fault.FsckFault.{FsckFault}
use Rattle.fsck_run.specs.declared.stage.Batched.TheVariants as batched
use Rattle.fsck_run.specs.declared.stage.Stage.{Stage}
use Rattle.fsck_run.specs.declared.stage.Stage.TheVariants as stages
use Rattle.fsck_run.specs.Check.{Move, More, Done, to_a_change, to_the_end, commits, deletes, passes, with_strays, with_unused, with_store, with_keys, from_finish, from_strays, from_unused_rows, from_unused_keys, from_store, from_counts, from_losses, from_objects, from_rows, from_names, from_start, from_stage, step_after, rest_after}
use Rattle.fsck_run.specs.Faults.{◌>>=◌}
use Rattle.fsck_run.specs.Passes.{names_found, rows_found, objects_found, losses_found, counts_found, found_in, committed, is_some_batch, state_change, mark_of}
use Rattle.fsck_run.specs.Progress.{Progress, at_stage}
use Rattle.fsck_run.specs.Refusals.{admitted, parameters_of}

-- what a step makes, beside all that was left before it
abbrev Leads : Result Move FsckFault → Result Progress FsckFault → Type 0
Leads (Ok (More t)) rest = rest ≡ rest_after t
Leads (Ok (Done t)) rest = rest ≡ Ok t
Leads (Err fault) rest = rest ≡ Err fault

leads_then : {A : Type 0} (r : Result A FsckFault) (f : A → Result Move FsckFault) (g : A → Result Progress FsckFault)
    → ((x : A) → Leads (f x) (g x)) → Leads (r >>= f) (r >>= g)
leads_then (Ok x) f g leads = leads x
leads_then (Err fault) f g leads = refl

leads_on : (made : Bool) (step : Progress → Result Move FsckFault) (rest : Progress → Result Progress FsckFault) (s : Progress)
    → rest s ≡ rest_after s → Leads (step s) (rest s) → Leads (if made then Ok (More s) else step s) (rest s)
leads_on true step rest s same leads = same
leads_on false step rest s same leads = leads

-- ---- the stages, from the last on

finish_leads : (s : Progress) → Leads (from_finish to_a_change s) (from_finish to_the_end s)
unfolding from_finish from_stage
finish_leads s =
    leads_then (parameters_of s.told.tables.params)
    (λ p. commits to_a_change (state_change p states.Clean ∷ []) (λ t. Ok (Done t)) (at_stage stages.Over s))
    (λ p. commits to_the_end (state_change p states.Clean ∷ []) (λ t. Ok t) (at_stage stages.Over s)) (λ p. refl)

strays_lead : (s : Progress) → s.stage ≡ stages.StrayKeys → Leads (from_strays to_a_change s) (from_strays to_the_end s)
unfolding from_strays from_stage
strays_lead s stands = by_case s.strays
  where
    by_case : (xs : List (List ℕ)) → Leads (deletes to_a_change with_strays (λ t. from_finish to_a_change (at_stage stages.Finish t)) xs s)
        (deletes to_the_end with_strays (λ t. from_finish to_the_end (at_stage stages.Finish t)) xs s)
    by_case [] = finish_leads (at_stage stages.Finish s)
    by_case (k ∷ ks) = sym (ap (λ (g : Stage). from_stage to_the_end g (record s { strays = ks; store = without_object k s.store })) stands)

unused_rows_lead : (s : Progress) → Leads (from_unused_rows to_a_change s) (from_unused_rows to_the_end s)
unfolding from_unused_rows from_stage
unused_rows_lead s =
    let t = record s { stage = stages.StrayKeys; told = committed s.rows s.told } in
    leads_on (is_some_batch s.rows) (from_strays to_a_change) (from_strays to_the_end) t refl (strays_lead t refl)

unused_keys_lead : (s : Progress) → s.stage ≡ stages.UnusedKeys → Leads (from_unused_keys to_a_change s) (from_unused_keys to_the_end s)
unfolding from_unused_keys from_stage
unused_keys_lead s stands = by_case s.unused
  where
    by_case : (xs : List (List ℕ)) → Leads (deletes to_a_change with_unused (λ t. from_unused_rows to_a_change (at_stage stages.UnusedRows t)) xs s)
        (deletes to_the_end with_unused (λ t. from_unused_rows to_the_end (at_stage stages.UnusedRows t)) xs s)
    by_case [] = unused_rows_lead (at_stage stages.UnusedRows s)
    by_case (k ∷ ks) = sym (ap (λ (g : Stage). from_stage to_the_end g (record s { unused = ks; store = without_object k s.store })) stands)

store_leads : (s : Progress) → Leads (from_store to_a_change s) (from_store to_the_end s)
unfolding from_store
store_leads s =
    leads_then (parameters_of s.told.tables.params) (λ p. from_unused_keys to_a_change (with_store s p)) (λ p. from_unused_keys to_the_end (with_store s p))
    (λ p. unused_keys_lead (with_store s p) refl)

-- what a pass finds, before the stage behind it
passes_lead : (next : Stage) (step : Progress → Result Move FsckFault) (rest : Progress → Result Progress FsckFault) (s : Progress) (r : Result Found FsckFault)
    → ((t : Progress) → t.stage ≡ next → rest t ≡ rest_after t) → ((t : Progress) → Leads (step t) (rest t))
    → Leads (r >>= passes to_a_change next step s) (r >>= passes to_the_end next rest s)
passes_lead next step rest s r same leads =
    leads_then r (passes to_a_change next step s) (passes to_the_end next rest s) (λ f.
    let t = record s { stage = next; lines = s.lines ++ map line_of f.findings; told = committed f.changes s.told } in
    leads_on (is_some_batch f.changes) step rest t (same t refl) (leads t))

-- the rest from a stage on
rest_at : (stage : Stage) (t : Progress) → t.stage ≡ stage → from_stage to_the_end stage t ≡ rest_after t
rest_at stage t is = sym (ap (λ (g : Stage). from_stage to_the_end g t) is)

counts_lead : (s : Progress) → Leads (from_counts to_a_change s) (from_counts to_the_end s)
unfolding from_counts from_stage
counts_lead s =
    passes_lead stages.Store (from_store to_a_change) (from_store to_the_end) s (found_in (counts_found s.keys) s.told.tables) (rest_at stages.Store) store_leads

losses_lead : (s : Progress) → Leads (from_losses to_a_change s) (from_losses to_the_end s)
unfolding from_losses from_stage
losses_lead s =
    passes_lead (stages.Batch batched.Counts) (from_counts to_a_change) (from_counts to_the_end) s (found_in (losses_found s.keys) s.told.tables)
    (rest_at (stages.Batch batched.Counts)) counts_lead

objects_lead : (s : Progress) → Leads (from_objects to_a_change s) (from_objects to_the_end s)
unfolding from_objects from_stage
objects_lead s =
    passes_lead (stages.Batch batched.Losses) (from_losses to_a_change) (from_losses to_the_end) s (found_in (objects_found s.keys) s.told.tables)
    (rest_at (stages.Batch batched.Losses)) losses_lead

rows_lead : (s : Progress) → Leads (from_rows to_a_change s) (from_rows to_the_end s)
unfolding from_rows from_stage
rows_lead s =
    passes_lead (stages.Batch batched.Objects) (from_objects to_a_change) (from_objects to_the_end) s (found_in (rows_found s.keys) s.told.tables)
    (rest_at (stages.Batch batched.Objects)) objects_lead

names_lead : (s : Progress) → Leads (from_names to_a_change s) (from_names to_the_end s)
unfolding from_names from_stage
names_lead s =
    passes_lead (stages.Batch batched.Rows) (from_rows to_a_change) (from_rows to_the_end) s (found_in (names_found s.keys) s.told.tables)
    (rest_at (stages.Batch batched.Rows)) rows_lead

start_leads : (s : Progress) → Leads (from_start to_a_change s) (from_start to_the_end s)
unfolding from_start from_stage
start_leads s =
    leads_then (admitted s.told.tables s.store) (λ p. commits to_a_change (mark_of p) (from_names to_a_change) (with_keys s))
    (λ p. commits to_the_end (mark_of p) (from_names to_the_end) (with_keys s)) (λ p.
    let t = record (with_keys s) { told = committed (mark_of p) s.told } in
    leads_on (is_some_batch (mark_of p)) (from_names to_a_change) (from_names to_the_end) t refl (names_lead t))

step_leads : (s : Progress) → Leads (step_after s) (rest_after s)
unfolding from_stage
step_leads s = by_case s.stage refl
  where
    by_case : (g : Stage) → s.stage ≡ g → Leads (from_stage to_a_change g s) (from_stage to_the_end g s)
    by_case stages.Start is = start_leads s
    by_case (stages.Batch batched.Names) is = names_lead s
    by_case (stages.Batch batched.Rows) is = rows_lead s
    by_case (stages.Batch batched.Objects) is = objects_lead s
    by_case (stages.Batch batched.Losses) is = losses_lead s
    by_case (stages.Batch batched.Counts) is = counts_lead s
    by_case stages.Store is = store_leads s
    by_case stages.UnusedKeys is = unused_keys_lead s is
    by_case stages.UnusedRows is = unused_rows_lead s
    by_case stages.StrayKeys is = strays_lead s is
    by_case stages.Finish is = finish_leads s
    by_case stages.Over is = refl

-- ---- what is left behind a step

pub rest_after-more : (s t : Progress) → step_after s ≡ Ok (More t) → rest_after s ≡ rest_after t
rest_after-more s t is = subst (λ (out : Result Move FsckFault). Leads out (rest_after s)) is (step_leads s)

pub rest_after-done : (s t : Progress) → step_after s ≡ Ok (Done t) → rest_after s ≡ Ok t
rest_after-done s t is = subst (λ (out : Result Move FsckFault). Leads out (rest_after s)) is (step_leads s)

pub rest_after-refused : (s : Progress) (fault : FsckFault) → step_after s ≡ Err fault → rest_after s ≡ Err fault
rest_after-refused s fault is = subst (λ (out : Result Move FsckFault). Leads out (rest_after s)) is (step_leads s)
