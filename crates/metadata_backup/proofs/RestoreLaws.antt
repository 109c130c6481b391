-- What is found of a generation in a store, and restored over the tables of a keeper.
use Rattle.std.proofs.Common.{◌≡◌, ℕ, ◌^◌, ◌<◌, Bool, List, Option, None, Some, refl, sym, ap, ◌∙◌, subst}
use Rattle.std.specs.Prelude.{codes, nat_lt, option_map, Result, Ok, Err, if◌then◌else◌}
use Rattle.std.specs.Map.{keys_of}
use Rattle.std.specs.Ordering.{is_lt}
use Rattle.std.proofs.lemmas.Bool.{and_from, lt-ltb}
use Rattle.s3_rows.specs.declared.change.Change.{Change}
use Rattle.s3_rows.specs.Rows.{Parameters}
use Rattle.s3_rows.specs.Tables.{Tables, IsOrdered}
use Rattle.s3_rows.specs.Told.{Told, one_more, with_batch}
use Rattle.s3_devices.specs.Keys.{generation_key}
use Rattle.s3_devices.specs.Objects.{Objects, key_cmp, held_at, AreOrdered}
use Rattle.s3_devices.specs.Told.{IfTold}
use Rattle.metadata_backup.specs.Numbers.{generation_of}
use Rattle.metadata_backup.specs.Survey.{generations_in, newest_in, greatest, objects_end, keys_past}
use Rattle.metadata_backup.specs.declared.restore_fault.RestoreFault.{RestoreFault}
use Rattle.metadata_backup.specs.declared.restore_fault.RestoreFault.TheVariants as faults
use Rattle.metadata_backup.specs.Restores.{generation_in, dumped_in, source_of, restored, restored_parameters, IsFoundIn, IsRefusal, IsRestored}
use Rattle.metadata_backup.specs.Replacing.{replacement}
use Rattle.metadata_backup.proofs.KeyNumbers.{filter_map-filter, is_past_s3ql, objects_end-filter, is_object_past_s3ql}
use Rattle.metadata_backup.proofs.ReplacingLaws.{tables_after-replacement}

-- the keys past this are all that name a generation or a data object
pub all_found : (numbers : List ℕ) (next : ℕ) (told : Option Objects)
    → IfTold told (λ o. AreOrdered o → (numbers ≡ generations_in (keys_past (codes "s3ql_") o)) × (next ≡ objects_end (keys_past (codes "s3ql_") o)))
    → IfTold told (λ o. AreOrdered o → (numbers ≡ generations_in (keys_of o)) × (next ≡ objects_end (keys_of o)))
all_found numbers next None found = tt
all_found numbers next (Some o) found =
    λ ordered. (
      (found ordered).0 ∙ filter_map-filter generation_of (λ k. is_lt (key_cmp (codes "s3ql_") k)) is_past_s3ql (keys_of o),
      (found ordered).1 ∙ objects_end-filter (λ k. is_lt (key_cmp (codes "s3ql_") k)) is_object_past_s3ql (keys_of o),
    )

-- by the newest generation and the bytes
pub source_by : (o : Objects) (generation newest : ℕ) (bytes : Option (List ℕ)) → newest_in (keys_of o) ≡ Some newest → bytes ≡ generation_in o generation
    → source_of o generation ≡ dumped_in bytes
source_by o generation newest bytes is held =
    ap (λ (n : Option ℕ). elim n [ Some m ↦ dumped_in (generation_in o generation) | None ↦ Err faults.NoFileSystem ]) is ∙ ap dumped_in (sym held)

pub source_none : (o : Objects) (generation : ℕ) → newest_in (keys_of o) ≡ None → source_of o generation ≡ Err faults.NoFileSystem
source_none o generation is =
    ap (λ (n : Option ℕ). elim n [ Some m ↦ dumped_in (generation_in o generation) | None ↦ Err faults.NoFileSystem ]) is

both_told : {T : Type 0} (told : Option T) (P Q R : T → Type 0) → ((t : T) → P t → Q t → R t) → IfTold told P → IfTold told Q → IfTold told R
both_told None P Q R follows p q = tt
both_told (Some t) P Q R follows p q = follows t p q

-- tables that are read of the bytes are found
pub found_by : (told mid : Option Objects) (generation newest next : ℕ) (numbers : List ℕ) (bytes : Option (List ℕ)) (tables : Tables)
    → mid ≡ told → Some newest ≡ greatest numbers → dumped_in bytes ≡ Ok tables
    → IfTold told (λ o. AreOrdered o → (numbers ≡ generations_in (keys_of o)) × (next ≡ objects_end (keys_of o)))
    → IfTold mid (λ o. bytes ≡ generation_in o generation)
    → IfTold told (λ o. AreOrdered o → IsFoundIn o generation tables newest next)
found_by told mid generation newest next numbers bytes tables same is read found held =
    both_told told (λ o. AreOrdered o → (numbers ≡ generations_in (keys_of o)) × (next ≡ objects_end (keys_of o))) (λ o. bytes ≡ generation_in o generation)
    (λ o. AreOrdered o → IsFoundIn o generation tables newest next)
    (λ o found bytes_are ordered.
    let newest_is : newest_in (keys_of o) ≡ Some newest = ap greatest (sym (found ordered).0) ∙ sym is in
    record {
      source = source_by o generation newest bytes newest_is bytes_are ∙ read;
      newest_is = newest_is;
      next_is = (found ordered).1;
    })
    found (subst (λ (t : Option Objects). IfTold t (λ o. bytes ≡ generation_in o generation)) same held)

-- a refusal of the bytes is one of the store
pub refused_by : (told mid : Option Objects) (generation newest next : ℕ) (numbers : List ℕ) (bytes : Option (List ℕ)) (fault : RestoreFault)
    → mid ≡ told → Some newest ≡ greatest numbers → IsRefusal (dumped_in bytes) fault
    → IfTold told (λ o. AreOrdered o → (numbers ≡ generations_in (keys_of o)) × (next ≡ objects_end (keys_of o)))
    → IfTold mid (λ o. bytes ≡ generation_in o generation)
    → IfTold told (λ o. AreOrdered o → IsRefusal (source_of o generation) fault)
refused_by told mid generation newest next numbers bytes fault same is refusal found held =
    both_told told (λ o. AreOrdered o → (numbers ≡ generations_in (keys_of o)) × (next ≡ objects_end (keys_of o))) (λ o. bytes ≡ generation_in o generation)
    (λ o. AreOrdered o → IsRefusal (source_of o generation) fault)
    (λ o found bytes_are ordered.
    let newest_is : newest_in (keys_of o) ≡ Some newest = ap greatest (sym (found ordered).0) ∙ sym is in
    subst (λ (s : Result Tables RestoreFault). IsRefusal s fault) (sym (source_by o generation newest bytes newest_is bytes_are)) refusal)
    found (subst (λ (t : Option Objects). IfTold t (λ o. bytes ≡ generation_in o generation)) same held)

-- no generation is no file system
pub none_by : (told : Option Objects) (generation next : ℕ) (numbers : List ℕ) → None ≡ greatest numbers
    → IfTold told (λ o. AreOrdered o → (numbers ≡ generations_in (keys_of o)) × (next ≡ objects_end (keys_of o)))
    → IfTold told (λ o. AreOrdered o → IsRefusal (source_of o generation) faults.NoFileSystem)
none_by None generation next numbers is found = tt
none_by (Some o) generation next numbers is found =
    λ ordered. source_none o generation (ap greatest (sym (found ordered).0) ∙ sym is)

-- ---- the bytes of a generation

pub generation_held : (o : Objects) (generation : ℕ) (key : List ℕ) (bytes : Option (List ℕ)) → key ≡ generation_key generation → 0 < generation → generation < 2 ^ 62
    → bytes ≡ held_at o key → bytes ≡ generation_in o generation
generation_held o generation key bytes is positive below held =
    held ∙ ap (held_at o) is
    ∙ ap (λ (b : Bool). if b then held_at o (generation_key generation) else None)
    (sym (and_from (nat_lt 0 generation) (nat_lt generation (2 ^ 62)) (lt-ltb 0 generation positive) (lt-ltb generation (2 ^ 62) below)))

-- ---- tables in place of others

pub replaced : (first mid after : Option Told) (old new : Tables) (p : Parameters) (batch : List Change) (s : Told)
    → mid ≡ first → after ≡ option_map (with_batch batch) mid → batch ≡ replacement old new p → old ≡ record s.tables { params = Some p }
    → IsOrdered new → first ≡ Some s → IsOrdered s.tables
    → after ≡ Some (record { tables = record new { params = Some p }; commits = one_more s.commits })
replaced first mid after old new p batch s same committed is read up told ordered =
    let changes : batch ≡ replacement (record s.tables { params = Some p }) new p = is ∙ ap (λ (t : Tables). replacement t new p) read in
    committed ∙ ap (option_map (with_batch batch)) (same ∙ told)
    ∙ ap (λ (cs : List Change). Some (with_batch cs s)) changes
    ∙ ap (λ (t : Tables). Some (record { tables = t; commits = one_more s.commits })) (tables_after-replacement s.tables new (Some p) p ordered up)

-- ---- a restored generation

told_at : {T : Type 0} (told : Option T) (t : T) (P : T → Type 0) → told ≡ Some t → IfTold told P → P t
told_at told t P is fact = subst (λ (x : Option _). IfTold x P) is fact

pub restored_by : (generation newest next : ℕ) (tables : Tables) (before : Option Parameters) (p : Parameters) (s : Told) (o : Objects) (store : Option Objects) (after : Option Told)
    → Some p ≡ option_map (λ q. restored_parameters q before newest next) tables.params → before ≡ s.tables.params
    → store ≡ Some o → AreOrdered o → IfTold store (λ o. AreOrdered o → IsFoundIn o generation tables newest next)
    → after ≡ Some (record { tables = record tables { params = Some p }; commits = one_more s.commits })
    → IsRestored generation s o after
restored_by generation newest next tables before p s o store after params own is ordered found_if put =
    let found : IsFoundIn o generation tables newest next = told_at store o (λ x. AreOrdered x → IsFoundIn x generation tables newest next) is found_if ordered in
    record {
      dumped = tables;
      newest = newest;
      found = record { source = found.source; newest_is = found.newest_is; next_is = refl };
      told = put
          ∙ ap (λ (q : Option Parameters). Some (record { tables = record tables { params = q }; commits = one_more s.commits })) params
          ∙ ap (λ (q : Option Parameters). Some (record { tables = restored tables q newest next; commits = one_more s.commits })) own
          ∙ ap (λ (n : ℕ). Some (record { tables = restored tables s.tables.params newest n; commits = one_more s.commits })) found.next_is;
    }
