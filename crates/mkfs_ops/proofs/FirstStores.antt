-- A store that had no key of a file system, once it holds the first generation.
use Rattle.std.proofs.Common.{◌≡◌, ℕ, ◌+◌, ◌-◌, ◌*◌, ◌^◌, max, Bool, true, false, List, [], ◌∷◌, Option, None, Some, refl, sym, ap, ◌∙◌, subst, lit<, arith}
use Rattle.std.specs.Prelude.{◌||◌, option_map, Result, Ok, Err, OnErr, IsSomeAnd}
use Rattle.std.specs.Option.{ForSome}
use Rattle.std.specs.List.{cons_option}
use Rattle.std.specs.Map.{keys_of}
use Rattle.std.specs.declared.cmp.Ordering.{Ordering}
use Rattle.std.specs.declared.cmp.Ordering.TheVariants.{Less, Equal, Greater}
use Rattle.std.specs.Ordering.{match_ordering}
use Rattle.std.proofs.lemmas.Bool.{le-leb, lt-ltb}
use Rattle.std.proofs.lemmas.Map.Lookups.{exact_bytes}
use Rattle.s3_rows.specs.Rows.{Parameters}
use Rattle.s3_devices.specs.Keys.{generation_key}
use Rattle.s3_devices.specs.Objects.{Objects, key_cmp, with_object, KeepsOthers}
use Rattle.s3_devices.specs.Told.{Becomes}
use Rattle.s3_devices.proofs.ObjectLemmas.{held_at-with_object_same, KeepsOthers-with_object}
use Rattle.frame_fields.specs.Fields.{u16_field, u32_field, u64_field, mode_field, node_kind_field, flag_field}
use Rattle.keeper_dump.specs.Part.{table}
use Rattle.keeper_dump.specs.RowFields.{id_field, count_field, next_field, file_size_field, text_field, revision_field, sizes_field, state_field, generations_field}
use Rattle.keeper_dump.specs.Dump.{magic_field, tables_part, dump_part, dump_of, dump_read, is_dumped}
use Rattle.metadata_backup.specs.Numbers.{generation_of, object_of}
use Rattle.metadata_backup.specs.Survey.{generations_in, greatest, newest_in, object_end, objects_end}
use Rattle.metadata_backup.specs.declared.restore_fault.RestoreFault.TheVariants as faults
use Rattle.metadata_backup.specs.Restores.{of_dump, dumped_in, generation_in, IsFoundIn}
use Rattle.metadata_backup.proofs.KeyNumbers.{generation_of-generation_key, key_of_generation, key_of_object}
use Rattle.mkfs_ops.specs.declared.settings.Settings.{Settings}
use Rattle.mkfs_ops.specs.Making.{AreSettings, first_tables, is_own, has_own_key}

-- ---- keys of no file system

or_parts : (a b : Bool) → (a || b) ≡ false → (a ≡ false) × (b ≡ false)
or_parts true b none = absurd (cc none)
or_parts false b none = (refl, none)

no_generation : (key : List ℕ) → is_own key ≡ false → generation_of key ≡ None
no_generation key foreign = by_case (generation_of key) refl
  where
    by_case : (o : Option ℕ) → generation_of key ≡ o → o ≡ None
    by_case None is = refl
    by_case (Some n) is =
        absurd (let clash : true ≡ false = sym (ap is_own (key_of_generation key n is).0) ∙ foreign in cc clash)

no_object : (key : List ℕ) → is_own key ≡ false → object_of key ≡ None
no_object key foreign = by_case (object_of key) refl
  where
    by_case : (o : Option ℕ) → object_of key ≡ o → o ≡ None
    by_case None is = refl
    by_case (Some id) is =
        absurd (let clash : true ≡ false = sym (ap is_own (key_of_object key id is).0) ∙ foreign in cc clash)

no_generations : (o : Objects) → has_own_key o ≡ false → generations_in (keys_of o) ≡ []
no_generations [] none = refl
no_generations (e ∷ es) none =
    let parts = or_parts (is_own e.0) (has_own_key es) none in
    ap (λ (x : Option ℕ). cons_option x (generations_in (keys_of es))) (no_generation e.0 parts.0) ∙ no_generations es parts.1

no_objects : (o : Objects) → has_own_key o ≡ false → objects_end (keys_of o) ≡ 1
no_objects [] none = refl
no_objects (e ∷ es) none =
    let parts = or_parts (is_own e.0) (has_own_key es) none in
    let rest = no_objects es parts.1 in
    let one : object_end e.0 ≡ 1 = ap (λ (x : Option ℕ). elim x [ Some id ↦ id + 1 | None ↦ 1 ]) (no_object e.0 parts.0) in
    omega (arith, rest, one)

-- the generation of tables that are the first
pub first_number : (o : Option Parameters) (n : ℕ) → IsSomeAnd o (λ p. p.generation ≡ 1) → ForSome o (λ p. n ≡ p.generation) → n ≡ 1
first_number None n is same = absurd is
first_number (Some p) n is same = same p refl ∙ is

-- a put that was answered Ok leaves all other keys
pub put_keeps : (key bytes : List ℕ) (before after : Option Objects) → after ≡ option_map (with_object key bytes) before
    → Becomes (KeepsOthers key) before after
put_keeps key bytes None after is = is
put_keeps key bytes (Some o) None is = absurd (cc is)
put_keeps key bytes (Some o) (Some x) is =
    let same : x ≡ with_object key bytes o = cc is in
    subst (KeepsOthers key o) (sym same) (KeepsOthers-with_object key bytes o)

pub on_any_err : {T E : Type 0} (P : Type 0) → P → (r : Result T E) → OnErr r P
on_any_err P fact (Ok x) = tt
on_any_err P fact (Err e) = fact

-- ---- one key more

first_is_named : generation_of (generation_key 1) ≡ Some 1
first_is_named = generation_of-generation_key 1 (lit< tt, lit< tt)

first_names_no_object : object_of (generation_key 1) ≡ None
unfolding object_of
first_names_no_object = refl

-- the key is none of those that are there
first_is_new : (key : List ℕ) → is_own key ≡ false → key_cmp (generation_key 1) key ≡ Equal → ⊥
first_is_new key foreign tied =
    let clash : true ≡ false = ap is_own (exact_bytes (generation_key 1) key tied) ∙ foreign in
    cc clash

pub one_generation : (bytes : List ℕ) (o : Objects) → has_own_key o ≡ false → generations_in (keys_of (with_object (generation_key 1) bytes o)) ≡ 1 ∷ []
one_generation bytes [] none = ap (λ (x : Option ℕ). cons_option x []) first_is_named
one_generation bytes (e ∷ es) none =
    let parts = or_parts (is_own e.0) (has_own_key es) none in
    by_case parts.0 (key_cmp (generation_key 1) e.0) refl (one_generation bytes es parts.1)
  where
    by_case : is_own e.0 ≡ false → (c : Ordering) → key_cmp (generation_key 1) e.0 ≡ c
        → generations_in (keys_of (with_object (generation_key 1) bytes es)) ≡ 1 ∷ []
        → generations_in (keys_of (match_ordering c ((generation_key 1, bytes) ∷ e ∷ es) ((e.0, bytes) ∷ es) (e ∷ with_object (generation_key 1) bytes es))) ≡ 1 ∷ []
    by_case foreign Less is rest =
        ap (λ (x : Option ℕ). cons_option x (generations_in (keys_of (e ∷ es)))) first_is_named
        ∙ ap (λ (ns : List ℕ). 1 ∷ ns) (no_generations (e ∷ es) none)
    by_case foreign Equal is rest = absurd (first_is_new e.0 foreign is)
    by_case foreign Greater is rest =
        ap (λ (x : Option ℕ). cons_option x (generations_in (keys_of (with_object (generation_key 1) bytes es)))) (no_generation e.0 foreign) ∙ rest

no_object_more : (bytes : List ℕ) (o : Objects) → has_own_key o ≡ false → objects_end (keys_of (with_object (generation_key 1) bytes o)) ≡ 1
no_object_more bytes [] none = ap (λ (x : Option ℕ). max (elim x [ Some id ↦ id + 1 | None ↦ 1 ]) 1) first_names_no_object
no_object_more bytes (e ∷ es) none =
    let parts = or_parts (is_own e.0) (has_own_key es) none in
    by_case parts.0 (key_cmp (generation_key 1) e.0) refl (no_object_more bytes es parts.1)
  where
    by_case : is_own e.0 ≡ false → (c : Ordering) → key_cmp (generation_key 1) e.0 ≡ c
        → objects_end (keys_of (with_object (generation_key 1) bytes es)) ≡ 1
        → objects_end (keys_of (match_ordering c ((generation_key 1, bytes) ∷ e ∷ es) ((e.0, bytes) ∷ es) (e ∷ with_object (generation_key 1) bytes es))) ≡ 1
    by_case foreign Less is rest =
        let others = no_objects (e ∷ es) none in
        let first_end : object_end (generation_key 1) ≡ 1 = ap (λ (x : Option ℕ). elim x [ Some id ↦ id + 1 | None ↦ 1 ]) first_names_no_object in
        omega (arith, others, first_end)
    by_case foreign Equal is rest = absurd (first_is_new e.0 foreign is)
    by_case foreign Greater is rest =
        let one : object_end e.0 ≡ 1 = ap (λ (x : Option ℕ). elim x [ Some id ↦ id + 1 | None ↦ 1 ]) (no_object e.0 foreign) in
        omega (arith, rest, one)

-- ---- the first generation is whole

pub first_is_dumped : (s : Settings) → AreSettings s → is_dumped (first_tables s) ≡ true
unfolding is_dumped dump_part tables_part table magic_field id_field count_field next_field file_size_field text_field revision_field sizes_field state_field generations_field u16_field u32_field u64_field mode_field node_kind_field flag_field
first_is_dumped s within =
    let size_fits = lt-ltb s.block_size (2 ^ 32) (omega (arith, within.greatest)) in
    let least = le-leb 4096 s.block_size within.least in
    let most = le-leb s.block_size 10485760 within.greatest in
    let slots_fit = lt-ltb s.slots (2 ^ 32) (omega (arith, within.slots)) in
    let few = le-leb s.slots 65536 within.slots in
    let disk = le-leb (s.slots * s.block_size) (2 ^ 32) within.disk in
    let time_fits = lt-ltb s.now (2 ^ 64) (omega (arith, within.time)) in
    let from_zero = le-leb 0 s.now (omega arith) in
    let early = le-leb s.now (2 ^ 62 - 1) (omega (arith, within.time)) in
    simp (size_fits, least, most, slots_fit, few, disk, time_fits, from_zero, early) refl

module _ (s : Settings) (o : Objects) (none : has_own_key o ≡ false) where
  pub first_is_found : dump_read (dump_of (first_tables s)) ≡ Ok (first_tables s)
      → IsFoundIn (with_object (generation_key 1) (dump_of (first_tables s)) o) 1 (first_tables s) 1 1
  first_is_found read =
      let bytes = dump_of (first_tables s) in
      let store = with_object (generation_key 1) bytes o in
      let newest : newest_in (keys_of store) ≡ Some 1 = ap greatest (one_generation bytes o none) in
      let held : generation_in store 1 ≡ Some bytes = held_at-with_object_same (generation_key 1) bytes o in
      record {
        source = ap (λ (n : Option ℕ). elim n [ Some m ↦ dumped_in (generation_in store 1) | None ↦ Err faults.NoFileSystem ]) newest
            ∙ ap dumped_in held ∙ ap of_dump read;
        newest_is = newest;
        next_is = sym (no_object_more bytes o none);
      }
