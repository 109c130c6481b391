-- Stores and tables, on which the passes on objects and on the store are worked by hand.
use Rattle.std.specs.Prelude.{ℕ, List, [], ◌∷◌, codes, map, Option, None, Some}
use Rattle.s3_rows.specs.declared.change.Change.{Change}
use Rattle.s3_rows.specs.Rows.{Block, Object, Parameters}
use Rattle.s3_rows.specs.Tables.{Tables}
use Rattle.s3_rows.specs.Made.{made_tables, made_parameters}
use Rattle.s3_devices.specs.declared.key_list.KeyItem.{KeyItem}
use Rattle.fsck_findings.specs.Line.{line_of}
use Rattle.fsck_objects.specs.Missing.{repaired_objects}
use Rattle.fsck_objects.specs.Numbers.{raised_objects}
use Rattle.fsck_objects.specs.Store.{repaired_store, stray_keys}

-- the parameters of these tables: generation 1 is the last that was stored whole
abbrev pub made : Parameters
made = record (made_parameters 4096 8) { next_object = 9 }

abbrev pub block : ℕ → ℕ → ℕ → Block
block id size object = record { id = id; digest = record { 0 = id ∷ [] }; refcount = 1; size = size; object = object }

abbrev pub object : ℕ → ℕ → Option ℕ → Object
object id refcount size = record { id = id; refcount = refcount; size = size }

abbrev pub key : List ℕ → ℕ → KeyItem
key text len = record { key = text; len = len }

-- the generation that every made file system has
abbrev pub first_generation : KeyItem
first_generation = key (codes "s3ql_metadata_00000000000000000001") 297

abbrev pub with_objects : List Block → List Object → Tables
with_objects blocks objects = record (made_tables 4096 8 5) { params = Some made; blocks = blocks; objects = objects }

abbrev pub missing_lines : List KeyItem → Tables → List (List ℕ)
missing_lines keys t = map line_of (repaired_objects keys t).findings

abbrev pub missing_changes : List KeyItem → Tables → List Change
missing_changes keys t = (repaired_objects keys t).changes

abbrev pub next_lines : List KeyItem → Tables → List (List ℕ)
next_lines keys t = map line_of (raised_objects keys t made).findings

abbrev pub store_lines : List KeyItem → Tables → List (List ℕ)
store_lines keys t = map line_of (repaired_store keys t made).findings

abbrev pub store_changes : List KeyItem → Tables → List Change
store_changes keys t = (repaired_store keys t made).changes

abbrev pub strays : List KeyItem → Tables → List (List ℕ)
strays keys t = stray_keys t made keys

-- ---- whole

-- a block, its object and its key
abbrev pub whole_tables : Tables
whole_tables = with_objects (block 1 10 1 ∷ []) (object 1 1 (Some 10) ∷ [])

abbrev pub whole_keys : List KeyItem
whole_keys = key (codes "other") 7 ∷ key (codes "s3ql_data_1") 10 ∷ first_generation ∷ []

-- ---- damaged

-- object 2 has another size, 3 has no key and two blocks, 4 no key and no block, and 5 a key that is not its own
abbrev pub damaged_tables : Tables
damaged_tables =
    with_objects (block 1 10 1 ∷ block 2 20 2 ∷ block 3 30 3 ∷ block 4 30 3 ∷ block 5 50 5 ∷ block 6 60 6 ∷ [])
    (object 1 1 (Some 10) ∷ object 2 1 (Some 20) ∷ object 3 2 (Some 30) ∷ object 4 0 (Some 40) ∷ object 5 1 (Some 50) ∷ [])

abbrev pub damaged_keys : List KeyItem
damaged_keys = key (codes "s3ql_data_05") 50 ∷ key (codes "s3ql_data_1") 10 ∷ key (codes "s3ql_data_2") 21 ∷ first_generation ∷ []

-- ---- numbers

-- the greatest key of an object, and the greatest of all
abbrev pub late_keys : List KeyItem
late_keys = key (codes "s3ql_data_1") 10 ∷ key (codes "s3ql_data_12") 10 ∷ key (codes "s3ql_data_9") 10 ∷ first_generation ∷ []

abbrev pub last_keys : List KeyItem
last_keys = key (codes "s3ql_data_4611686018427387903") 10 ∷ first_generation ∷ []

-- ---- the store

-- object 1 has no block, 2 is not stored whole, 3 is right
abbrev pub unused_objects : Tables
unused_objects = with_objects (block 1 10 3 ∷ []) (object 1 0 (Some 10) ∷ object 2 1 None ∷ object 3 1 (Some 10) ∷ [])

-- a key of each of these, keys without row, keys of other forms, and generations past the last that is whole
abbrev pub stray_store : List KeyItem
stray_store =
    key (codes "s3ql_data_03") 10 ∷ key (codes "s3ql_data_1") 10 ∷ key (codes "s3ql_data_12") 5 ∷ key (codes "s3ql_data_3") 10
    ∷ key (codes "s3ql_data_7") 0 ∷ first_generation ∷ key (codes "s3ql_metadata_00000000000000000002") 3 ∷ key (codes "s3ql_metadata_2") 3 ∷ []
