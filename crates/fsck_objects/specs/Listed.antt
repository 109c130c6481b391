-- What the keys of a store say of the data objects.
use Rattle.std.specs.Prelude.{ℕ, List, [], ◌∷◌, Bool, false, Option, None, Some, is_some, if◌then◌else◌}
use Rattle.std.specs.Ordering.{nat_cmp}
use Rattle.std.specs.BTreeMap.{get}
use Rattle.s3_rows.specs.Rows.{Object}
use Rattle.s3_rows.specs.Validity.{is_number}
use Rattle.s3_devices.specs.declared.key_list.KeyItem.{KeyItem}
use Rattle.metadata_backup.specs.Numbers.{object_of}
use Rattle.fsck_objects.specs.declared.listed.Listed.{Listed}
use Rattle.fsck_objects.specs.declared.listed.Named.{Named}

-- the key is that of the data object
abbrev pub is_key_of : ℕ → KeyItem → Bool
is_key_of id k = is_number id (object_of k.key)

-- how many bytes the object's key holds, where it is listed
abbrev pub listed_length : List KeyItem → ℕ → Option ℕ
listed_length [] id = None
listed_length (k ∷ ks) id = if is_key_of id k then Some k.len else listed_length ks id

-- the object's key is listed with the object's size
abbrev pub is_whole : Option ℕ → Object → Bool
is_whole (Some len) r = is_number len r.size
is_whole None r = false

-- ---- the same, gathered once

-- the first where there is one, and else the second
abbrev pub or_else : Option ℕ → Option ℕ → Option ℕ
or_else (Some n) m = Some n
or_else None m = m

abbrev pub length_in : Listed → ℕ → Option ℕ
length_in listed id = get nat_cmp listed.lengths id

abbrev pub is_in : Named → ℕ → Bool
is_in named id = is_some (get nat_cmp named.objects id)
