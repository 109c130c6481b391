-- The keys of the store under which data objects and generations of the metadata stand.
use Rattle.std.specs.Prelude.{ℕ, ◌-◌, List, ◌++◌, length, replicate, Option, codes}
use Rattle.std.specs.Fmt.{decimal}
use Rattle.s3_devices.specs.Objects.{Objects, held_at}

-- the key of a data object, by its id
abbrev pub data_key : ℕ → List ℕ
data_key id = codes "s3ql_data_" ++ decimal id

-- in decimal, with zeros before it up to twenty digits
abbrev pub twenty_digits : ℕ → List ℕ
twenty_digits n = replicate (20 - length (decimal n)) 48 ++ decimal n

-- the key of a generation, by its number
abbrev pub generation_key : ℕ → List ℕ
generation_key n = codes "s3ql_metadata_" ++ twenty_digits n

-- the bytes of data objects, by their ids
abbrev pub objects_in : Objects → ℕ → Option (List ℕ)
objects_in objects id = held_at objects (data_key id)
