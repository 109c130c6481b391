-- What the keys of a store name together.
use Rattle.std.specs.Prelude.{◌≡◌, ℕ, ◌+◌, List, [], ◌∷◌, ◌++◌, filter, max, Bool, IsTrue, Option, None, Some}
use Rattle.std.specs.List.{filter_map}
use Rattle.std.specs.Map.{keys_of}
use Rattle.std.specs.Ordering.{is_lt}
use Rattle.s3_devices.specs.Objects.{Objects, key_cmp}
use Rattle.metadata_backup.specs.Numbers.{generation_of, object_of}

-- the generations that the keys name
abbrev pub generations_in : List (List ℕ) → List ℕ
generations_in keys = filter_map generation_of keys

-- the greatest number
abbrev pub greatest : List ℕ → Option ℕ
greatest [] = None
greatest (n ∷ ns) = Some (elim (greatest ns) [ None ↦ n | Some m ↦ max n m ])

-- the newest generation that the keys name
abbrev pub newest_in : List (List ℕ) → Option ℕ
newest_in keys = greatest (generations_in keys)

-- one more than the number of the data object that the key names, and else 1
abbrev pub object_end : List ℕ → ℕ
object_end key = elim (object_of key) [ Some id ↦ id + 1 | None ↦ 1 ]

-- one more than the greatest number of a data object that the keys name, and 1 where there is none
abbrev pub objects_end : List (List ℕ) → ℕ
objects_end [] = 1
objects_end (k ∷ ks) = max (object_end k) (objects_end ks)

-- the keys past one
abbrev pub keys_past : List ℕ → Objects → List (List ℕ)
keys_past after o = filter (λ k. is_lt (key_cmp after k)) (keys_of o)

-- the last of the keys, and without any the one before
abbrev pub last_or : List ℕ → List (List ℕ) → List ℕ
last_or before [] = before
last_or before (k ∷ ks) = last_or k ks

-- of the keys past a start those up to one are read, and so much is found
pub record IsReadTo (start after : List ℕ) (generations : List ℕ) (next_object : ℕ) (o : Objects) : Type 0 where
  pub seen : List (List ℕ)
  pub parts : keys_past start o ≡ seen ++ keys_past after o
  pub numbers : generations ≡ generations_in seen
  pub next : next_object ≡ objects_end seen

-- the same after a page more, and nothing is left where it was the last page
pub record IsReadPage (last : Bool) (start after : List ℕ) (generations : List ℕ) (next_object : ℕ) (o : Objects) : Type 0 where
  pub read : IsReadTo start after generations next_object o
  pub whole : IsTrue last → keys_past after o ≡ []
