-- The keys of a store that a check looks at, those of data objects and of generations, and how they are read page by page.
use Rattle.std.specs.Prelude.{◌≡◌, ℕ, List, [], ◌++◌, map, filter, Bool, ◌||◌, IsTrue, is_some}
use Rattle.std.specs.Ordering.{is_lt}
use Rattle.s3_devices.specs.declared.key_list.KeyItem.{KeyItem}
use Rattle.s3_devices.specs.LinkAnswers.{item_of}
use Rattle.s3_devices.specs.Objects.{Objects, key_cmp}
use Rattle.metadata_backup.specs.Numbers.{generation_of, object_of}

-- the key of a data object or of a generation
abbrev pub is_own_key : List ℕ → Bool
is_own_key key = is_some (object_of key) || is_some (generation_of key)

abbrev pub is_own : KeyItem → Bool
is_own k = is_own_key k.key

-- these keys of a store, with their lengths, in the order of the store
abbrev pub own_keys : Objects → List KeyItem
own_keys o = filter is_own (map item_of o)

-- ---- pages

abbrev pub is_past : List ℕ → List ℕ × List ℕ → Bool
is_past after e = is_lt (key_cmp after e.0)

-- the same of the keys past one
abbrev pub own_keys_past : List ℕ → Objects → List KeyItem
own_keys_past after o = own_keys (filter (is_past after) o)

-- of the keys past a start these are read, and the others are past one
abbrev pub IsReadTo : List ℕ → List ℕ → List KeyItem → Objects → Type 0
IsReadTo start after keys o = own_keys_past start o ≡ keys ++ own_keys_past after o

-- the same after a page more, and nothing is left where it was the last page
pub record IsReadPage (last : Bool) (start after : List ℕ) (keys : List KeyItem) (o : Objects) : Type 0 where
  pub read : IsReadTo start after keys o
  pub whole : IsTrue last → own_keys_past after o ≡ []
