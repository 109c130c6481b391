-- The objects of a store: keys, each with the bytes that it holds, in the order of the keys.
use Rattle.std.specs.Prelude.{◌≡◌, ◌≢◌, ℕ, List, not, filter, Option, ◌⊎◌}
use Rattle.std.specs.declared.cmp.Ordering.{Ordering}
use Rattle.std.specs.Ordering.{nat_cmp}
use Rattle.std.specs.Cmp.Lexicographic.{slice_cmp}
use Rattle.std.specs.Map.{lookup, keys_of}
use Rattle.std.specs.BTreeMap.{is_at, insert_entry}
use Rattle.std.specs.List.Sorted.{IsStrictlySortedBy}

abbrev pub Objects : Type 0
Objects = List (List ℕ × List ℕ)

-- keys by their bytes, as unsigned numbers
abbrev pub key_cmp : List ℕ → List ℕ → Ordering
key_cmp = slice_cmp nat_cmp

-- the bytes that a key holds; none where it is absent
abbrev pub held_at : Objects → List ℕ → Option (List ℕ)
held_at objects key = lookup (is_at (key_cmp key)) objects

-- the key holds these bytes
abbrev pub with_object : List ℕ → List ℕ → Objects → Objects
with_object key bytes objects = insert_entry key_cmp objects key bytes

-- the key is absent
abbrev pub without_object : List ℕ → Objects → Objects
without_object key objects = filter (λ o. not (is_at (key_cmp key) o.0)) objects

-- each key comes after all before it
abbrev pub AreOrdered : Objects → Type 0
AreOrdered objects = IsStrictlySortedBy key_cmp (keys_of objects)

-- a put that was refused or cut off: the key holds anything or is absent. Every other key holds what it held, and keys in order
-- stay so
pub record KeepsOthers (key : List ℕ) (before after : Objects) : Type 0 where
  pub others : (other : List ℕ) → other ≢ key → held_at after other ≡ held_at before other
  pub ordered : AreOrdered before → AreOrdered after

-- a delete that was refused or cut off: the key holds what it held or is absent, and every other key holds what it held
abbrev pub IsKeptOrGone : List ℕ → Objects → Objects → Type 0
IsKeptOrGone key before after = (after ≡ before) ⊎ (after ≡ without_object key before)
