-- What a link answers.
use Rattle.std.specs.Prelude.{◌≡◌, ℕ, ◌≤◌, List, length, take, map, filter, All, Bool, true, false, Result, Ok, Err}
use Rattle.std.specs.declared.cmp.Ordering.TheVariants.{Less}
use Rattle.std.specs.Ordering.{is_lt}
use Rattle.std.specs.List.Sorted.{IsStrictlySortedBy}
use Rattle.s3_devices.specs.declared.key_list.KeyItem.{KeyItem}
use Rattle.s3_devices.specs.declared.link.LinkFault.{LinkFault}
use Rattle.s3_devices.specs.declared.link.LinkFault.TheVariants as faults
use Rattle.s3_devices.specs.Objects.{Objects, key_cmp}

-- the device has failed, and it was no want of memory
abbrev pub has_failed : {T : Type 0} → Result T LinkFault → Bool
has_failed (Ok x) = false
has_failed (Err faults.Failed) = true
has_failed (Err faults.Memory) = false

-- a key, and how many bytes it holds
abbrev pub item_of : List ℕ × List ℕ → KeyItem
item_of o = record { key = o.0; len = length o.1 }

-- the first keys past one
abbrev pub listed : List ℕ → ℕ → Objects → List KeyItem
listed after max objects = map item_of (take max (filter (λ o. is_lt (key_cmp after o.0)) objects))

-- no key has more bytes
abbrev pub key_limit : ℕ
key_limit = 1024

-- a list also where the objects are not told: at most max keys, none too long, all of them past one, and they rise strictly
pub record IsKeyPage (after : List ℕ) (max : ℕ) (items : List KeyItem) : Type 0 where
  pub few : length items ≤ max
  pub past : All (λ i. key_cmp after i.key ≡ Less) items
  pub short : All (λ i. length i.key ≤ key_limit) items
  pub rises : IsStrictlySortedBy key_cmp (map (λ i. i.key) items)
