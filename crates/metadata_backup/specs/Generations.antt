-- The generations of the metadata in the store: what storing one and taking old ones away make of its objects.
use Rattle.std.specs.Prelude.{◌≡◌, ℕ, List, Bool, true, false, not, nat_le, filter, IsTrue, None, Some, Result, Ok, Err}
use Rattle.std.specs.List.{list_any}
use Rattle.std.specs.BTreeMap.{is_at}
use Rattle.s3_devices.specs.Keys.{generation_key}
use Rattle.s3_devices.specs.Objects.{Objects, key_cmp}
use Rattle.s3_devices.specs.declared.link.LinkFault.{LinkFault}
use Rattle.s3_devices.specs.declared.link.LinkFault.TheVariants as faults
use Rattle.metadata_backup.specs.Numbers.{generation_of}

-- the device has failed, and it was no want of memory; what was to be stored comes back
abbrev pub has_failed : {T D : Type 0} → Result T (D × LinkFault) → Bool
has_failed (Ok x) = false
has_failed (Err e) = elim e.1 [ faults.Failed ↦ true | faults.Memory ↦ false ]

-- the key of a generation whose number is at most the limit
abbrev pub is_old : ℕ → List ℕ → Bool
is_old limit key = elim (generation_of key) [ Some n ↦ nat_le n limit | None ↦ false ]

-- the old generations are gone
abbrev pub without_old : ℕ → Objects → Objects
without_old limit o = filter (λ e. not (is_old limit e.0)) o

-- some old generations are gone, and all else stays as it was
pub record LosesOld (limit : ℕ) (before after : Objects) : Type 0 where
  pub stays : List ℕ → Bool
  pub others : (key : List ℕ) → IsTrue (not (is_old limit key)) → IsTrue (stays key)
  pub left : after ≡ filter (λ e. stays e.0) before

-- the numbers up to the limit
abbrev pub up_to : ℕ → List ℕ → List ℕ
up_to limit numbers = filter (λ n. nat_le n limit) numbers

-- the keys of these generations are gone
unfoldable pub without_generations : List ℕ → Objects → Objects
without_generations numbers o = filter (λ e. not (list_any (λ n. is_at (key_cmp (generation_key n)) e.0) numbers)) o
