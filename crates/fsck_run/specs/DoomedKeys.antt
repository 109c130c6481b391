-- Keys that are to go from a store, one after the other.
use Rattle.std.specs.Prelude.{◌≡◌, ℕ, List, [], ◌∷◌, drop, Bool, true, false, Option, Some}
use Rattle.s3_devices.specs.Objects.{Objects, without_object, IsKeptOrGone}
use Rattle.fsck_run.specs.declared.doomed_keys.DoomedKeys.{DoomedKeys}

-- those that are left
abbrev pub left : DoomedKeys → List (List ℕ)
left d = drop d.gone d.keys

-- the first went, where there was one
abbrev pub IsFirstGone : Bool → List (List ℕ) → Objects → List (List ℕ) → Option Objects → Type 0
IsFirstGone made [] o rest after = (made ≡ false) × (rest ≡ []) × (after ≡ Some o)
IsFirstGone made (k ∷ ks) o rest after = (made ≡ true) × (rest ≡ ks) × (after ≡ Some (without_object k o))

-- the delete of the first was refused: it is there or gone
abbrev pub IsFirstKeptOrGone : List (List ℕ) → Objects → Objects → Type 0
IsFirstKeptOrGone [] before after = ⊥
IsFirstKeptOrGone (k ∷ ks) before after = IsKeptOrGone k before after
