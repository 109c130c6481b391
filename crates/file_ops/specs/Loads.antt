-- What a load and a store of an object answer.
use Rattle.std.specs.Prelude.{◌≡◌, ◌≢◌, ℕ, ◌==◌, ◌<◌, ◌^◌, List, Bool, true, false, Option, Some, Result, Ok, Err, option_map, if◌then◌else◌}
use Rattle.s3_rows.specs.declared.digest.Digest.{Digest}
use Rattle.s3_devices.specs.Objects.{Objects}
use Rattle.s3_devices.specs.Keys.{objects_in}
use Rattle.s3_devices.specs.Told.{IfTold}
use Rattle.file_ops.specs.declared.load_fault.LoadFault.{LoadFault}
use Rattle.file_ops.specs.declared.load_fault.LoadFault.TheVariants as faults

-- the link has failed, and it was neither want of memory nor bytes that are lost
abbrev pub has_failed : {T : Type 0} → Result T LoadFault → Bool
has_failed (Ok x) = false
has_failed (Err faults.Link) = true
has_failed (Err (faults.Lost object kept got)) = false
has_failed (Err faults.Memory) = false

-- the digest of the bytes that are held, as a row has it
abbrev pub digest_held : (List ℕ → List ℕ) → Option (List ℕ) → Option Digest
digest_held digest_of held = option_map (λ bytes. record { 0 = digest_of bytes }) held

-- What was found of the object is no bytes of the digest that is kept: this and the digest of what was found are told.
abbrev pub IsLossOf : (List ℕ → List ℕ) → Option (List ℕ) → ℕ → Digest → LoadFault → Type 0
IsLossOf digest_of found object kept (faults.Lost of_object of_digest got) =
    (of_object ≡ object) × (of_digest ≡ kept) × (got ≢ Some kept) × (got ≡ digest_held digest_of found)
IsLossOf digest_of found object kept faults.Link = ⊥
IsLossOf digest_of found object kept faults.Memory = ⊥

-- Bytes are lost: of this object, whose digest is kept. The digest got is that of the bytes held, and not the one that is kept.
abbrev pub IsLoss : (List ℕ → List ℕ) → Option Objects → ℕ → Digest → LoadFault → Type 0
IsLoss digest_of told object kept (faults.Lost of_object of_digest got) =
    (of_object ≡ object) × (of_digest ≡ kept) × (got ≢ Some kept) × IfTold told (λ o. got ≡ digest_held digest_of (objects_in o object))
IsLoss digest_of told object kept faults.Link = Unit {0}
IsLoss digest_of told object kept faults.Memory = Unit {0}

-- the objects after a put under the key of one: it holds the bytes, and all others hold what they held
abbrev pub IsStored : ℕ → List ℕ → Objects → Objects → Type 0
IsStored object bytes before after = (other : ℕ) → other < 2 ^ 64 → objects_in after other ≡ (if other == object then Some bytes else objects_in before other)

-- after a put that was refused, all other objects hold what they held
abbrev pub KeepsOtherObjects : ℕ → Objects → Objects → Type 0
KeepsOtherObjects object before after = (other : ℕ) → other < 2 ^ 64 → other ≢ object → objects_in after other ≡ objects_in before other
