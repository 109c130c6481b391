-- Bytes that are lost of one block of several.
use Rattle.std.proofs.Common.{◌≡◌, ℕ, List, Option, subst}
use Rattle.std.specs.Prelude.{Contains}
use Rattle.s3_rows.specs.declared.digest.Digest.{Digest}
use Rattle.s3_rows.specs.Tables.{Tables}
use Rattle.s3_rows.specs.Told.{Told}
use Rattle.s3_devices.specs.Objects.{Objects}
use Rattle.ref_counts.proofs.Told.{IfTold-weaker}
use Rattle.file_ops.specs.FileFaults.{IsLossAmong, IsLossAt, IsLossWhere}
use Rattle.file_ops.specs.declared.file_fault.FileFault.{FileFault}
use Rattle.file_ops.specs.declared.file_fault.FileFault.TheVariants as faults

pub IsLossWhere-weaker : (Names Others : Tables → ℕ → Digest → Type 0) (digest_of : List ℕ → List ℕ) (tables : Option Told) (objects : Option Objects) (fault : FileFault)
    → ((t : Tables) (object : ℕ) (kept : Digest) → Names t object kept → Others t object kept)
    → IsLossWhere Names digest_of tables objects fault → IsLossWhere Others digest_of tables objects fault
IsLossWhere-weaker Names Others digest_of tables objects (faults.Lost object kept got) follows loss =
    (loss.0, loss.1, IfTold-weaker tables (λ t. Names t object kept) (λ t. Others t object kept) (λ t. follows t object kept) loss.2)
IsLossWhere-weaker Names Others digest_of tables objects faults.Keeper follows loss = tt
IsLossWhere-weaker Names Others digest_of tables objects faults.Link follows loss = tt
IsLossWhere-weaker Names Others digest_of tables objects faults.Worn follows loss = tt
IsLossWhere-weaker Names Others digest_of tables objects faults.Memory follows loss = tt

-- over devices that tell the same
pub IsLossWhere-same : (Names : Tables → ℕ → Digest → Type 0) (digest_of : List ℕ → List ℕ) (tables now : Option Told) (objects after : Option Objects) (fault : FileFault)
    → now ≡ tables → after ≡ objects → IsLossWhere Names digest_of now after fault → IsLossWhere Names digest_of tables objects fault
IsLossWhere-same Names digest_of tables now objects after fault same others loss =
    subst (λ x. IsLossWhere Names digest_of x objects fault) same (subst (λ y. IsLossWhere Names digest_of now y fault) others loss)

pub IsLossAmong-at : (digest_of : List ℕ → List ℕ) (tables : Option Told) (objects : Option Objects) (inode blockno : ℕ) (numbers : Tables → List ℕ) (fault : FileFault)
    → ((t : Tables) → Contains (numbers t) blockno) → IsLossAt digest_of tables objects inode blockno fault → IsLossAmong digest_of tables objects inode numbers fault
IsLossAmong-at digest_of tables objects inode blockno numbers fault there loss =
    IsLossWhere-weaker _ _ digest_of tables objects fault (λ t object kept named. (blockno, there t, named)) loss
