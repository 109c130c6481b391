-- What calls on the blocks of a file answer, and why bytes are lost.
use Rattle.std.specs.Prelude.{◌≡◌, ◌≢◌, ℕ, List, Bool, true, false, Option, Some, Result, Ok, Err, Contains, option_and_then}
use Rattle.s3_rows.specs.declared.digest.Digest.{Digest}
use Rattle.s3_rows.specs.Rows.{Block}
use Rattle.s3_rows.specs.Selections.{block_at, inode_block_at}
use Rattle.s3_rows.specs.Tables.{Tables}
use Rattle.s3_rows.specs.Told.{Told, IfTold}
use Rattle.s3_devices.specs.Keys.{objects_in}
use Rattle.s3_devices.specs.Objects.{Objects}
use Rattle.s3_devices.specs.Told as stores
use Rattle.file_ops.specs.Loads.{digest_held}
use Rattle.file_ops.specs.declared.file_fault.FileFault.{FileFault}
use Rattle.file_ops.specs.declared.file_fault.FileFault.TheVariants as faults

-- the keeper has failed, and it was no want of memory
abbrev pub keeper_failed : {T : Type 0} → Result T FileFault → Bool
keeper_failed (Ok x) = false
keeper_failed (Err faults.Keeper) = true
keeper_failed (Err faults.Link) = false
keeper_failed (Err (faults.Lost object kept got)) = false
keeper_failed (Err faults.Worn) = false
keeper_failed (Err faults.Memory) = false

-- the link has failed, and it was neither want of memory nor bytes that are lost
abbrev pub link_failed : {T : Type 0} → Result T FileFault → Bool
link_failed (Ok x) = false
link_failed (Err faults.Keeper) = false
link_failed (Err faults.Link) = true
link_failed (Err (faults.Lost object kept got)) = false
link_failed (Err faults.Worn) = false
link_failed (Err faults.Memory) = false

-- bytes are lost
abbrev pub is_lost : {T : Type 0} → Result T FileFault → Bool
is_lost (Ok x) = false
is_lost (Err faults.Keeper) = false
is_lost (Err faults.Link) = false
is_lost (Err (faults.Lost object kept got)) = true
is_lost (Err faults.Worn) = false
is_lost (Err faults.Memory) = false

-- a number or a count has come to its end
abbrev pub is_worn : {T : Type 0} → Result T FileFault → Bool
is_worn (Ok x) = false
is_worn (Err faults.Keeper) = false
is_worn (Err faults.Link) = false
is_worn (Err (faults.Lost object kept got)) = false
is_worn (Err faults.Worn) = true
is_worn (Err faults.Memory) = false

-- the block row that the row of a spot names
abbrev pub block_named : Tables → ℕ → ℕ → Option Block
block_named t inode blockno = option_and_then (λ r. block_at t r.block) (inode_block_at t inode blockno)

-- the spot names a block row of this object and digest
pub record NamesBlock (t : Tables) (inode blockno of_object : ℕ) (of_digest : Digest) : Type 0 where
  pub row : Block
  pub named : block_named t inode blockno ≡ Some row
  pub object : row.object ≡ of_object
  pub digest : row.digest ≡ of_digest

-- Bytes are lost: of an object and a digest of which a fact of the tables holds. The digest got is that of the bytes held, and not
-- the one that is kept.
abbrev pub IsLossWhere : (Tables → ℕ → Digest → Type 0) → (List ℕ → List ℕ) → Option Told → Option Objects → FileFault → Type 0
IsLossWhere Names digest_of tables objects (faults.Lost object kept got) =
    (got ≢ Some kept) × stores.IfTold objects (λ o. got ≡ digest_held digest_of (objects_in o object)) × IfTold tables (λ t. Names t object kept)
IsLossWhere Names digest_of tables objects faults.Keeper = Unit {0}
IsLossWhere Names digest_of tables objects faults.Link = Unit {0}
IsLossWhere Names digest_of tables objects faults.Worn = Unit {0}
IsLossWhere Names digest_of tables objects faults.Memory = Unit {0}

-- bytes are lost of the block that a spot names
abbrev pub IsLossAt : (List ℕ → List ℕ) → Option Told → Option Objects → ℕ → ℕ → FileFault → Type 0
IsLossAt digest_of tables objects inode blockno fault =
    IsLossWhere (λ t object kept. NamesBlock t inode blockno object kept) digest_of tables objects fault

-- bytes are lost of one of these blocks of a file
abbrev pub IsLossAmong : (List ℕ → List ℕ) → Option Told → Option Objects → ℕ → (Tables → List ℕ) → FileFault → Type 0
IsLossAmong digest_of tables objects inode numbers fault =
    IsLossWhere (λ t object kept. (n : ℕ) × Contains (numbers t) n × NamesBlock t inode n object kept) digest_of tables objects fault
