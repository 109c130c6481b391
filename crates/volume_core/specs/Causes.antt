-- Why an operation on the bytes of a file is not carried out.
use Rattle.std.specs.Prelude.{◌≡◌, ◌⊎◌, ℕ, ◌+◌, ◌-◌, max, min, List, [], ◌∷◌, length, Bool, true, false, nat_lt, Option, None, Some, if◌then◌else◌}
use Rattle.op_frames.specs.declared.operation.Op.{Op}
use Rattle.op_frames.specs.declared.operation.Op.TheVariants as ops
use Rattle.plain_tree.specs.Tree.{Tree, handle_of}
use Rattle.plain_tree.specs.Files.{file_at, inode_of}
use Rattle.block_math.specs.Changes.{resized, written_at}
use Rattle.s3_rows.specs.declared.change.Change.TheVariants as changes
use Rattle.s3_rows.specs.declared.digest.Digest.{Digest}
use Rattle.s3_rows.specs.Rows.{Inode}
use Rattle.s3_rows.specs.Selections.{inode_at}
use Rattle.s3_rows.specs.Tables.{Tables}
use Rattle.s3_rows.specs.Told.{Told, IfTold}
use Rattle.s3_devices.specs.Objects.{Objects}
use Rattle.core_model.specs.Changes.{blocks_of_resize, blocks_of_write, needed_by_write, touched_blocks}
use Rattle.file_ops.specs.declared.file_fault.FileFault.TheVariants as faults
use Rattle.file_ops.specs.FileBytes.{IfBothTold, stored_in}
use Rattle.file_ops.specs.FileChanges.{AreWorn, HaveRoom, with_length}
use Rattle.file_ops.specs.FileFaults.{IsLossAmong}
use Rattle.ref_counts.specs.Plans.{IsWorn}
use Rattle.tree_copy.specs.CopyPlans.{IsCopyWorn}

-- it writes blocks of a file
abbrev pub writes_blocks : Op → Bool
writes_blocks (ops.Truncate inode size) = true
writes_blocks (ops.Write handle offset bytes) = true
writes_blocks _ = false

-- the inode of the file whose bytes an operation reads or writes
abbrev pub file_used : Tree → ℕ → Op → ℕ
file_used whole pass (ops.Truncate inode size) = inode
file_used whole pass (ops.Read handle offset count) = inode_of (handle_of whole pass handle)
file_used whole pass (ops.Write handle offset bytes) = inode_of (handle_of whole pass handle)
file_used whole pass _ = 0

-- how many bytes a file has
abbrev pub length_of_file : Tree → ℕ → ℕ
length_of_file whole inode = elim (file_at whole inode) [ Some bytes ↦ length bytes | None ↦ 0 ]

-- the blocks of the file whose stored bytes it needs
abbrev pub needed_by : Tables → Tree → ℕ → Op → List ℕ
needed_by t whole pass (ops.Truncate inode size) = blocks_of_resize whole.block_size size (length_of_file whole inode) (stored_in t inode)
needed_by t whole pass (ops.Read handle offset count) =
    touched_blocks whole.block_size offset (min count (length_of_file whole (inode_of (handle_of whole pass handle)) - offset))
needed_by t whole pass (ops.Write handle offset bytes) =
    needed_by_write whole.block_size offset (length bytes)
    (blocks_of_write whole.block_size offset (length bytes) (length_of_file whole (inode_of (handle_of whole pass handle))) (stored_in t (inode_of (handle_of whole pass handle))))
needed_by t whole pass _ = []

-- the store has not the bytes of one of these blocks
abbrev pub IsLossFor : (List ℕ → List ℕ) → Option Told → Option Objects → Tree → ℕ → Op → ℕ → Digest → Option Digest → Type 0
IsLossFor digest_of before objects whole pass op object kept got =
    IsLossAmong digest_of before objects (file_used whole pass op) (λ t. needed_by t whole pass op) (faults.Lost object kept got)

-- there is no number, or no count, for the blocks that it writes
abbrev pub AreWornBlocks : (List ℕ → List ℕ) → Tables → Option Objects → Tree → Inode → ℕ → Op → Type 0
AreWornBlocks digest_of t objects whole r now (ops.Truncate inode size) =
    AreWorn digest_of t objects r whole.block_size (resized size) (blocks_of_resize whole.block_size size r.size (stored_in t r.id))
    (if nat_lt size r.size then [] else changes.PutInode (with_length size now r) ∷ [])
AreWornBlocks digest_of t objects whole r now (ops.Write handle offset bytes) =
    AreWorn digest_of t objects r whole.block_size (written_at offset bytes) (blocks_of_write whole.block_size offset (length bytes) r.size (stored_in t r.id))
    (changes.PutInode (with_length (max r.size (offset + length bytes)) now r) ∷ [])
AreWornBlocks digest_of t objects whole r now _ = ⊥

-- a copy of a tree would use a name or a block too often
abbrev pub IsWornCopy : Tables → Tree → Op → ℕ → Type 0
IsWornCopy t whole (ops.CopyTree source parent name) now = IsCopyWorn t whole source parent now name
IsWornCopy t whole _ now = ⊥

-- a count or an id of a name or an inode that is needed is worn, or a count that a copy needs
abbrev pub AreWornRows : Tables → Tree → Op → ℕ → Type 0
AreWornRows t whole op now = IsWorn t whole op ⊎ IsWornCopy t whole op now

-- A count or an id that is needed is worn: of a name or an inode, of what a copy uses, or of the blocks that are written.
abbrev pub LacksBlocks : (List ℕ → List ℕ) → Option Told → Option Objects → Tree → ℕ → Op → ℕ → Type 0
LacksBlocks digest_of before objects whole pass op now =
    IfTold before (λ t. AreWornRows t whole op now ⊎ ((r : Inode) × (inode_at t (file_used whole pass op) ≡ Some r) × AreWornBlocks digest_of t objects whole r now op))

-- there is a number and a count for each block that it writes into a file, whatever bytes that has
abbrev pub HaveRoomFor : (List ℕ → List ℕ) → Tables → Objects → Tree → Inode → ℕ → Op → Type 0
HaveRoomFor digest_of t o whole r now (ops.Truncate inode size) =
    HaveRoom digest_of t o r whole.block_size (resized size) (blocks_of_resize whole.block_size size r.size (stored_in t r.id))
    (if nat_lt size r.size then [] else changes.PutInode (with_length size now r) ∷ [])
HaveRoomFor digest_of t o whole r now (ops.Write handle offset []) = Unit {0}
HaveRoomFor digest_of t o whole r now (ops.Write handle offset (b ∷ bytes)) =
    HaveRoom digest_of t o r whole.block_size (written_at offset (b ∷ bytes)) (blocks_of_write whole.block_size offset (length (b ∷ bytes)) r.size (stored_in t r.id))
    (changes.PutInode (with_length (max r.size (offset + length (b ∷ bytes))) now r) ∷ [])
HaveRoomFor digest_of t o whole r now _ = Unit {0}

-- none of them is worn, where tables and store are told
abbrev pub HasRoom : (List ℕ → List ℕ) → Option Told → Option Objects → Tree → ℕ → Op → ℕ → Type 0
HasRoom digest_of before objects whole pass op now =
    IfBothTold before objects (λ t o. (r : Inode) → inode_at t (file_used whole pass op) ≡ Some r → HaveRoomFor digest_of t o whole r now op)
