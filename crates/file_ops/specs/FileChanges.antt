-- Files that get other bytes: their rows, and the tables after that.
use Rattle.std.specs.Prelude.{◌≡◌, ◌⊎◌, ℕ, ◌+◌, ◌*◌, ◌<◌, ◌≤◌, ◌==◌, List, [], length, All, false, IsTrue, Option, None, Some, Contains, option_map, unwrap_or}
use Rattle.block_math.specs.Blocks.{piece_of, trimmed}
use Rattle.std.specs.List.{list_any}
use Rattle.s3_base.specs.declared.node_kind.Kind.TheVariants as kinds
use Rattle.s3_rows.specs.declared.change.Change.{Change}
use Rattle.s3_rows.specs.declared.change.Change.TheVariants as changes
use Rattle.s3_rows.specs.Rows.{Inode}
use Rattle.s3_rows.specs.Ranges.{HasRanges}
use Rattle.s3_rows.specs.Tables.{Tables}
use Rattle.s3_rows.specs.Told as tellers
use Rattle.s3_rows.specs.Told.{Told}
use Rattle.s3_rows.specs.Batches.{after_change}
use Rattle.s3_rows.specs.Selections.{inode_at}
use Rattle.s3_rows.specs.Validity.{IsValid, differ}
use Rattle.s3_devices.specs.Keys.{objects_in}
use Rattle.s3_devices.specs.Objects.{Objects}
use Rattle.s3_devices.specs.Told as stores
use Rattle.tree_rows.specs.Contents.{Contents, HaveBytes}
use Rattle.tree_rows.specs.Spots.{form_at}
use Rattle.core_model.specs.Exact.{form_of_stored}
use Rattle.core_model.specs.Safe.{HaveHeld}
use Rattle.block_steps.specs.Owed.{KeepsNames, next_block_of}
use Rattle.byte_steps.specs.Changed.{KnowsChanged}
use Rattle.file_ops.specs.declared.new_block.NewBlock.{NewBlock}
use Rattle.file_ops.specs.FileBytes.{IsFile}
use Rattle.file_ops.specs.NewBlocks.{AreBlocksOf, AreShort, blocks_at, numbers_of}
use Rattle.file_ops.specs.Placed.{HaveTheirForms, IsWornFor, KnowsBlocks, is_placed}

-- the row of a file that has other bytes from now on
abbrev pub with_length : ℕ → ℕ → Inode → Inode
with_length size now r = record r { size = size; mtime = now; ctime = now }

-- the row is that of a regular file in valid tables without slots, with blocks of this size
pub record IsFileAt (t : Tables) (file : Inode) (block_size : ℕ) : Type 0 where
  pub valid : IsValid t
  pub slots : t.slots ≡ []
  pub there : inode_at t file.id ≡ Some file
  pub regular : file.kind ≡ kinds.Regular
  pub size : valid.params.block_size ≡ block_size

-- the tables stay valid, and all names and inodes are as before but for the row of the file
pub record IsFileStep (t after : Tables) (new : Inode) : Type 0 where
  pub valid : IsValid after
  pub names : KeepsNames (after_change (changes.PutInode new) t) after

-- the blocks lie within the file as it is to be, and stand there once
pub record AreWithin (size block_size : ℕ) (blocks : List NewBlock) : Type 0 where
  pub within : All (λ b. b.blockno * block_size < size) blocks
  pub short : AreShort block_size blocks
  pub distinct : IsTrue (differ (λ a b. b.blockno == a.blockno) blocks)

-- There is no number, or no count, for the changed blocks of a file, after this batch.
pub record AreWorn (digest_of : List ℕ → List ℕ) (t : Tables) (objects : Option Objects) (file : Inode) (block_size : ℕ) (new : List ℕ → List ℕ)
    (changed : List ℕ) (batch : List Change) : Type 0 where
  pub blocks : List NewBlock
  pub numbers : numbers_of blocks ≡ changed
  pub stored : stores.IfTold objects (λ o. (old : List ℕ) → IsFile t o file.id file.size block_size old → AreBlocksOf block_size (new old) blocks)
  pub worn : IsWornFor digest_of t batch blocks

-- Whatever bytes the file had, in tables and a store, there is a number and a count for each of its changed blocks, after this batch.
abbrev pub HaveRoom : (List ℕ → List ℕ) → Tables → Objects → Inode → ℕ → (List ℕ → List ℕ) → List ℕ → List Change → Type 0
HaveRoom digest_of t o file block_size new changed batch =
    (old : List ℕ) → IsFile t o file.id file.size block_size old → IsWornFor digest_of t batch (blocks_at block_size (new old) changed) → ⊥

-- The file has its row and its blocks: these have their forms where contents know them, and all other places within its length, and
-- those of other files, are as before.
pub record AreInFile (digest_of : List ℕ → List ℕ) (t after : Tables) (new : Inode) (block_size : ℕ) (blocks : List NewBlock) : Type 0 where
  pub step : IsFileStep t after new
  pub elsewhere : (other number : ℕ) → is_placed new.id blocks other number ≡ false → ((other ≡ new.id) → new.size ≤ number * block_size → ⊥)
      → form_at after other number ≡ form_at t other number
  pub forms : (m : Contents) → HaveBytes m t.blocks → KnowsBlocks digest_of m blocks → HaveTheirForms digest_of after new.id blocks × HaveBytes m after.blocks

-- A file has other bytes: its changed blocks have their forms, those past its end none, and all other places are as before. The
-- contents have the bytes of all blocks.
pub record IsFileWritten (digest_of : List ℕ → List ℕ) (m : Contents) (t after : Tables) (inode block_size : ℕ) (new changed : List ℕ) : Type 0 where
  pub put : (n : ℕ) → Contains changed n → form_at after inode n ≡ form_of_stored digest_of (trimmed (piece_of block_size new n))
  pub past : (n : ℕ) → length new ≤ n * block_size → form_at after inode n ≡ None
  pub kept : (x n : ℕ) → ((x ≡ inode) → (Contains changed n) ⊎ (length new ≤ n * block_size) → ⊥) → form_at after x n ≡ form_at t x n
  pub known : HaveBytes m after.blocks

-- Whatever bytes the file had, in tables and a store before a call, it has the new ones after the batch, in the tables that the call
-- left: for all contents that have the bytes of the blocks, and know the changed ones.
abbrev pub GetsBytes : (List ℕ → List ℕ) → Tables → Objects → Tables → Tables → Inode → ℕ → (List ℕ → List ℕ) → List ℕ → Type 0
GetsBytes digest_of t o now after file block_size new changed =
    IsFileAt now file block_size → (old : List ℕ) → IsFile t o file.id file.size block_size old → (m : Contents) → HaveBytes m now.blocks
    → KnowsChanged digest_of m block_size (new old) changed → IsFileWritten digest_of m t after file.id block_size (new old) changed

-- What the store held of the rows for some contents that know the changed blocks, it holds of them after the batch.
abbrev pub HoldsBytes : (List ℕ → List ℕ) → Tables → Objects → Tables → Tables → Option Objects → Inode → ℕ → (List ℕ → List ℕ) → List ℕ → Type 0
HoldsBytes digest_of t o now after since file block_size new changed =
    IsFileAt now file block_size → (old : List ℕ) → IsFile t o file.id file.size block_size old → (m : Contents) → KnowsChanged digest_of m block_size (new old) changed
    → stores.IfTold since (λ held. HaveHeld m (objects_in o) now.blocks → HaveHeld m (objects_in held) after.blocks)

-- the object of each block row holds what it held
abbrev pub KeepsObjectsOf : Tables → Objects → Objects → Type 0
KeepsObjectsOf t before after = (object : ℕ) → IsTrue (list_any (λ r. r.object == object) t.blocks) → objects_in after object ≡ objects_in before object

-- So it is of tables that are told, whatever a call answers.
abbrev pub KeepsObjects : Option Told → Option Objects → Option Objects → Type 0
KeepsObjects tables before after = tellers.IfTold tables (λ t. IsValid t → HasRanges t → stores.Becomes (KeepsObjectsOf t) before after)

-- ---- how much is drawn

-- the next number of an object
abbrev pub next_object_of : Tables → ℕ
next_object_of t = unwrap_or (option_map (λ p. p.next_object) t.params) 0

-- at most so many blocks and objects more are drawn, and so many places more come
pub record AreFew (count : ℕ) (t after : Tables) : Type 0 where
  pub blocks : next_block_of after ≤ next_block_of t + count
  pub objects : next_object_of after ≤ next_object_of t + count
  pub places : length after.inode_blocks ≤ length t.inode_blocks + count
