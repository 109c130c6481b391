-- Laws that the core's steps rest on, as the calls that state them give them.
use Rattle.std.specs.Prelude.{◌≡◌, ◌≢◌, ◌<◌, ◌==◌, ℕ, List, length, false, IsTrue, None, Some}
use Rattle.std.specs.List.{list_any}
use Rattle.block_math.specs.Changes.{resized, written_at}
use Rattle.op_frames.specs.declared.operation.Op.{Op}
use Rattle.op_frames.specs.declared.operation.Op.TheVariants as ops
use Rattle.plain_tree.specs.Checks.{first_failure}
use Rattle.plain_tree.specs.Classes.{Bytes, class_of}
use Rattle.tree_laws.specs.Files.{copies_files}
use Rattle.plain_tree.specs.Files.{file_at}
use Rattle.plain_tree.specs.Numbers.{InOrder}
use Rattle.plain_tree.specs.Operations.{checks, effect}
use Rattle.plain_tree.specs.Tree.{Tree}
use Rattle.plain_tree.specs.WellFormed.{IsWellFormed}
use Rattle.s3_rows.specs.Rows.{Block, Inode}
use Rattle.s3_rows.specs.Stores.{AreHeld}
use Rattle.s3_rows.specs.Tables.{IsOrdered, Tables}
use Rattle.s3_rows.specs.Validity.{IsValid, HasUniqueNames}
use Rattle.tree_rows.specs.Contents.{Contents, HaveBytes}
use Rattle.tree_rows.specs.Shapes.{Represents}
use Rattle.ref_counts.specs.Plans.{LeavesRest}
use Rattle.core_model.specs.Bytes.{HasBytes, Overlay, no_overlay}
use Rattle.core_model.specs.Changes.{blocks_of_resize, blocks_of_write}
use Rattle.core_model.specs.Exact.{IsExact}
use Rattle.core_model.specs.Safe.{HaveHeld, Held, with_new_objects}
use Rattle.block_steps.specs.Owed.{KeepsNames}
use Rattle.byte_steps.specs.Changed.{EndsAt, IsFileChanged, KnowsChanged, stored_length}
use Rattle.byte_steps.specs.Kept.{KeepsBytes}
use Rattle.byte_steps.specs.Shared.{SharesBlocks}
use Rattle.file_ops.specs.FileChanges.{IsFileAt}
use Rattle.tree_copy.specs.CopiedBytes.{CopiesFiles}
use Rattle.tree_copy.specs.CopySteps.{IsCopyStep}

-- objects that are drawn
pub record DrawnLaws : Type 0 where
  pub valid : (t : Tables) (count : ℕ) → IsValid t → IsValid (with_new_objects count t)
  pub unique : (t : Tables) (count : ℕ) → HasUniqueNames t → HasUniqueNames (with_new_objects count t)
  pub tree : (t : Tables) (count : ℕ) (whole : Tree) → Represents t whole → Represents (with_new_objects count t) whole
  pub bytes : (m : Contents) (t : Tables) (count : ℕ) (over : Overlay) (whole : Tree) → HasBytes m t over whole → HasBytes m (with_new_objects count t) over whole
  pub exact : (digest_of : List ℕ → List ℕ) (t : Tables) (count : ℕ) (over : Overlay) (whole : Tree) → IsExact digest_of t over whole → IsExact digest_of (with_new_objects count t) over whole
  pub blocks : (t : Tables) (count : ℕ) → (with_new_objects count t).blocks ≡ t.blocks

-- calls that store no block: their files share the blocks of files that were there
pub record ShareLaws : Type 0 where
  pub bytes : (m : Contents) (t after : Tables) (whole next : Tree) → IsOrdered t → IsOrdered after → SharesBlocks t after whole next
      → HasBytes m t no_overlay whole → HasBytes m after no_overlay next
  pub exact : (digest_of : List ℕ → List ℕ) (t after : Tables) (whole next : Tree) → SharesBlocks t after whole next
      → IsExact digest_of t no_overlay whole → IsExact digest_of after no_overlay next
  pub held : (m : Contents) (held : Held) (t after : Tables) (whole next : Tree) → IsOrdered t → IsOrdered after → SharesBlocks t after whole next
      → HaveHeld m held t.blocks → HaveHeld m held after.blocks
  pub stored : (digest_of : List ℕ → List ℕ) (held : Held) (t after : Tables) (whole next : Tree) → IsOrdered t → IsOrdered after → SharesBlocks t after whole next
      → AreHeld digest_of held t.blocks → AreHeld digest_of held after.blocks

-- operations that write no bytes and copy no files are such calls
pub record NameLaws : Type 0 where
  pub files : (whole : Tree) (pass now : ℕ) (op : Op) → IsWellFormed whole → class_of op ≢ Bytes → copies_files op ≡ false
      → first_failure (checks whole pass op) ≡ None → KeepsBytes whole (effect whole pass op now)
  pub size : (whole : Tree) (pass now : ℕ) (op : Op) → first_failure (checks whole pass op) ≡ None → (effect whole pass op now).block_size ≡ whole.block_size
  pub shares : (t after : Tables) (whole next : Tree) → IsValid t → Represents t whole → Represents after next → LeavesRest t after
      → next.block_size ≡ whole.block_size → KeepsBytes whole next → SharesBlocks t after whole next
  pub shared : ShareLaws

-- copies of trees are such calls too
pub record CopyLaws : Type 0 where
  pub files : (whole : Tree) (pass source parent now : ℕ) (name : List ℕ) → InOrder whole → CopiesFiles whole source (effect whole pass (ops.CopyTree source parent name) now)
  pub shares : (t after : Tables) (whole next : Tree) (source : ℕ) → Represents t whole → CopiesFiles whole source next → IsCopyStep t after whole source next
      → SharesBlocks t after whole next
  pub shared : ShareLaws

-- a file that gets other bytes: what keeps names keeps the tree, and a changed file has its bytes
pub record ChangeLaws : Type 0 where
  pub tree : (t after : Tables) (whole : Tree) → KeepsNames t after → Represents t whole → Represents after whole
  pub unique : (t after : Tables) → KeepsNames t after → HasUniqueNames t → HasUniqueNames after
  pub ends : (t : Tables) (file : Inode) (block_size : ℕ) → IsFileAt t file block_size → EndsAt t file.id block_size file.size
  pub bytes_written : (digest_of : List ℕ → List ℕ) (m : Contents) (t after : Tables) (whole next : Tree) (inode off : ℕ) (text old : List ℕ)
      → file_at whole inode ≡ Some old → 0 < whole.block_size → 0 < length text → EndsAt t inode whole.block_size (length old)
      → IsFileChanged digest_of t after whole next inode (written_at off text old) (blocks_of_write whole.block_size off (length text) (length old) (stored_length t inode))
      → HaveBytes m after.blocks
      → KnowsChanged digest_of m whole.block_size (written_at off text old) (blocks_of_write whole.block_size off (length text) (length old) (stored_length t inode))
      → HasBytes m t no_overlay whole → HasBytes m after no_overlay next
  pub bytes_resized : (digest_of : List ℕ → List ℕ) (m : Contents) (t after : Tables) (whole next : Tree) (inode longer : ℕ) (old : List ℕ)
      → file_at whole inode ≡ Some old → 0 < whole.block_size → EndsAt t inode whole.block_size (length old)
      → IsFileChanged digest_of t after whole next inode (resized longer old) (blocks_of_resize whole.block_size longer (length old) (stored_length t inode))
      → HaveBytes m after.blocks
      → KnowsChanged digest_of m whole.block_size (resized longer old) (blocks_of_resize whole.block_size longer (length old) (stored_length t inode))
      → HasBytes m t no_overlay whole → HasBytes m after no_overlay next
  pub exact_written : (digest_of : List ℕ → List ℕ) (t after : Tables) (whole next : Tree) (inode off : ℕ) (text old : List ℕ)
      → file_at whole inode ≡ Some old → 0 < whole.block_size → 0 < length text → EndsAt t inode whole.block_size (length old)
      → IsFileChanged digest_of t after whole next inode (written_at off text old) (blocks_of_write whole.block_size off (length text) (length old) (stored_length t inode))
      → IsExact digest_of t no_overlay whole → IsExact digest_of after no_overlay next
  pub exact_resized : (digest_of : List ℕ → List ℕ) (t after : Tables) (whole next : Tree) (inode longer : ℕ) (old : List ℕ)
      → file_at whole inode ≡ Some old → 0 < whole.block_size → EndsAt t inode whole.block_size (length old)
      → IsFileChanged digest_of t after whole next inode (resized longer old) (blocks_of_resize whole.block_size longer (length old) (stored_length t inode))
      → IsExact digest_of t no_overlay whole → IsExact digest_of after no_overlay next

-- what is held of blocks rests on their own objects
pub record HeldLaws : Type 0 where
  pub held : (m : Contents) (held after : Held) (rows : List Block) → ((object : ℕ) → IsTrue (list_any (λ r. r.object == object) rows) → after object ≡ held object) → HaveHeld m held rows → HaveHeld m after rows
  pub stored : (digest_of : List ℕ → List ℕ) (held after : Held) (rows : List Block) → ((object : ℕ) → IsTrue (list_any (λ r. r.object == object) rows) → after object ≡ held object)
      → AreHeld digest_of held rows → AreHeld digest_of after rows
