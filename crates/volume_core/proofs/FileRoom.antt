-- Numbers and counts that are there for the blocks that an operation writes.
use Rattle.std.proofs.Common.{◌≡◌, ◌+◌, ℕ, max, List, [], ◌∷◌, length, true, false, Option, None, Some, sym, ap, ◌∙◌, subst, arith, eqb-true}
use Rattle.std.specs.Prelude.{◌==◌, nat_lt, if◌then◌else◌}
use Rattle.op_frames.specs.declared.operation.Op.{Op}
use Rattle.op_frames.specs.declared.operation.Op.TheVariants as ops
use Rattle.plain_tree.specs.Tree.{Tree}
use Rattle.plain_tree.specs.Files.{resized, written_at}
use Rattle.s3_rows.specs.declared.change.Change.{Change}
use Rattle.s3_rows.specs.declared.change.Change.TheVariants as changes
use Rattle.s3_rows.specs.Rows.{Inode}
use Rattle.s3_rows.specs.Selections.{inode_at}
use Rattle.s3_rows.specs.Tables.{Tables}
use Rattle.s3_rows.specs.Told.{Told}
use Rattle.s3_devices.specs.Objects.{Objects}
use Rattle.core_model.specs.Changes.{blocks_of_resize, blocks_of_write}
use Rattle.file_ops.specs.FileBytes.{IfBothTold, stored_in}
use Rattle.file_ops.specs.FileChanges.{HaveRoom, with_length}
use Rattle.volume_core.specs.declared.row_core.RowCore.{RowCore}
use Rattle.volume_core.specs.Causes.{HasRoom, HaveRoomFor, file_used, writes_blocks}
use Rattle.volume_core.specs.Standing.{StandsFor}
use Rattle.volume_core.proofs.Looking.{IsOpenFile}

both_all : (tables : Option Told) (objects : Option Objects) (P : Tables → Objects → Type 0) → ((t : Tables) (o : Objects) → P t o) → IfBothTold tables objects P
both_all None objects P all = tt
both_all (Some s) None P all = tt
both_all (Some s) (Some o) P all = all s.tables o

module _ (digest_of : List ℕ → List ℕ) (before : Option Told) (objects : Option Objects) (whole : Tree) (pass : ℕ) where
  -- an operation that writes no blocks needs none
  pub no_blocks_room : (op : Op) (now : ℕ) → writes_blocks op ≡ false → HasRoom digest_of before objects whole pass op now
  no_blocks_room (ops.Truncate inode size) now writes = absurd (cc writes)
  no_blocks_room (ops.Write handle offset bytes) now writes = absurd (cc writes)
  no_blocks_room op now writes = both_all before objects (λ t o. (r : Inode) → inode_at t (file_used whole pass op) ≡ Some r → HaveRoomFor digest_of t o whole r now op) (λ t o r there. tt)

  -- nor does a Write of no bytes
  pub no_bytes_room : (handle offset : ℕ) (bytes : List ℕ) (now : ℕ) → (length bytes == 0) ≡ true → HasRoom digest_of before objects whole pass (ops.Write handle offset bytes) now
  no_bytes_room handle offset [] now empty =
      both_all before objects (λ t o. (r : Inode) → inode_at t (file_used whole pass (ops.Write handle offset [])) ≡ Some r → HaveRoomFor digest_of t o whole r now (ops.Write handle offset []))
      (λ t o r there. tt)
  no_bytes_room handle offset (b ∷ bytes) now empty =
      let none : length (b ∷ bytes) ≡ 0 = eqb-true (length (b ∷ bytes)) 0 empty in
      absurd (omega (arith, none))

module _ {K : Type 0} (told : K → Option Told) (before : RowCore K) (digest_of : List ℕ → List ℕ) (objects : Option Objects) (whole : Tree) (s : StandsFor told before whole) (r : Inode) (block_size pass now : ℕ)
    (size : block_size ≡ whole.block_size) (there : inode_at s.now.tables r.id ≡ Some r) where
  -- the one row of the file
  room_from : (op : Op) (new : List ℕ → List ℕ) (changed : Tables → ℕ → List ℕ) (batch : List Change) → file_used whole pass op ≡ r.id
      → ((t : Tables) (o : Objects) → HaveRoom digest_of t o r whole.block_size new (changed t whole.block_size) batch → HaveRoomFor digest_of t o whole r now op)
      → IfBothTold (told before.keeper) objects (λ t o. HaveRoom digest_of t o r block_size new (changed t block_size) batch) → HasRoom digest_of (told before.keeper) objects whole pass op now
  room_from op new changed batch number follows room =
      subst (λ x. IfBothTold x objects Needed) (sym s.tells) (by_objects objects (subst (λ x. IfBothTold x objects Given) s.tells room))
    where
      Given : Tables → Objects → Type 0
      Given t o = HaveRoom digest_of t o r block_size new (changed t block_size) batch

      Needed : Tables → Objects → Type 0
      Needed t o = (x : Inode) → inode_at t (file_used whole pass op) ≡ Some x → HaveRoomFor digest_of t o whole x now op

      by_objects : (y : Option Objects) → IfBothTold (Some s.now) y Given → IfBothTold (Some s.now) y Needed
      by_objects None fact = tt
      by_objects (Some o) fact =
          λ x is.
          let both : Some r ≡ Some x = sym there ∙ ap (inode_at s.now.tables) (sym number) ∙ is in
          let same : r ≡ x = cc both in
          subst (λ (q : Inode). HaveRoomFor digest_of s.now.tables o whole q now op) same
          (follows s.now.tables o (subst (λ n. HaveRoom digest_of s.now.tables o r n new (changed s.now.tables n) batch) size fact))

  of_bytes : (handle offset : ℕ) (bytes : List ℕ) (t : Tables) (o : Objects)
      → HaveRoom digest_of t o r whole.block_size (written_at offset bytes) (blocks_of_write whole.block_size offset (length bytes) r.size (stored_in t r.id))
      (changes.PutInode (with_length (max r.size (offset + length bytes)) now r) ∷ [])
      → HaveRoomFor digest_of t o whole r now (ops.Write handle offset bytes)
  of_bytes handle offset [] t o room = tt
  of_bytes handle offset (b ∷ bytes) t o room = room

  -- those of a Write
  pub write_room : (handle offset : ℕ) (bytes : List ℕ) → IsOpenFile s.now.tables whole pass handle r
      → IfBothTold (told before.keeper) objects (λ t o. HaveRoom digest_of t o r block_size (written_at offset bytes) (blocks_of_write block_size offset (length bytes) r.size (stored_in t r.id))
      (changes.PutInode (with_length (max r.size (offset + length bytes)) now r) ∷ []))
      → HasRoom digest_of (told before.keeper) objects whole pass (ops.Write handle offset bytes) now
  write_room handle offset bytes file =
      room_from (ops.Write handle offset bytes) (written_at offset bytes) (λ t n. blocks_of_write n offset (length bytes) r.size (stored_in t r.id))
      (changes.PutInode (with_length (max r.size (offset + length bytes)) now r) ∷ []) file.inode (of_bytes handle offset bytes)

  -- and those of a Truncate
  pub truncate_room : (inode len : ℕ) → inode ≡ r.id
      → IfBothTold (told before.keeper) objects (λ t o. HaveRoom digest_of t o r block_size (resized len) (blocks_of_resize block_size len r.size (stored_in t r.id))
      (if nat_lt len r.size then [] else changes.PutInode (with_length len now r) ∷ []))
      → HasRoom digest_of (told before.keeper) objects whole pass (ops.Truncate inode len) now
  truncate_room inode len number =
      room_from (ops.Truncate inode len) (resized len) (λ t n. blocks_of_resize n len r.size (stored_in t r.id))
      (if nat_lt len r.size then [] else changes.PutInode (with_length len now r) ∷ []) number (λ t o room. room)
