-- Nothing is lost while the store holds the object of each block.
use Rattle.std.proofs.Common.{◌≡◌, ℕ, List, [], ◌∷◌, Option, None, Some, sym, ap, ◌∙◌}
use Rattle.std.specs.Prelude.{option_and_then}
use Rattle.std.specs.List.{AllByRecursion}
use Rattle.op_frames.specs.declared.reply.Reply.{Reply}
use Rattle.op_frames.specs.declared.reply.Reply.TheVariants as replies
use Rattle.op_frames.specs.Replay.{Request}
use Rattle.plain_tree.specs.Tree.{Tree}
use Rattle.s3_rows.specs.declared.digest.Digest.{Digest}
use Rattle.s3_rows.specs.Rows.{Block, InodeBlock}
use Rattle.s3_rows.specs.Selections.{block_at, inode_block_at}
use Rattle.s3_rows.specs.Stores.{AreHeld, IsHeld}
use Rattle.s3_rows.specs.Tables.{Tables, by_block}
use Rattle.s3_rows.specs.Told.{Told}
use Rattle.s3_devices.specs.Keys.{objects_in}
use Rattle.s3_devices.specs.Objects.{Objects}
use Rattle.row_lemmas.proofs.Keyed.RowAt.{row_at_meets}
use Rattle.core_model.specs.Safe.{Held}
use Rattle.file_ops.specs.FileFaults.{NamesBlock, block_named}
use Rattle.file_ops.specs.Loads.{digest_held}
use Rattle.volume_core.specs.Answers.{IsLostReply}

AreHeld-each : (digest_of : List ℕ → List ℕ) (held : Held) (rows : List Block) → AreHeld digest_of held rows → AllByRecursion (IsHeld digest_of held) rows
AreHeld-each digest_of held [] all = tt
AreHeld-each digest_of held (r ∷ rs) all = (all.0, AreHeld-each digest_of held rs all.1)

block_named_there : (t : Tables) (inode blockno : ℕ) (row : Block) → block_named t inode blockno ≡ Some row → (id : ℕ) × (block_at t id ≡ Some row)
block_named_there t inode blockno row named = by_case (inode_block_at t inode blockno) named
  where
    by_case : (found : Option InodeBlock) → option_and_then (λ r. block_at t r.block) found ≡ Some row → (id : ℕ) × (block_at t id ≡ Some row)
    by_case None is = absurd (cc is)
    by_case (Some r) is = (r.block, is)

-- the store has the bytes of a block that a spot names
is_held : (digest_of : List ℕ → List ℕ) (held : Held) (t : Tables) (inode blockno object : ℕ) (kept : Digest) → AreHeld digest_of held t.blocks → NamesBlock t inode blockno object kept
    → digest_held digest_of (held object) ≡ Some kept
is_held digest_of held t inode blockno object kept all names =
    let there = block_named_there t inode blockno names.row names.named in
    let own : IsHeld digest_of held names.row = row_at_meets by_block (IsHeld digest_of held) there.0 t.blocks names.row (AreHeld-each digest_of held t.blocks all) there.1 in
    ap (λ (n : ℕ). digest_held digest_of (held n)) (sym names.object) ∙ ap (digest_held digest_of) own.there
    ∙ ap (λ (d : List ℕ). (let one : Option Digest = Some (record { 0 = d }) in one)) own.digest ∙ ap Some names.digest

pub never_lost : (digest_of : List ℕ → List ℕ) (s : Told) (o : Objects) (whole : Tree) (call : Request) (reply : Reply) → AreHeld digest_of (objects_in o) s.tables.blocks
    → IsLostReply digest_of (Some s) (Some o) whole call reply → ⊥
never_lost digest_of s o whole call (replies.Lost object kept got) all lost =
    let loss = lost.1 in
    let own : Digest = record { 0 = kept } in
    loss.0 (loss.1 ∙ is_held digest_of (objects_in o) s.tables _ loss.2.0 object own all loss.2.2)
never_lost digest_of s o whole call _ all lost = lost
