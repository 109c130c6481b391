-- The block that a spot names, and the bytes that are held of it.
use Rattle.std.proofs.Common.{◌≡◌, ℕ, List, [], ◌∷◌, length, Option, None, Some, refl, sym, ap, ◌∙◌, subst}
use Rattle.std.specs.Prelude.{option_map, option_and_then}
use Rattle.std.specs.List.{AllByRecursion}
use Rattle.std.specs.Option.{IsSomeAnd}
use Rattle.s3_rows.specs.Rows.{Block, InodeBlock}
use Rattle.s3_rows.specs.Selections.{block_at, inode_block_at}
use Rattle.s3_rows.specs.Stores.{AreHeld, IsHeld}
use Rattle.s3_rows.specs.Tables.{Tables, by_block}
use Rattle.s3_devices.specs.Keys.{objects_in}
use Rattle.s3_devices.specs.Objects.{Objects}
use Rattle.row_lemmas.proofs.Keyed.RowAt.{row_at_meets}
use Rattle.block_math.specs.Blocks.{piece_of}
use Rattle.tree_rows.specs.Contents.{Contents, bytes_of}
use Rattle.tree_rows.specs.Spots.{form_at, form_of_row}
use Rattle.core_model.specs.Bytes.{Shows, bytes_of_form, no_overlay, shown_at}
use Rattle.core_model.specs.Safe.{HaveHeld, Held}
use Rattle.file_ops.specs.FileBytes.{IsFile, IsOfForm, size_of_form, stored_in}
use Rattle.file_ops.specs.FileFaults.{block_named}

-- ---- rows of blocks

HaveHeld-each : (m : Contents) (held : Held) (rows : List Block) → HaveHeld m held rows → AllByRecursion (λ r. held r.object ≡ bytes_of m r.digest.0) rows
HaveHeld-each m held [] all = tt
HaveHeld-each m held (r ∷ rs) all = (all.0, HaveHeld-each m held rs all.1)

AreHeld-each : (digest_of : List ℕ → List ℕ) (held : Held) (rows : List Block) → AreHeld digest_of held rows → AllByRecursion (IsHeld digest_of held) rows
AreHeld-each digest_of held [] all = tt
AreHeld-each digest_of held (r ∷ rs) all = (all.0, AreHeld-each digest_of held rs all.1)

-- the form of a spot is that of the block row that it names
form_at_named : (t : Tables) (inode blockno : ℕ) → form_at t inode blockno ≡ option_map form_of_row (block_named t inode blockno)
form_at_named t inode blockno = by_case (inode_block_at t inode blockno)
  where
    by_case : (found : Option InodeBlock) → option_and_then (λ r. option_map form_of_row (block_at t r.block)) found
        ≡ option_map form_of_row (option_and_then (λ r. block_at t r.block) found)
    by_case None = refl
    by_case (Some r) = refl

block_named_there : (t : Tables) (inode blockno : ℕ) (row : Block) → block_named t inode blockno ≡ Some row → (id : ℕ) × (block_at t id ≡ Some row)
block_named_there t inode blockno row named = by_case (inode_block_at t inode blockno) named
  where
    by_case : (found : Option InodeBlock) → option_and_then (λ r. block_at t r.block) found ≡ Some row → (id : ℕ) × (block_at t id ≡ Some row)
    by_case None is = absurd (cc is)
    by_case (Some r) is = (r.block, is)

-- ---- a spot that names no block

module _ (t : Tables) (inode blockno : ℕ) (none : block_named t inode blockno ≡ None) where
  form_none : form_at t inode blockno ≡ None
  form_none = form_at_named t inode blockno ∙ ap (option_map form_of_row) none

  pub shown_none : (m : Contents) → shown_at m t no_overlay inode blockno ≡ Some []
  shown_none m = ap (bytes_of_form m) form_none

  pub IsOfForm-none : (digest_of : List ℕ → List ℕ) → IsOfForm digest_of (form_at t inode blockno) []
  IsOfForm-none digest_of = subst (λ form. IsOfForm digest_of form []) (sym form_none) refl

  pub stored_none : length {A = ℕ} [] ≡ stored_in t inode blockno
  stored_none = sym (ap size_of_form form_none)

-- ---- one that names a block row

module _ (t : Tables) (inode blockno : ℕ) (row : Block) (named : block_named t inode blockno ≡ Some row) where
  form_some : form_at t inode blockno ≡ Some (form_of_row row)
  form_some = form_at_named t inode blockno ∙ ap (option_map form_of_row) named

  there : (id : ℕ) × (block_at t id ≡ Some row)
  there = block_named_there t inode blockno row named

  pub shown_some : (o : Objects) (bytes : List ℕ) → objects_in o row.object ≡ Some bytes → (m : Contents) → HaveHeld m (objects_in o) t.blocks
      → shown_at m t no_overlay inode blockno ≡ Some bytes
  shown_some o bytes held m all =
      ap (bytes_of_form m) form_some
      ∙ sym (row_at_meets by_block (λ r. objects_in o r.object ≡ bytes_of m r.digest.0) there.0 t.blocks row (HaveHeld-each m (objects_in o) t.blocks all) there.1)
      ∙ held

  pub IsOfForm-some : (digest_of : List ℕ → List ℕ) (bytes : List ℕ) → digest_of bytes ≡ row.digest.0 → IsOfForm digest_of (form_at t inode blockno) bytes
  IsOfForm-some digest_of bytes is = subst (λ form. IsOfForm digest_of form bytes) (sym form_some) is

  pub stored_some : (digest_of : List ℕ → List ℕ) (o : Objects) (bytes : List ℕ) → objects_in o row.object ≡ Some bytes → AreHeld digest_of (objects_in o) t.blocks
      → length bytes ≡ stored_in t inode blockno
  stored_some digest_of o bytes held all =
      let own : IsHeld digest_of (objects_in o) row =
      row_at_meets by_block (IsHeld digest_of (objects_in o)) there.0 t.blocks row (AreHeld-each digest_of (objects_in o) t.blocks all) there.1 in
      let same : Some bytes ≡ Some own.bytes = sym held ∙ own.there in
      let equal : bytes ≡ own.bytes = cc same in
      ap length equal ∙ own.size ∙ sym (ap size_of_form form_some)

-- ---- what a spot shows of a file

pub Shows-file : (t : Tables) (o : Objects) (inode size block_size blockno : ℕ) (bytes file : List ℕ)
    → ((m : Contents) → HaveHeld m (objects_in o) t.blocks → shown_at m t no_overlay inode blockno ≡ Some bytes)
    → IsFile t o inode size block_size file → Shows (piece_of block_size file blockno) bytes
Shows-file t o inode size block_size blockno bytes file shown is =
    let own : IsSomeAnd (shown_at is.contents t no_overlay inode blockno) (Shows (piece_of is.whole.block_size file blockno)) = is.has.agrees inode blockno file is.is in
    let here : Shows (piece_of is.whole.block_size file blockno) bytes =
    subst (λ found. IsSomeAnd found (Shows (piece_of is.whole.block_size file blockno))) (shown is.contents is.held) own in
    subst (λ n. Shows (piece_of n file blockno) bytes) is.blocks here
