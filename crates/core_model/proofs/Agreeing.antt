-- Spots that show the bytes of files.
use Rattle.std.proofs.Common.{◌≡◌, ℕ, List, [], ◌∷◌, length, take, Option, None, Some, refl, sym, ap, ◌∙◌, subst}
use Rattle.std.specs.Option.{IsSomeAnd}
use Rattle.std.proofs.Math.Seq.{take-length}
use Rattle.plain_tree.specs.Tree.{Tree}
use Rattle.plain_tree.specs.Files.{file_at}
use Rattle.block_math.specs.Blocks.{piece_of, trimmed}
use Rattle.block_math.proofs.TrimmedLemmas.{padded-trimmed}
use Rattle.s3_rows.specs.Tables.{Tables}
use Rattle.tree_rows.specs.Contents.{Contents}
use Rattle.tree_rows.specs.Spots.{form_at}
use Rattle.core_model.specs.Bytes.{AgreesAt, Overlay, Shows, bytes_of_form, shown_at}
use Rattle.core_model.specs.Exact.{IsExactAt, form_of_stored}
use Rattle.core_model.specs.Occurring.{Knows}

pub AgreesAt-same : (m : Contents) (t other : Tables) (over beside : Overlay) (whole after : Tree) (inode blockno copy copyno : ℕ)
    → shown_at m other beside copy copyno ≡ shown_at m t over inode blockno
    → ((bytes : List ℕ) → file_at after copy ≡ Some bytes → (own : List ℕ) × (file_at whole inode ≡ Some own)
    × (piece_of after.block_size bytes copyno ≡ piece_of whole.block_size own blockno))
    → AgreesAt m t over whole inode blockno → AgreesAt m other beside after copy copyno
AgreesAt-same m t other over beside whole after inode blockno copy copyno shown pieces agrees bytes is =
    let own : (own : List ℕ) × (file_at whole inode ≡ Some own) × (piece_of after.block_size bytes copyno ≡ piece_of whole.block_size own blockno) = pieces bytes is in
    let P : Option (List ℕ) → List ℕ → Type 0 = λ x piece. IsSomeAnd x (Shows piece) in
    let at : P (shown_at m t over inode blockno) (piece_of whole.block_size own.0 blockno) = agrees own.0 own.1 in
    let there : P (shown_at m other beside copy copyno) (piece_of whole.block_size own.0 blockno) = subst (λ (x : Option (List ℕ)). P x (piece_of whole.block_size own.0 blockno)) (sym shown) at in
    subst (λ (piece : List ℕ). P (shown_at m other beside copy copyno) piece) (sym own.2) there

-- bytes without the zeros at their end show them
Shows-trimmed : (piece : List ℕ) → Shows piece (trimmed piece)
Shows-trimmed piece = ap (take (length piece)) (padded-trimmed piece) ∙ take-length piece

module _ (digest_of : List ℕ → List ℕ) (m : Contents) where
  -- what the contents have of a form
  form_known : (stored : List ℕ) → Knows digest_of m stored → bytes_of_form m (form_of_stored digest_of stored) ≡ Some stored
  form_known [] known = refl
  form_known (b ∷ bytes) known = known

  pub AgreesAt-exact : (t : Tables) (over : Overlay) (whole : Tree) (inode blockno : ℕ)
      → over inode blockno ≡ None → IsExactAt digest_of t whole inode blockno
      → ((bytes : List ℕ) → file_at whole inode ≡ Some bytes → Knows digest_of m (trimmed (piece_of whole.block_size bytes blockno)))
      → AgreesAt m t over whole inode blockno
  AgreesAt-exact t over whole inode blockno none exact known bytes is =
      let piece : List ℕ = piece_of whole.block_size bytes blockno in
      let linked : shown_at m t over inode blockno ≡ bytes_of_form m (form_at t inode blockno) =
      ap (λ (x : Option (List ℕ)). elim x as (λ y. Option (List ℕ)) [ Some b ↦ Some b | None ↦ bytes_of_form m (form_at t inode blockno) ]) none in
      let shown : shown_at m t over inode blockno ≡ Some (trimmed piece) =
      linked ∙ ap (bytes_of_form m) (exact bytes is) ∙ form_known (trimmed piece) (known bytes is) in
      subst (λ (x : Option (List ℕ)). IsSomeAnd x (Shows piece)) (sym shown) (Shows-trimmed piece)
