-- What files show that share the blocks of files that were there.
use Rattle.std.proofs.Common.{◌≡◌, ℕ, List, [], Option, Some, refl, sym, ap, ◌∙◌, subst, inl, inr}
use Rattle.std.specs.Option.{IsSomeAnd}
use Rattle.plain_tree.specs.Tree.{Tree}
use Rattle.plain_tree.specs.Files.{file_at}
use Rattle.block_math.specs.Blocks.{piece_of}
use Rattle.s3_rows.specs.Tables.{Tables}
use Rattle.tree_rows.specs.Contents.{Contents, HaveBytes}
use Rattle.core_model.specs.Bytes.{HasBytes, Shows, bytes_of_form, no_overlay, shown_at}
use Rattle.core_model.specs.Exact.{IsExact, form_for}
use Rattle.byte_steps.specs.Shared.{SharesBlocks}
use Rattle.byte_steps.proofs.SameForms.{piece_of-nil, shown_at-none}

module _ (t after : Tables) (whole next : Tree) (shares : SharesBlocks t after whole next) where
  -- the piece of an empty file is empty
  no_piece : (n : ℕ) (bytes : List ℕ) → bytes ≡ [] → piece_of next.block_size bytes n ≡ []
  no_piece n bytes is = ap (λ (b : List ℕ). piece_of next.block_size b n) is ∙ piece_of-nil next.block_size n

  pub HasBytes-shared : (m : Contents) → HaveBytes m after.blocks → HasBytes m t no_overlay whole → HasBytes m after no_overlay next
  HasBytes-shared m fits has = record { fits = fits; agrees = agrees; exact = λ x n shown bytes waits. absurd (cc waits) }
    where
      agrees : (x n : ℕ) (bytes : List ℕ) → file_at next x ≡ Some bytes → IsSomeAnd (shown_at m after no_overlay x n) (Shows (piece_of next.block_size bytes n))
      agrees x n bytes is =
          elim (shares.files x bytes is) [
            | inl one ↦
                subst (λ (shown : Option (List ℕ)). IsSomeAnd shown (Shows (piece_of next.block_size bytes n))) (sym (ap (bytes_of_form m) (one.forms n)))
                (subst (λ s. IsSomeAnd (shown_at m t no_overlay one.of n) (Shows (piece_of s bytes n))) (sym shares.size) (has.agrees one.of n bytes one.same))
            | inr empty ↦ shown_at-none m t after x n (piece_of next.block_size bytes n) (empty.1 n) (no_piece n bytes empty.0)
          ]

  pub IsExact-shared : (digest_of : List ℕ → List ℕ) → IsExact digest_of t no_overlay whole → IsExact digest_of after no_overlay next
  IsExact-shared digest_of exact x n free bytes is =
      elim (shares.files x bytes is) [
        | inl one ↦ one.forms n ∙ exact one.of n refl bytes one.same ∙ ap (λ s. form_for digest_of (piece_of s bytes n)) (sym shares.size)
        | inr empty ↦ empty.1 n ∙ sym (ap (form_for digest_of) (no_piece n bytes empty.0))
      ]
