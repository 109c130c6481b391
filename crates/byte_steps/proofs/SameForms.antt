-- Places that show what they showed, and places without a block.
use Rattle.std.proofs.Common.{◌≡◌, ◌≤◌, ℕ, ◌*◌, List, [], length, take, Option, None, Some, refl, sym, ap, ◌∙◌, subst, arith}
use Rattle.std.specs.Option.{IsSomeAnd}
use Rattle.std.proofs.Math.ListN.{drop_of_length-le}
use Rattle.std.proofs.Math.Seq.{take-nil}
use Rattle.plain_tree.specs.Tree.{Tree}
use Rattle.block_math.specs.Blocks.{piece_of}
use Rattle.s3_rows.specs.Tables.{Tables}
use Rattle.tree_rows.specs.Contents.{Contents, HaveBytes}
use Rattle.tree_rows.specs.Spots.{form_at}
use Rattle.core_model.specs.Bytes.{HasBytes, Overlay, Shows, bytes_of_form, no_overlay, shown_at}
use Rattle.core_model.specs.Exact.{IsExact}

-- nothing of a file lies in a block past its end
pub piece_of-past : (size n : ℕ) (bytes : List ℕ) → length bytes ≤ n * size → piece_of size bytes n ≡ []
piece_of-past size n bytes past = ap (take size) (drop_of_length-le bytes past) ∙ take-nil size

pub piece_of-nil : (size n : ℕ) → piece_of size [] n ≡ []
piece_of-nil size n = piece_of-past size n [] (omega arith)

module _ (m : Contents) (t after : Tables) where
  -- a place that has the same form shows the same bytes
  pub shown_at-same_form : (over : Overlay) (x n : ℕ) (piece : List ℕ) → form_at after x n ≡ form_at t x n
      → IsSomeAnd (shown_at m t over x n) (Shows piece) → IsSomeAnd (shown_at m after over x n) (Shows piece)
  shown_at-same_form over x n piece same shows =
      subst (λ (form : Option (List ℕ × ℕ)). IsSomeAnd (elim (over x n) as (λ y. Option (List ℕ)) [ Some b ↦ Some b | None ↦ bytes_of_form m form ]) (Shows piece))
      (sym same) shows

  -- and one without a form shows no bytes
  pub shown_at-none : (x n : ℕ) (piece : List ℕ) → form_at after x n ≡ None → piece ≡ [] → IsSomeAnd (shown_at m after no_overlay x n) (Shows piece)
  shown_at-none x n piece none is =
      let own : IsSomeAnd (bytes_of_form m None) (Shows []) = refl in
      let at : IsSomeAnd (shown_at m after no_overlay x n) (Shows []) = subst (λ (form : Option (List ℕ × ℕ)). IsSomeAnd (bytes_of_form m form) (Shows [])) (sym none) own in
      subst (λ (p : List ℕ). IsSomeAnd (shown_at m after no_overlay x n) (Shows p)) (sym is) at

  -- where all places have the same forms, the bytes are those of the same tree
  pub HasBytes-same_forms : (over : Overlay) (whole : Tree) → HaveBytes m after.blocks → ((x n : ℕ) → form_at after x n ≡ form_at t x n)
      → HasBytes m t over whole → HasBytes m after over whole
  HasBytes-same_forms over whole fits same has = record {
    fits = fits;
    agrees = λ x n bytes is. shown_at-same_form over x n (piece_of whole.block_size bytes n) (same x n) (has.agrees x n bytes is);
    exact = has.exact;
  }

pub IsExact-same_forms : (digest_of : List ℕ → List ℕ) (t after : Tables) (over : Overlay) (whole : Tree) → ((x n : ℕ) → form_at after x n ≡ form_at t x n)
    → IsExact digest_of t over whole → IsExact digest_of after over whole
IsExact-same_forms digest_of t after over whole same exact x n free bytes is = same x n ∙ exact x n free bytes is
