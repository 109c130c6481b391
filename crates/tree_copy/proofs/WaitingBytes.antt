-- The bytes of files after a copy, where blocks of other files wait to be linked.
use Rattle.std.proofs.Common.{◌≡◌, ◌≤◌, ℕ, List, true, Option, None, Some, sym, ap, ◌∙◌, subst, inl, inr}
use Rattle.std.proofs.lemmas.Bool.{cases_lt}
use Rattle.std.specs.Option.{IsSomeAnd}
use Rattle.std.specs.Prelude.{is_some}
use Rattle.plain_tree.specs.Below.{is_at_or_below}
use Rattle.plain_tree.specs.Files.{file_at}
use Rattle.plain_tree.specs.Tree.{Tree, node_at}
use Rattle.block_math.specs.Blocks.{block_of, piece_of}
use Rattle.s3_rows.specs.Tables.{Tables}
use Rattle.tree_rows.specs.Contents.{Contents, HaveBytes}
use Rattle.tree_rows.specs.Shapes.{Represents}
use Rattle.tree_rows.specs.Spots.{form_at}
use Rattle.core_model.specs.Bytes.{HasBytes, Overlay, Shows, bytes_of_form, shown_at}
use Rattle.core_model.specs.Exact.{IsExact, form_for}
use Rattle.byte_steps.proofs.SameForms.{shown_at-same_form}
use Rattle.tree_copy.specs.CopiedBytes.{CopiesFiles, WaitsElsewhere}
use Rattle.tree_copy.specs.CopySteps.{IsCopyStep}
use Rattle.tree_copy.proofs.CopiedFiles.{node_of_file}
use Rattle.tree_copy.proofs.Visits.{row_of_node}

-- what a place shows where nothing waits
shown-none : (m : Contents) (t : Tables) (over : Overlay) (x n : ℕ) → over x n ≡ None → shown_at m t over x n ≡ bytes_of_form m (form_at t x n)
shown-none m t over x n is = ap (λ (waits : Option (List ℕ)). elim waits as (λ y. Option (List ℕ)) [ Some bytes ↦ Some bytes | None ↦ bytes_of_form m (form_at t x n) ]) is

module _ (t after : Tables) (whole next : Tree) (source : ℕ) (same : Represents t whole) (copies : CopiesFiles whole source next) (step : IsCopyStep t after whole source next)
    (over : Overlay) (elsewhere : WaitsElsewhere whole source over) where
  -- a file that was there keeps the forms of its places
  form_old : (x n : ℕ) (bytes : List ℕ) → file_at whole x ≡ Some bytes → form_at after x n ≡ form_at t x n
  form_old x n bytes is =
      let node = node_of_file (node_at whole x) bytes is in
      let row = row_of_node t whole same x node.0 node.1 in
      step.forms x n (ap is_some row.1)

  -- a file that is new has those of the file that it is a copy of
  record IsCopy (x : ℕ) (bytes : List ℕ) : Type 0 where
    of : ℕ
    among : is_at_or_below whole source of ≡ true
    file : file_at whole of ≡ Some bytes
    forms : (n : ℕ) → form_at after x n ≡ form_at t of n

  copy_of_file : (x : ℕ) (bytes : List ℕ) → whole.next_inode ≤ x → file_at next x ≡ Some bytes → IsCopy x bytes
  copy_of_file x bytes above is =
      let from = copies.new x bytes above is in
      record {
        of = from.0;
        among = from.1;
        file = sym (copies.copied from.0 from.1) ∙ ap (file_at next) (sym from.2) ∙ is;
        forms = λ n. ap (λ k. form_at after k n) from.2 ∙ step.copied from.0 n from.1;
      }

  pub HasBytes-waiting : (m : Contents) → HaveBytes m after.blocks → HasBytes m t over whole → HasBytes m after over next
  HasBytes-waiting m fits has = record { fits = fits; agrees = agrees; exact = exact }
    where
      agrees : (x n : ℕ) (bytes : List ℕ) → file_at next x ≡ Some bytes → IsSomeAnd (shown_at m after over x n) (Shows (piece_of next.block_size bytes n))
      agrees x n bytes is =
          elim (cases_lt x whole.next_inode) [
            | inl less ↦ (let there : file_at whole x ≡ Some bytes = sym (copies.old x less) ∙ is in
                shown_at-same_form m t after over x n (piece_of next.block_size bytes n) (form_old x n bytes there)
                (subst (λ s. IsSomeAnd (shown_at m t over x n) (Shows (piece_of s bytes n))) (sym copies.size) (has.agrees x n bytes there)))
            | inr above ↦ (let copy : IsCopy x bytes = copy_of_file x bytes above is in
                let shown : shown_at m t over copy.of n ≡ shown_at m after over x n =
                shown-none m t over copy.of n (elsewhere.clean copy.of n copy.among) ∙ ap (bytes_of_form m) (sym (copy.forms n)) ∙ sym (shown-none m after over x n (elsewhere.given x n above)) in
                subst (λ (y : Option (List ℕ)). IsSomeAnd y (Shows (piece_of next.block_size bytes n))) shown
                (subst (λ s. IsSomeAnd (shown_at m t over copy.of n) (Shows (piece_of s bytes n))) (sym copies.size) (has.agrees copy.of n bytes copy.file)))
          ]

      exact : (x n : ℕ) (shown bytes : List ℕ) → over x n ≡ Some shown → file_at next x ≡ Some bytes → shown ≡ block_of next.block_size bytes n
      exact x n shown bytes waits is =
          elim (cases_lt x whole.next_inode) [
            | inl less ↦ has.exact x n shown bytes waits (sym (copies.old x less) ∙ is) ∙ ap (λ s. block_of s bytes n) (sym copies.size)
            | inr above ↦ (let clash : None ≡ Some shown = sym (elsewhere.given x n above) ∙ waits in
                absurd (cc clash))
          ]

  pub IsExact-waiting : (digest_of : List ℕ → List ℕ) → IsExact digest_of t over whole → IsExact digest_of after over next
  IsExact-waiting digest_of exact x n free bytes is =
      elim (cases_lt x whole.next_inode) [
        | inl less ↦ (let there : file_at whole x ≡ Some bytes = sym (copies.old x less) ∙ is in
            form_old x n bytes there ∙ exact x n free bytes there ∙ ap (λ s. form_for digest_of (piece_of s bytes n)) (sym copies.size))
        | inr above ↦ (let copy : IsCopy x bytes = copy_of_file x bytes above is in
            copy.forms n ∙ exact copy.of n (elsewhere.clean copy.of n copy.among) bytes copy.file ∙ ap (λ s. form_for digest_of (piece_of s bytes n)) (sym copies.size))
      ]
