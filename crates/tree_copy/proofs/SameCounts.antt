-- As many blocks after a copy as before it.
use Rattle.std.proofs.Common.{◌≡◌, ℕ, length, sym, ap, ◌∙◌, inl, inr}
use Rattle.std.specs.Cmp.{nat_cmp_total}
use Rattle.std.specs.List.{list_any}
use Rattle.std.specs.Ordering.{nat_cmp}
use Rattle.std.specs.Prelude.{is_some}
use Rattle.std.proofs.lemmas.Bool.{cases_lt}
use Rattle.plain_tree.specs.Files.{file_at}
use Rattle.plain_tree.specs.Numbers.{InOrder}
use Rattle.plain_tree.specs.Tree.{Tree, node_at}
use Rattle.tree_laws.proofs.Node.Kind.{none_some}
use Rattle.tree_laws.proofs.Node.Reading.{node_at_none_next}
use Rattle.s3_rows.specs.Keyed.{has_key}
use Rattle.s3_rows.specs.Rows.{Block}
use Rattle.s3_rows.specs.Selections.{block_at}
use Rattle.s3_rows.specs.Tables.{IsOrdered, Tables, by_block}
use Rattle.row_lemmas.proofs.Tests.{is_some-option_map, list_any-find}
use Rattle.byte_steps.specs.Counts.{HasBytesOf}
use Rattle.byte_steps.proofs.DistinctRows.{IsDistinct-rises, length-same_keys}
use Rattle.tree_copy.specs.CopiedBytes.{CopiesFiles}
use Rattle.tree_copy.specs.CopySteps.{IsCopyStep, uncounted}
use Rattle.tree_copy.proofs.CopiedFiles.{node_of_file}

-- ---- the trees

module _ (whole next : Tree) (source : ℕ) (copies : CopiesFiles whole source next) where
  -- each file has the bytes of one that was there
  pub HasBytesOf-copied : HasBytesOf whole next
  HasBytesOf-copied x bytes is =
      elim (cases_lt x whole.next_inode) [
        | inl less ↦ (x, sym (copies.old x less) ∙ is)
        | inr above ↦
            let from = copies.new x bytes above is in
            (from.0, sym (copies.copied from.0 from.1) ∙ ap (file_at next) (sym from.2) ∙ is)
      ]

  -- and each that was there is there
  pub HasBytesOf-stays : InOrder whole → HasBytesOf next whole
  HasBytesOf-stays ordered x bytes is =
      elim (cases_lt x whole.next_inode) [
        | inl less ↦ (x, copies.old x less ∙ is)
        | inr above ↦
            let node = node_of_file (node_at whole x) bytes is in
            absurd (none_some (node_at whole x) node.0 (node_at_none_next whole ordered x above) node.1)
      ]

-- ---- the rows

module _ (t after : Tables) (whole next : Tree) (source : ℕ) (before : IsOrdered t) (step : IsCopyStep t after whole source next) where
  same_found : (id : ℕ) → list_any (has_key by_block id) after.blocks ≡ list_any (has_key by_block id) t.blocks
  same_found id =
      list_any-find (has_key by_block id) after.blocks ∙ sym (is_some-option_map uncounted (block_at after id)) ∙ ap is_some (step.blocks id)
      ∙ is_some-option_map uncounted (block_at t id) ∙ sym (list_any-find (has_key by_block id) t.blocks)

  pub length-copied_blocks : length after.blocks ≡ length t.blocks
  length-copied_blocks =
      length-same_keys nat_cmp nat_cmp_total (λ (b : Block). b.id) (λ (b : Block). b.id) after.blocks t.blocks (λ id any. sym (same_found id) ∙ any) (λ id any. same_found id ∙ any)
      (IsDistinct-rises by_block after.blocks step.valid.ordered.blocks) (IsDistinct-rises by_block t.blocks before.blocks)
