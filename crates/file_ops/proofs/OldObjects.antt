-- Objects that are of no new block.
use Rattle.std.proofs.Common.{◌≡◌, ℕ, List, [], false, Option, None, Some, sym, ap, ◌∙◌}
use Rattle.std.specs.List.{list_any}
use Rattle.s3_rows.specs.Rows.{Parameters}
use Rattle.s3_rows.specs.Tables.{Tables}
use Rattle.s3_devices.specs.Keys.{objects_in}
use Rattle.s3_devices.specs.Objects.{Objects}
use Rattle.s3_devices.specs.Told.{Becomes}
use Rattle.file_ops.specs.declared.new_block.NewBlock.{NewBlock}
use Rattle.file_ops.specs.declared.place.Place.{Place}
use Rattle.file_ops.specs.Placed.{ArePut, KeepsOldObjects, is_object_of, places_in}
use Rattle.file_ops.specs.Resolved.{resolved}
use Rattle.file_ops.proofs.PutObjects.{Becomes-follows, held_after_all-old}

module _ (digest_of : List ℕ → List ℕ) (t : Tables) (blocks : List NewBlock) (p : Parameters) (made : Some p ≡ t.params) where
  -- the places are those of the parameters
  pub places_in_made : places_in digest_of t blocks ≡ resolved digest_of t [] p.next_block p.next_object blocks
  places_in_made =
      ap (λ (o : Option Parameters). elim o [ None ↦ [] | Some q ↦ resolved digest_of t [] q.next_block q.next_object blocks ]) (sym made)

  -- puts for the new blocks leave all others
  pub old_kept : (block object : ℕ) (xs ys : List Place) → block ≡ p.next_block → object ≡ p.next_object → ys ≡ xs → xs ≡ resolved digest_of t [] block object blocks → (before after : Option Objects)
      → Becomes (ArePut blocks ys) before after → Becomes (KeepsOldObjects (places_in digest_of t blocks)) before after
  old_kept block object xs ys next_block next_object listed found before after =
      let named : ys ≡ places_in digest_of t blocks =
      listed ∙ found ∙ ap (λ (n : ℕ). resolved digest_of t [] n object blocks) next_block ∙ ap (λ (n : ℕ). resolved digest_of t [] p.next_block n blocks) next_object ∙ sym places_in_made in
      Becomes-follows (ArePut blocks ys) (KeepsOldObjects (places_in digest_of t blocks))
      (λ o u put number below old.
      let none : list_any (is_object_of number) ys ≡ false = ap (list_any (is_object_of number)) named ∙ old in
      put number below ∙ held_after_all-old number blocks ys (objects_in o number) none)
      before after
