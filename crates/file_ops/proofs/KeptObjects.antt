-- The objects of block rows, while those of new blocks are put.
use Rattle.std.proofs.Common.{◌≡◌, ℕ, ◌^◌, ◌<◌, ◌≤◌, List, [], Bool, true, false, Option, None, Some, refl, sym, ap, ◌∙◌, subst, arith, eqb-true, ltb-true}
use Rattle.std.specs.Prelude.{◌==◌, IsTrue, is_some, nat_lt}
use Rattle.std.specs.List.{list_any}
use Rattle.std.specs.Ordering.{is_eq}
use Rattle.s3_rows.specs.Ranges.{HasRanges}
use Rattle.s3_rows.specs.Rows.{Block, IsParameters, Object}
use Rattle.s3_rows.specs.Selections.{object_at}
use Rattle.s3_rows.specs.Tables.{Tables, by_object}
use Rattle.s3_rows.specs.Told.{IfTold, Told}
use Rattle.s3_rows.specs.Validity.{IsValid}
use Rattle.s3_devices.specs.Objects.{Objects}
use Rattle.s3_devices.specs.Told.{Becomes}
use Rattle.row_lemmas.proofs.Tests.{find_from_list_any, find_passes, find_passes_all, is_eq-nat_cmp}
use Rattle.row_lemmas.proofs.Keyed.RowAt.{row_at_key, row_at_passes}
use Rattle.ref_counts.proofs.Told.{IfTold-all, IfTold-weaker}
use Rattle.file_ops.specs.declared.new_block.NewBlock.{NewBlock}
use Rattle.file_ops.specs.FileChanges.{KeepsObjects, KeepsObjectsOf}
use Rattle.file_ops.specs.Placed.{KeepsOldObjects, is_object_of, places_in}
use Rattle.file_ops.specs.Resolved.{resolved}
use Rattle.file_ops.proofs.HeldPlaces.{new_in_range}
use Rattle.file_ops.proofs.OldObjects.{places_in_made}
use Rattle.file_ops.proofs.PutObjects.{Becomes-follows, Becomes-same}

-- objects that block rows name have numbers below the next one
named_below : (t : Tables) (valid : IsValid t) (object : ℕ) → IsTrue (list_any (λ (r : Block). r.object == object) t.blocks) → object < valid.params.next_object
named_below t valid object any =
    let found = find_from_list_any (λ (r : Block). r.object == object) t.blocks any in
    let same : found.0.object ≡ object = eqb-true found.0.object object (find_passes (λ (r : Block). r.object == object) t.blocks found.0 found.1) in
    let there : IsTrue (is_some (object_at t found.0.object)) =
    find_passes_all (λ (r : Block). r.object == object) (λ (r : Block). is_some (object_at t r.object)) t.blocks found.0 valid.rows.objects found.1 in
    by_row (object_at t object) refl (ap (λ (n : ℕ). is_some (object_at t n)) (sym same) ∙ there)
  where
    by_row : (o : Option Object) → object_at t object ≡ o → is_some o ≡ true → object < valid.params.next_object
    by_row None at some = absurd (cc some)
    by_row (Some o) at some =
        let low : IsTrue (nat_lt o.id valid.params.next_object) = row_at_passes by_object (λ (r : Object). nat_lt r.id valid.params.next_object) object t.objects o valid.free.objects at in
        let own : object ≡ o.id = eqb-true object o.id (sym (is_eq-nat_cmp object o.id) ∙ ap is_eq (row_at_key by_object object t.objects o at)) in
        omega (arith, ltb-true o.id valid.params.next_object low, own)

module _ (digest_of : List ℕ → List ℕ) (t : Tables) (blocks : List NewBlock) (valid : IsValid t) (ranges : HasRanges t) where
  -- no new block has such an object
  no_new : (object : ℕ) → object < valid.params.next_object → list_any (is_object_of object) (places_in digest_of t blocks) ≡ false
  no_new object low =
      ap (list_any (is_object_of object)) (places_in_made digest_of t blocks valid.params (sym valid.is_made))
      ∙ by_test (list_any (is_object_of object) (resolved digest_of t [] valid.params.next_block valid.params.next_object blocks)) refl
    where
      by_test : (b : Bool) → list_any (is_object_of object) (resolved digest_of t [] valid.params.next_block valid.params.next_object blocks) ≡ b → b ≡ false
      by_test true is =
          let range = new_in_range digest_of t blocks [] valid.params.next_block valid.params.next_object object is in
          let high : valid.params.next_object ≤ object = range.0 in
          absurd (omega (arith, high, low))
      by_test false is = refl

  pub named_kept : (o since : Objects) → KeepsOldObjects (places_in digest_of t blocks) o since → KeepsObjectsOf t o since
  named_kept o since kept object named =
      let low : object < valid.params.next_object = named_below t valid object named in
      let p : IsParameters valid.params = ranges.params valid.params valid.is_made in
      let most : valid.params.next_object ≤ 2 ^ 62 = p.next_object.1 in
      kept object (omega (arith, low, most)) (no_new object low)

-- where blocks were placed, or not
pub keeps_objects : (digest_of : List ℕ → List ℕ) (tables : Option Told) (blocks : List NewBlock) (before after : Option Objects)
    → IfTold tables (λ t. Becomes (KeepsOldObjects (places_in digest_of t blocks)) before after) → KeepsObjects tables before after
keeps_objects digest_of tables blocks before after kept =
    IfTold-weaker tables _ _
    (λ t old valid ranges. Becomes-follows (KeepsOldObjects (places_in digest_of t blocks)) (KeepsObjectsOf t) (named_kept digest_of t blocks valid ranges) before after old) kept

-- where nothing was put
pub keeps_same : (tables : Option Told) (before after : Option Objects) → after ≡ before → KeepsObjects tables before after
keeps_same tables before after same =
    subst (KeepsObjects tables before) (sym same)
    (IfTold-all tables _ (λ t valid ranges. Becomes-same (KeepsObjectsOf t) (λ o object named. refl) before))
