use Rattle.std.proofs.Common.{◌≡◌, ◌+◌, ◌<◌, ◌^◌, ◌∷◌, ◌∙◌, [], true, ap, sym, count_by, drop, length, length-append, arith}
use Rattle.sha2.specs.Sha256.{sha256}
use Rattle.ref_counts.proofs.Told.{IfTold-same, IfTold-weaker2}
use Rattle.file_ops.specs.Resolved.{is_new, place_for}
use Rattle.file_ops.proofs.Left.{IfSome-there, drop_here}
use Rattle.file_ops.proofs.FoundPlaces.{IsNext-next_after, count_more, resolved_pushed}
use Rattle.file_ops.proofs.resolving.resolve.Goals as goal

pub loop-block-preserved : goal.loop-block-preserved
loop-block-preserved g c =
    let i = c.loop-block.block-index in
    let here = drop_here c.args.blocks.now i c.block-item.result c.loop-block-test.true c.block-item.is in
    let pushed = c.in_ok-push.ensures.ok in
    let x = c.in-Some.place in
    let room : is_new x ≡ true → (c.loop-block.free_block < 2 ^ 62) × (c.loop-block.free_object < 2 ^ 62) =
    IfSome-there (λ y. is_new y ≡ true → (c.loop-block.free_block < 2 ^ 62) × (c.loop-block.free_object < 2 ^ 62)) c.in_ok-place.field-0 x c.in-Some.is c.in_ok-place.ensures.room in
    record {
      told = c.in_ok-place.ensures.same ∙ c.loop-block.invariant.told;
      later = omega (arith, c.in_ok-place.ensures.cause.later, c.loop-block.invariant.later);
      partly =
          IfTold-weaker2 (g.K.Keeper.told c.args.keeper.now) _ _ _
          (λ t one partly.
          resolved_pushed sha256 t c.loop-block.places c.loop-block.free_block c.loop-block.free_object c.block-item.result (drop (i + 1) c.args.blocks.now) (drop i c.args.blocks.now) here
          x c.as_slice.result.now c.push.new.self c.next_after-free_block.result c.next_after-free_object.result c.as_slice.ensures
          (IfSome-there (λ y. y ≡ place_for sha256 t c.as_slice.result.now c.loop-block.free_block c.loop-block.free_object c.block-item.result.stored) c.in_ok-place.field-0 x c.in-Some.is one)
          pushed c.next_after-free_block.ensures c.next_after-free_object.ensures
          ∙ partly)
          (IfTold-same (g.K.Keeper.told c.args.keeper.now) _ _ c.loop-block.invariant.told c.in_ok-place.ensures.place)
          c.loop-block.invariant.partly;
      count = ap length pushed ∙ length-append c.loop-block.places (x ∷ []) ∙ ap (λ n. n + 1) c.loop-block.invariant.count;
      blocks =
          c.next_after-free_block.ensures ∙ count_more c.loop-block.places x c.args.next_block c.loop-block.free_block c.loop-block.invariant.blocks
          ∙ ap (λ l. c.args.next_block + count_by is_new l) (sym pushed);
      objects =
          c.next_after-free_object.ensures ∙ count_more c.loop-block.places x c.args.next_object c.loop-block.free_object c.loop-block.invariant.objects
          ∙ ap (λ l. c.args.next_object + count_by is_new l) (sym pushed);
      next_block = IsNext-next_after x c.loop-block.free_block c.next_after-free_block.result (λ new. (room new).0) c.loop-block.invariant.next_block c.next_after-free_block.ensures;
      next_object = IsNext-next_after x c.loop-block.free_object c.next_after-free_object.result (λ new. (room new).1) c.loop-block.invariant.next_object c.next_after-free_object.ensures;
    }
