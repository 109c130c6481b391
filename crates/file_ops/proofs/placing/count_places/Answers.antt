use Rattle.std.proofs.Common.{◌+◌, ◌∙◌, ap, sym, drop, arith}
use Rattle.file_ops.proofs.Counting.{counted_more, with_added}
use Rattle.file_ops.proofs.Left.{drop_here}
use Rattle.ref_counts.proofs.Told.{IfTold-same, IfTold-weaker2}
use Rattle.s3_rows.specs.Batches.{tables_after}
use Rattle.file_ops.specs.Placed.{places_counted}
use Rattle.file_ops.proofs.placing.count_places.Goals as goal

pub loop-place-preserved : goal.loop-place-preserved
loop-place-preserved g c =
    let here = drop_here c.args.places.now c.loop-place.place-index c.place-item.result c.loop-place-test.true c.place-item.is in
    record {
      told = c.in_ok-count_place.ensures.same ∙ c.loop-place.invariant.told;
      later = omega (arith, c.in_ok-count_place.ensures.cause.later, c.loop-place.invariant.later);
      partly =
          IfTold-weaker2 (g.K.Keeper.told c.args.keeper.now) _ _ _
          (λ t one partly.
          counted_more c.args.params.now t c.loop-place.batch c.place-item.result _ c.if-not-branch.false c.count_place.new.batch (drop (c.loop-place.place-index + 1) c.args.places.now) one
          ∙ ap (λ xs. with_added c.loop-place.batch (places_counted c.args.params.now xs (tables_after c.loop-place.batch t))) (sym here)
          ∙ partly)
          (IfTold-same (g.K.Keeper.told c.args.keeper.now) _ _ c.loop-place.invariant.told c.in_ok-count_place.ensures.counted)
          c.loop-place.invariant.partly;
    }
