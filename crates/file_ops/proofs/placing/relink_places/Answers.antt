use Rattle.std.proofs.Common.{◌∙◌, arith}
use Rattle.ref_counts.proofs.Told.{IfTold-same, IfTold-weaker2}
use Rattle.file_ops.proofs.Left.{drop_here}
use Rattle.file_ops.proofs.Linking.{linked_more}
use Rattle.file_ops.proofs.placing.relink_places.Goals as goal

pub loop-i-preserved : goal.loop-i-preserved
loop-i-preserved g c =
    let block_here = drop_here c.args.blocks.now c.loop-i.i c.index-blocks-i.result (omega arith) c.index-blocks-i.is in
    let place_here = drop_here c.args.places.now c.loop-i.i c.index-places-i.result (omega (arith, c.requires.length)) c.index-places-i.is in
    record {
      told = c.in_ok-relink.ensures.same ∙ c.loop-i.invariant.told;
      later = omega (arith, c.in_ok-relink.ensures.cause.later, c.loop-i.invariant.later);
      partly =
          IfTold-weaker2 (g.K.Keeper.told c.args.keeper.now) _ _ _
          (λ t one partly.
          linked_more t c.loop-i.batch c.relink.new.batch c.args.inode _ _ _ _ _ _ _ block_here place_here c.id_of.ensures.id one ∙ partly)
          (IfTold-same (g.K.Keeper.told c.args.keeper.now) _ _ c.loop-i.invariant.told c.in_ok-relink.ensures.relinked)
          c.loop-i.invariant.partly;
    }
