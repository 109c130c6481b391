use Rattle.std.proofs.Common.{◌∙◌, arith}
use Rattle.ref_counts.proofs.NextPlaces.{all_dropped, one_dropped}
use Rattle.ref_counts.proofs.Told.{IfTold-weaker2, IfTold-weaker3, IfTold-same}
use Rattle.ref_counts.proofs.places.drop_links.Goals as goal

pub places-preserved : goal.places-preserved
places-preserved g c =
    let same = c.in_ok-blockno.ensures.same ∙ c.places.invariant.told in
    record {
      told = c.in_ok-relink.ensures.same ∙ same;
      later = omega (arith, c.in_ok-relink.ensures.cause.later, c.in_ok-blockno.ensures.cause.later, c.places.invariant.later);
      partly =
          IfTold-weaker3 (g.K.Keeper.told c.args.keeper.now) _ _ _ _
          (λ t next added partly o.
          one_dropped t c.places.batch c.relink.new.batch c.args.inode c.places.next c.in-Some.blockno _ o next c.in-Some.is added ∙ partly o)
          (IfTold-same (g.K.Keeper.told c.args.keeper.now) _ _ c.places.invariant.told c.in_ok-blockno.ensures.next)
          (IfTold-same (g.K.Keeper.told c.args.keeper.now) _ _ same c.in_ok-relink.ensures.relinked)
          c.places.invariant.partly;
    }

pub returns-in_default-clause-dropped : goal.returns-in_default-clause-dropped
returns-in_default-clause-dropped g c =
    IfTold-weaker2 (g.K.Keeper.told c.args.keeper.now) _ _ _
    (λ t next partly o. all_dropped t c.places.batch c.args.batch.now c.args.inode c.args.from c.places.next _ next c.in_default.is (partly o))
    (IfTold-same (g.K.Keeper.told c.args.keeper.now) _ _ c.places.invariant.told c.in_ok-blockno.ensures.next) c.places.invariant.partly
