use Rattle.std.proofs.Common.{◌+◌, sym, ◌∙◌, subst, arith}
use Rattle.s3_rows.specs.Rows.{InodeBlock}
use Rattle.ref_counts.proofs.Told.{IfTold-weaker2, IfTold-weaker3, IfTold-weaker4, IfTold-same}
use Rattle.tree_copy.proofs.PlacesInTurn.{IsLeft, left_more, left_none, left_worn}
use Rattle.tree_copy.proofs.places.copy_places.Goals as goal

pub returns-in_default-clause-fits : goal.returns-in_default-clause-fits
returns-in_default-clause-fits g c =
    IfTold-weaker2 (g.K.Keeper.told c.args.keeper.now) _ _ _
    (λ t next left o. (left_none t c.args.file c.args.copy c.places.next c.args.batch.now c.places.batch (left o) (sym c.in_default.is ∙ next)).1)
    (IfTold-same (g.K.Keeper.told c.args.keeper.now) _ _ c.places.invariant.told c.in_ok-row.ensures.next) c.places.invariant.left

pub returns-in_default-clause-copied : goal.returns-in_default-clause-copied
returns-in_default-clause-copied g c =
    IfTold-weaker2 (g.K.Keeper.told c.args.keeper.now) _ _ _
    (λ t next left o fits. (left_none t c.args.file c.args.copy c.places.next c.args.batch.now c.places.batch (left o) (sym c.in_default.is ∙ next)).0)
    (IfTold-same (g.K.Keeper.told c.args.keeper.now) _ _ c.places.invariant.told c.in_ok-row.ensures.next) c.places.invariant.left

pub returns-then-not-branch-clause-fits : goal.returns-then-not-branch-clause-fits
returns-then-not-branch-clause-fits g c =
    let told = g.K.Keeper.told c.args.keeper.now in
    IfTold-weaker3 told _ _ _ _
    (λ t next fits left o.
    left_worn t c.args.file c.args.copy c.places.next c.args.batch.now c.places.batch c.in-Some.row o (left o) (sym c.in-Some.is ∙ next)
    (sym c.if-not-branch.true ∙ fits))
    (IfTold-same told _ _ c.places.invariant.told c.in_ok-row.ensures.next)
    (IfTold-same told _ _ (c.in_ok-row.ensures.same ∙ c.places.invariant.told) c.in_ok-copy_place.ensures.fits) c.places.invariant.left

pub places-preserved : goal.places-preserved
places-preserved g c =
    let told = g.K.Keeper.told c.args.keeper.now in
    let same = c.in_ok-row.ensures.same ∙ c.places.invariant.told in
    record {
      told = c.in_ok-copy_place.ensures.same ∙ same;
      later = omega (arith, c.in_ok-copy_place.ensures.cause.later, c.in_ok-row.ensures.cause.later, c.places.invariant.later);
      left =
          IfTold-weaker4 told _ _ _ _ _
          (λ t next fits added left o.
          subst (λ (r : InodeBlock). IsLeft t c.args.file c.args.copy (r.blockno + 1) c.args.batch.now c.copy_place.new.batch) (sym c.row.view_is)
          (left_more t c.args.file c.args.copy c.places.next c.args.batch.now c.places.batch c.copy_place.new.batch c.in-Some.row o (left o) (sym c.in-Some.is ∙ next)
          (sym c.if-not-branch.false ∙ fits) (added c.if-not-branch.false)))
          (IfTold-same told _ _ c.places.invariant.told c.in_ok-row.ensures.next)
          (IfTold-same told _ _ same c.in_ok-copy_place.ensures.fits)
          (IfTold-same told _ _ same c.in_ok-copy_place.ensures.copied)
          c.places.invariant.left;
    }
