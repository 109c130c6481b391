use Rattle.std.proofs.Common.{ap, sym, ◌∙◌}
use Rattle.sha2.specs.Sha256.{sha256}
use Rattle.ref_counts.proofs.Told.{IfTold-weaker}
use Rattle.file_ops.proofs.Left.{IfSome-weaker}
use Rattle.file_ops.proofs.FoundPlaces.{place_is_new, place_known, place_new}
use Rattle.file_ops.proofs.resolving.place_for.Goals as goal

pub returns-in-Some-clause-place : goal.returns-in-Some-clause-place
returns-in-Some-clause-place g c =
    let is = c.digest-digest.ensures ∙ ap sha256 c.as_slice.ensures in
    IfTold-weaker (g.K.Keeper.told c.args.keeper.now) _ _
    (λ t row. place_known sha256 t c.args.before.now c.args.block c.args.object c.args.stored.now (sym c.if-is_empty.ensures) c.digest-digest.result is c.in-Some.row (sym c.in-Some.is ∙ row))
    c.in_ok-row.ensures.row

pub returns-in-None-clause-place : goal.returns-in-None-clause-place
returns-in-None-clause-place g c =
    let is = c.digest-digest.ensures ∙ ap sha256 c.as_slice.ensures in
    IfTold-weaker (g.K.Keeper.told c.args.keeper.now) _ _
    (λ t row.
    IfSome-weaker _ _
    (λ x new. new ∙ place_new sha256 t c.args.before.now c.args.block c.args.object c.args.stored.now (sym c.if-is_empty.ensures) c.digest-digest.result is (sym c.in-None.is ∙ row))
    c.new_place.result c.new_place.ensures.place)
    c.in_ok-row.ensures.row

pub returns-in-None-clause-new : goal.returns-in-None-clause-new
returns-in-None-clause-new g c none =
    let is = c.digest-digest.ensures ∙ ap sha256 c.as_slice.ensures in
    IfTold-weaker (g.K.Keeper.told c.args.keeper.now) _ _
    (λ t row. place_is_new sha256 t c.args.before.now c.args.block c.args.object c.args.stored.now (sym c.if-is_empty.ensures) c.digest-digest.result is (sym c.in-None.is ∙ row))
    c.in_ok-row.ensures.row
