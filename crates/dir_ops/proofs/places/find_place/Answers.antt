use Rattle.std.proofs.Common.{◌∙◌}
use Rattle.ref_counts.proofs.Told.{IfTold-weaker3, IfTold-same}
use Rattle.dir_ops.proofs.Placed.{placed}
use Rattle.dir_ops.proofs.places.find_place.Goals as goal

pub returns-clause-place : goal.returns-clause-place
returns-clause-place g c =
    let told = g.K.Keeper.told c.args.keeper.now in
    IfTold-weaker3 told _ _ _ _
    (λ t row taken params v unique whole same.
    placed t whole v same c.args.parent c.args.name.now c.in_ok-found.found row c.in_ok-taken.taken (taken v unique) v.params v.is_made c.in_ok-params.params c.check_place.result params
    c.check_place.ensures.found c.check_place.ensures.params (c.check_place.ensures.check v.params (params ∙ v.is_made)))
    c.in_ok-found.ensures.row (IfTold-same told _ _ c.in_ok-found.ensures.same c.in_ok-taken.ensures.found)
    (IfTold-same told _ _ (c.in_ok-taken.ensures.same ∙ c.in_ok-found.ensures.same) c.in_ok-params.ensures.row)
