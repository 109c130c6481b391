use Rattle.std.proofs.Common.{◌∙◌}
use Rattle.ref_counts.proofs.Named.{if_ok}
use Rattle.ref_counts.proofs.Told.{IfTold-weaker2, IfTold-weaker3, IfTold-same}
use Rattle.inode_ops.proofs.SetAttrs.{set_planned, setting_checks}
use Rattle.inode_ops.proofs.xattrs.setxattr.Goals as goal

pub returns-in-Ok-clause-plan : goal.returns-in-Ok-clause-plan
returns-in-Ok-clause-plan g c =
    let told = g.K.Keeper.told c.args.keeper.now in
    if_ok _ _ (λ p own.
    IfTold-weaker3 told _ _ _ _
    (λ t row old planned v unique whole pass same well.
    set_planned t whole pass c.args.inode c.args.now c.args.name.now v unique same c.in_ok-found.found row c.in_ok-old.old old c.args.flag c.args.value.now well c.in-Ok.row c.in-Ok.ensures.row
    (setting_checks t whole pass c.args.inode c.args.now c.args.name.now v unique same c.in_ok-found.found row c.in_ok-old.old old c.args.flag c.args.value.now c.is_some.result c.is_some.ensures ∙ c.in-Ok.ensures.check)
    p (planned v.ordered unique))
    c.in_ok-found.ensures.row (IfTold-same told _ _ c.in_ok-found.ensures.same c.in_ok-old.ensures.found)
    (IfTold-same told _ _ (c.in_ok-old.ensures.same ∙ c.in_ok-found.ensures.same) own))
    c.set.result c.set.ensures.plan

pub returns-in-Err-clause-plan : goal.returns-in-Err-clause-plan
returns-in-Err-clause-plan g c =
    let told = g.K.Keeper.told c.args.keeper.now in
    IfTold-weaker2 told _ _ _
    (λ t row old v unique whole pass same well.
    setting_checks t whole pass c.args.inode c.args.now c.args.name.now v unique same c.in_ok-found.found row c.in_ok-old.old old c.args.flag c.args.value.now c.is_some.result c.is_some.ensures ∙ c.in-Err.ensures.check)
    c.in_ok-found.ensures.row (IfTold-same told _ _ c.in_ok-found.ensures.same c.in_ok-old.ensures.found)
