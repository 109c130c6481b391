use Rattle.std.proofs.Common.{◌∙◌}
use Rattle.ref_counts.proofs.Named.{if_ok}
use Rattle.ref_counts.proofs.Told.{IfTold-weaker2, IfTold-weaker3, IfTold-same}
use Rattle.inode_ops.proofs.SetAttrs.{removal_checks, removal_planned}
use Rattle.inode_ops.proofs.xattrs.removexattr.Goals as goal

pub returns-in-Ok-clause-plan : goal.returns-in-Ok-clause-plan
returns-in-Ok-clause-plan g c =
    let told = g.K.Keeper.told c.args.keeper.now in
    if_ok _ _ (λ p own.
    IfTold-weaker3 told _ _ _ _
    (λ t row attr made v unique whole pass same well.
    removal_planned t whole pass c.args.inode c.args.now c.args.name.now v unique same c.in_ok-found.found row c.in_ok-attr.attr attr well _ _ p c.in-Ok.ensures.row c.in-Ok.ensures.attr
    (removal_checks t whole pass c.args.inode c.args.now c.args.name.now v unique same c.in_ok-found.found row c.in_ok-attr.attr attr ∙ c.in-Ok.ensures.check) made)
    c.in_ok-found.ensures.row (IfTold-same told _ _ c.in_ok-found.ensures.same c.in_ok-attr.ensures.found)
    (IfTold-same told _ _ (c.in_ok-attr.ensures.same ∙ c.in_ok-found.ensures.same) own))
    c.remove_named.result c.remove_named.ensures.plan

pub returns-in-Err-clause-plan : goal.returns-in-Err-clause-plan
returns-in-Err-clause-plan g c =
    let told = g.K.Keeper.told c.args.keeper.now in
    IfTold-weaker2 told _ _ _
    (λ t row attr v unique whole pass same well.
    removal_checks t whole pass c.args.inode c.args.now c.args.name.now v unique same c.in_ok-found.found row c.in_ok-attr.attr attr ∙ c.in-Err.ensures.check)
    c.in_ok-found.ensures.row (IfTold-same told _ _ c.in_ok-found.ensures.same c.in_ok-attr.ensures.found)
