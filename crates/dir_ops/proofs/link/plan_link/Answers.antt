use Rattle.std.proofs.Common.{subst}
use Rattle.ref_counts.proofs.Named.{if_ok}
use Rattle.ref_counts.proofs.Told.{IfTold-weaker, IfTold-weaker2, IfTold-same}
use Rattle.dir_ops.specs.Links.{IsLinkable}
use Rattle.dir_ops.proofs.Linked.{refused_link}
use Rattle.dir_ops.proofs.link.plan_link.Goals as goal

pub returns-in-Ok-clause-plan : goal.returns-in-Ok-clause-plan
returns-in-Ok-clause-plan g c =
    let told = g.K.Keeper.told c.args.keeper.now in
    if_ok _ _ (λ p own.
    IfTold-weaker2 told _ _ _
    (λ t rows planned v unique whole pass same well.
    planned v unique whole pass c.args.inode c.args.parent same well
    (subst (IsLinkable t whole c.args.inode c.args.parent c.args.name.now) c.in-Ok.is (rows v unique whole same)))
    c.in_ok-rows.ensures.rows (IfTold-same told _ _ c.in_ok-rows.ensures.same own))
    c.link.result c.link.ensures.plan

pub returns-in-Err-2-clause-plan : goal.returns-in-Err-2-clause-plan
returns-in-Err-2-clause-plan g c =
    IfTold-weaker (g.K.Keeper.told c.args.keeper.now) _ _
    (λ t rows v unique whole pass same well.
    refused_link t whole pass c.args.inode c.args.parent c.args.now c.args.name.now c.in_default.ensures _
    (subst (IsLinkable t whole c.args.inode c.args.parent c.args.name.now) c.in-Err-2.is (rows v unique whole same)))
    c.in_ok-rows.ensures.rows
