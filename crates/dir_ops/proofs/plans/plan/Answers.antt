use Rattle.std.proofs.Common.{sym, subst}
use Rattle.op_frames.specs.declared.operation.Op.{Op}
use Rattle.ref_counts.specs.Plans.{IsPlanOf}
use Rattle.ref_counts.proofs.Named.{if_ok}
use Rattle.ref_counts.proofs.Told.{IfTold-weaker}
use Rattle.dir_ops.proofs.plans.plan.Goals as goal

pub returns-in-Lookup-clause-plan : goal.returns-in-Lookup-clause-plan
returns-in-Lookup-clause-plan g c =
    if_ok _ _ (λ p own.
    IfTold-weaker (g.K.Keeper.told c.args.keeper.now) _ _
    (λ t planned v unique slots whole same well has. subst (λ (op : Op). IsPlanOf t whole c.args.pass op c.args.now p) (sym c.in-Lookup.is) (planned v unique whole c.args.pass c.args.now same))
    own)
    c.plan_lookup.result c.plan_lookup.ensures.plan

pub returns-in-Create-clause-plan : goal.returns-in-Create-clause-plan
returns-in-Create-clause-plan g c =
    if_ok _ _ (λ p own.
    IfTold-weaker (g.K.Keeper.told c.args.keeper.now) _ _
    (λ t planned v unique slots whole same well has. subst (λ (op : Op). IsPlanOf t whole c.args.pass op c.args.now p) (sym c.in-Create.is) (planned v unique whole c.args.pass same well has))
    own)
    c.plan_create.result c.plan_create.ensures.plan

pub returns-in-Mkdir-clause-plan : goal.returns-in-Mkdir-clause-plan
returns-in-Mkdir-clause-plan g c =
    if_ok _ _ (λ p own.
    IfTold-weaker (g.K.Keeper.told c.args.keeper.now) _ _
    (λ t planned v unique slots whole same well has. subst (λ (op : Op). IsPlanOf t whole c.args.pass op c.args.now p) (sym c.in-Mkdir.is) (planned v unique whole c.args.pass same well))
    own)
    c.plan_mkdir.result c.plan_mkdir.ensures.plan

pub returns-in-Readdir-clause-plan : goal.returns-in-Readdir-clause-plan
returns-in-Readdir-clause-plan g c =
    if_ok _ _ (λ p own.
    IfTold-weaker (g.K.Keeper.told c.args.keeper.now) _ _
    (λ t planned v unique slots whole same well has. subst (λ (op : Op). IsPlanOf t whole c.args.pass op c.args.now p) (sym c.in-Readdir.is) (planned v whole c.args.pass c.args.now same))
    own)
    c.plan_readdir.result c.plan_readdir.ensures.plan

pub returns-in-Link-clause-plan : goal.returns-in-Link-clause-plan
returns-in-Link-clause-plan g c =
    if_ok _ _ (λ p own.
    IfTold-weaker (g.K.Keeper.told c.args.keeper.now) _ _
    (λ t planned v unique slots whole same well has. subst (λ (op : Op). IsPlanOf t whole c.args.pass op c.args.now p) (sym c.in-Link.is) (planned v unique whole c.args.pass same well))
    own)
    c.plan_link.result c.plan_link.ensures.plan

pub returns-in-Rmdir-clause-plan : goal.returns-in-Rmdir-clause-plan
returns-in-Rmdir-clause-plan g c =
    if_ok _ _ (λ p own.
    IfTold-weaker (g.K.Keeper.told c.args.keeper.now) _ _
    (λ t planned v unique slots whole same well has. subst (λ (op : Op). IsPlanOf t whole c.args.pass op c.args.now p) (sym c.in-Rmdir.is) (planned v unique whole c.args.pass same well))
    own)
    c.plan_rmdir.result c.plan_rmdir.ensures.plan

pub returns-in-Unlink-clause-plan : goal.returns-in-Unlink-clause-plan
returns-in-Unlink-clause-plan g c =
    if_ok _ _ (λ p own.
    IfTold-weaker (g.K.Keeper.told c.args.keeper.now) _ _
    (λ t planned v unique slots whole same well has. subst (λ (op : Op). IsPlanOf t whole c.args.pass op c.args.now p) (sym c.in-Unlink.is) (planned v unique slots whole c.args.pass same well has))
    own)
    c.plan_unlink.result c.plan_unlink.ensures.plan

pub returns-in-Rename-clause-plan : goal.returns-in-Rename-clause-plan
returns-in-Rename-clause-plan g c =
    if_ok _ _ (λ p own.
    IfTold-weaker (g.K.Keeper.told c.args.keeper.now) _ _
    (λ t planned v unique slots whole same well has. subst (λ (op : Op). IsPlanOf t whole c.args.pass op c.args.now p) (sym c.in-Rename.is) (planned v unique slots whole c.args.pass same well has))
    own)
    c.plan_rename.result c.plan_rename.ensures.plan
