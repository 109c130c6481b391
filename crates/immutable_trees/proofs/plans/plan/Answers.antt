use Rattle.std.proofs.Common.{sym, subst}
use Rattle.op_frames.specs.declared.operation.Op.{Op}
use Rattle.ref_counts.specs.Plans.{IsPlanOf}
use Rattle.ref_counts.proofs.Named.{if_ok}
use Rattle.ref_counts.proofs.Told.{IfTold-weaker}
use Rattle.immutable_trees.proofs.plans.plan.Goals as goal

pub returns-in-LockTree-clause-plan : goal.returns-in-LockTree-clause-plan
returns-in-LockTree-clause-plan g c =
    if_ok _ _ (λ p own.
    IfTold-weaker (g.K.Keeper.told c.args.keeper.now) _ _
    (λ t planned v unique slots whole same well has.
    subst (λ (op : Op). IsPlanOf t whole c.args.pass op c.args.now p) (sym c.in-LockTree.is) (planned v whole c.args.pass c.args.now same well))
    own)
    c.lock_batch.result c.lock_batch.ensures.plan

pub returns-in-RemoveTree-clause-plan : goal.returns-in-RemoveTree-clause-plan
returns-in-RemoveTree-clause-plan g c =
    if_ok _ _ (λ p own.
    IfTold-weaker (g.K.Keeper.told c.args.keeper.now) _ _
    (λ t planned v unique slots whole same well has.
    subst (λ (op : Op). IsPlanOf t whole c.args.pass op c.args.now p) (sym c.in-RemoveTree.is) (planned v unique slots whole c.args.pass same well has))
    own)
    c.remove_batch.result c.remove_batch.ensures.plan
