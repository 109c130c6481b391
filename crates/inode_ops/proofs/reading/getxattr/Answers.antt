use Rattle.std.proofs.Common.{sym, subst}
use Rattle.op_frames.specs.declared.operation.Op.TheVariants as ops
use Rattle.ref_counts.specs.declared.plan.Plan.{Plan}
use Rattle.ref_counts.specs.Plans.{IsPlanOf}
use Rattle.ref_counts.proofs.Told.{IfTold-weaker2, IfTold-same}
use Rattle.inode_ops.proofs.NodeRows.{getxattr_planned}
use Rattle.inode_ops.proofs.reading.getxattr.Goals as goal

pub returns-clause-plan : goal.returns-clause-plan
returns-clause-plan g c =
    let told = g.K.Keeper.told c.args.keeper.now in
    IfTold-weaker2 told _ _ _
    (λ t row attr v unique whole pass now same.
    subst (λ (p : Plan). IsPlanOf t whole pass (ops.Getxattr c.args.inode c.args.name.now) now p) (sym c.answer.ensures.plan)
    (getxattr_planned t whole v same c.args.inode c.in_ok-found.found row pass now c.args.name.now c.in_ok-attr.attr (attr v unique) c.value_reply.result c.in_default.ensures
    c.value_reply.ensures.check c.value_reply.ensures.reply))
    c.in_ok-found.ensures.row (IfTold-same told _ _ c.in_ok-found.ensures.same c.in_ok-attr.ensures.found)
