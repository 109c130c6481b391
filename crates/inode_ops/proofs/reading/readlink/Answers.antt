use Rattle.std.proofs.Common.{sym, subst}
use Rattle.op_frames.specs.declared.operation.Op.TheVariants as ops
use Rattle.ref_counts.specs.declared.plan.Plan.{Plan}
use Rattle.ref_counts.specs.Plans.{IsPlanOf}
use Rattle.ref_counts.proofs.Told.{IfTold-weaker2, IfTold-same}
use Rattle.inode_ops.proofs.NodeRows.{readlink_planned}
use Rattle.inode_ops.proofs.reading.readlink.Goals as goal

pub returns-clause-plan : goal.returns-clause-plan
returns-clause-plan g c =
    let told = g.K.Keeper.told c.args.keeper.now in
    IfTold-weaker2 told _ _ _
    (λ t row target v whole pass now same.
    subst (λ (p : Plan). IsPlanOf t whole pass (ops.Readlink c.args.inode) now p) (sym c.answer.ensures.plan)
    (readlink_planned t whole v same c.args.inode c.in_ok-found.found row pass now c.in_ok-target.field-0 c.target_bytes-target.result target c.target_bytes-target.ensures.bytes c.target_reply.result
    c.target_reply.ensures.check c.target_reply.ensures.reply))
    c.in_ok-found.ensures.row (IfTold-same told _ _ c.in_ok-found.ensures.same c.in_ok-target.ensures.row)
