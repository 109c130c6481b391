use Rattle.std.proofs.Common.{sym, subst}
use Rattle.op_frames.specs.declared.operation.Op.TheVariants as ops
use Rattle.ref_counts.specs.declared.plan.Plan.{Plan}
use Rattle.ref_counts.specs.Plans.{IsPlanOf}
use Rattle.inode_ops.proofs.Opened.{open_planned}
use Rattle.inode_ops.proofs.handles_of.open_of.Goals as goal

pub returns-clause-plan : goal.returns-clause-plan
returns-clause-plan c t whole pass x now v same has is =
    subst (λ (p : Plan). IsPlanOf t whole pass (ops.Open x) now p) (sym c.answer.ensures.plan)
    (open_planned t whole pass x now c.args.handles.now c.args.found c.opened_reply.result v same has is c.opened_reply.ensures.check c.opened_reply.ensures.reply)
