use Rattle.std.proofs.Common.{sym, subst}
use Rattle.op_frames.specs.declared.operation.Op.TheVariants as ops
use Rattle.ref_counts.specs.declared.plan.Plan.{Plan}
use Rattle.ref_counts.specs.Plans.{IsPlanOf}
use Rattle.inode_ops.proofs.Planned.{getattr_planned}
use Rattle.inode_ops.proofs.attributes.getattr_of.Goals as goal

pub returns-clause-plan : goal.returns-clause-plan
returns-clause-plan c t whole pass x now v same is =
    subst (λ (p : Plan). IsPlanOf t whole pass (ops.Getattr x) now p) (sym c.answer.ensures.plan)
    (getattr_planned t whole pass x now c.args.found c.attr_reply.result v same is c.attr_reply.ensures.check c.attr_reply.ensures.reply)
