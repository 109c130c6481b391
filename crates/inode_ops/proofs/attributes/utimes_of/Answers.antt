use Rattle.std.proofs.Common.{sym, subst}
use Rattle.op_frames.specs.declared.operation.Op.TheVariants as ops
use Rattle.ref_counts.specs.declared.plan.Plan.{Plan}
use Rattle.ref_counts.specs.Plans.{IsPlanOf}
use Rattle.ref_counts.proofs.Named.{if_ok}
use Rattle.inode_ops.proofs.Planned.{utimes_planned}
use Rattle.inode_ops.proofs.attributes.utimes_of.Goals as goal

pub returns-clause-plan : goal.returns-clause-plan
returns-clause-plan c =
    if_ok _ _ (λ p own t whole pass x v same is.
    subst (λ (plan : Plan). IsPlanOf t whole pass (ops.Utimes x c.args.mtime) c.args.now plan) (sym own)
    (utimes_planned t whole pass x c.args.mtime c.args.now c.args.found c.with_mtime.result v same is c.with_mtime.ensures.check c.with_mtime.ensures.row))
    c.put.result c.put.ensures.plan
