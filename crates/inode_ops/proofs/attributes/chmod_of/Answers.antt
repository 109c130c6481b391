use Rattle.std.proofs.Common.{sym, subst}
use Rattle.op_frames.specs.declared.operation.Op.TheVariants as ops
use Rattle.ref_counts.specs.declared.plan.Plan.{Plan}
use Rattle.ref_counts.specs.Plans.{IsPlanOf}
use Rattle.ref_counts.proofs.Named.{if_ok}
use Rattle.inode_ops.proofs.Planned.{chmod_planned}
use Rattle.inode_ops.proofs.attributes.chmod_of.Goals as goal

pub returns-clause-plan : goal.returns-clause-plan
returns-clause-plan c =
    if_ok _ _ (λ p own t whole pass x v same is.
    subst (λ (plan : Plan). IsPlanOf t whole pass (ops.Chmod x c.args.mode) c.args.now plan) (sym own)
    (chmod_planned t whole pass x c.args.mode c.args.now c.args.found c.with_mode.result v same is c.with_mode.ensures.check c.with_mode.ensures.row))
    c.put.result c.put.ensures.plan
