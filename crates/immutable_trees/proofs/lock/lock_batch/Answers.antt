use Rattle.std.proofs.Common.{sym, subst}
use Rattle.op_frames.specs.declared.operation.Op.TheVariants as ops
use Rattle.ref_counts.specs.declared.plan.Plan.{Plan}
use Rattle.ref_counts.specs.Plans.{IsPlanOf}
use Rattle.ref_counts.proofs.Told.{IfTold-weaker, IfTold-weaker2, IfTold-same}
use Rattle.immutable_trees.proofs.LockPlanned.{lock_planned, lock_refused, top_folder, top_found}
use Rattle.immutable_trees.proofs.lock.lock_batch.Goals as goal

pub returns-in_ok-batch-in-Ok-clause-plan : goal.returns-in_ok-batch-in-Ok-clause-plan
returns-in_ok-batch-in-Ok-clause-plan g c =
    let told = g.K.Keeper.told c.args.keeper.now in
    let x = c.args.inode in
    let top = c.in-Ok.top in
    IfTold-weaker2 told _ _ _
    (λ t found made v whole pass now same well.
    subst (λ (p : Plan). IsPlanOf t whole pass (ops.LockTree x) now p) (sym c.with_done.ensures.plan)
    (lock_planned t whole v same well pass x now c.in_ok-found.found found top c.in-Ok.ensures.row c.in-Ok.ensures.check c.in_ok-batch-in-Ok.batch
    (made v whole same well
    (top_found t whole v same well pass x now c.in_ok-found.found found top c.in-Ok.ensures.row c.in-Ok.ensures.check)
    (top_folder t whole v same well pass x now c.in_ok-found.found found top c.in-Ok.ensures.row c.in-Ok.ensures.check))))
    c.in_ok-found.ensures.row (IfTold-same told _ _ c.in_ok-found.ensures.same c.in_ok-batch-in-Ok.ensures.batch)

pub returns-in-Err-clause-plan : goal.returns-in-Err-clause-plan
returns-in-Err-clause-plan g c =
    IfTold-weaker (g.K.Keeper.told c.args.keeper.now) _ _
    (λ t found v whole pass now same well. lock_refused t whole v same well pass c.args.inode now c.in_ok-found.found found c.in-Err.errno c.in-Err.ensures.check)
    c.in_ok-found.ensures.row
