use Rattle.std.proofs.Common.{sym, ◌∙◌, ap, subst}
use Rattle.op_frames.specs.declared.operation.Op.TheVariants as ops
use Rattle.s3_rows.specs.Rows.{Inode}
use Rattle.ref_counts.specs.declared.plan.Plan.{Plan}
use Rattle.ref_counts.specs.Plans.{IsPlanOf}
use Rattle.ref_counts.proofs.Told.{IfTold-all, IfTold-same, IfTold-weaker, IfTold-weaker2}
use Rattle.row_steps.specs.RowChanges.{settling}
use Rattle.inode_ops.proofs.Closed.{checked_release, release_planned}
use Rattle.inode_ops.proofs.Opened.{not_listed}
use Rattle.inode_ops.proofs.handles_of.release.Goals as goal

pub returns-in_default-clause-plan : goal.returns-in_default-clause-plan
returns-in_default-clause-plan g c =
    IfTold-all (g.K.Keeper.told c.args.keeper.now) _
    (λ t v unique slots whole now same well has. not_listed c.args.handles.now whole has c.args.pass c.args.number now c.inode_of.result c.inode_of.ensures c.in_default.not-Some)

pub returns-in_ok-batch-in-Ok-clause-plan : goal.returns-in_ok-batch-in-Ok-clause-plan
returns-in_ok-batch-in-Ok-clause-plan g c =
    let told = g.K.Keeper.told c.args.keeper.now in
    IfTold-weaker2 told _ _ _
    (λ t is made v unique slots whole now same well has.
    subst (λ (p : Plan). IsPlanOf t whole c.args.pass (ops.Release c.args.number) now p) (sym c.done.ensures.plan)
    (release_planned t whole c.args.pass c.args.number c.args.handles.now c.in-Some.inode c.in_ok-found.found same has (sym c.inode_of.ensures ∙ c.in-Some.is) is
    now c.in-Ok.row c.in_ok-batch-in-Ok.batch v unique slots well c.in-Ok.ensures.row c.in-Ok.ensures.check (made v.ordered ∙ ap (λ (r : Inode). settling c.is_kept-kept.result t r.id) c.row.view_is ∙ ap (λ k. settling k t c.in-Ok.row.id) c.is_kept-kept.ensures)))
    c.in_ok-found.ensures.row (IfTold-same told _ _ c.in_ok-found.ensures.same c.in_ok-batch-in-Ok.ensures.batch)

pub returns-in-Err-clause-plan : goal.returns-in-Err-clause-plan
returns-in-Err-clause-plan g c =
    IfTold-weaker (g.K.Keeper.told c.args.keeper.now) _ _
    (λ t is v unique slots whole now same well has.
    checked_release t whole c.args.pass c.args.number c.args.handles.now c.in-Some.inode c.in_ok-found.found same has (sym c.inode_of.ensures ∙ c.in-Some.is) is
    _ c.in-Err.ensures.check)
    c.in_ok-found.ensures.row
