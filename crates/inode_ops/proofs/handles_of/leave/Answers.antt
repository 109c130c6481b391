use Rattle.std.proofs.Common.{sym, ap, ◌++◌, ◌∙◌, subst}
use Rattle.op_frames.specs.declared.operation.Op.TheVariants as ops
use Rattle.s3_rows.specs.Batches.{tables_after}
use Rattle.ref_counts.specs.declared.plan.Plan.{Plan}
use Rattle.ref_counts.specs.Links.{places_dropped, places_of}
use Rattle.ref_counts.specs.Plans.{IsPlanOf}
use Rattle.ref_counts.specs.Removals.{removals}
use Rattle.ref_counts.proofs.Told.{IfTold-same, IfTold-weaker2}
use Rattle.inode_ops.specs.Nameless.{nameless}
use Rattle.inode_ops.proofs.Closed.{leave_planned}
use Rattle.inode_ops.proofs.handles_of.leave.Goals as goal

pub returns-clause-plan : goal.returns-clause-plan
returns-clause-plan g c =
    let told = g.K.Keeper.told c.args.keeper.now in
    IfTold-weaker2 told _ _ _
    (λ t made gone v unique slots whole now same well has.
    subst (λ (p : Plan). IsPlanOf t whole c.args.pass ops.Leave now p) (sym c.done.ensures.plan)
    (leave_planned t whole c.args.handles.now c.args.pass c.in_ok-held.held v same well has c.in_ok-held.ensures.alone now c.drop_all_nameless.new.batch unique slots
    c.in_ok-held.ensures.once
    (gone v.ordered
    ∙ ap (λ xs. c.in_ok-batch.batch ++ removals t (nameless t xs) (tables_after c.in_ok-batch.batch t)) c.as_slice-2.ensures
    ∙ ap (λ b. b ++ removals t (nameless t c.in_ok-held.held) (tables_after b t)) (made v.ordered ∙ ap (λ xs. places_dropped (places_of t (nameless t xs)) t) c.as_slice.ensures))))
    c.in_ok-batch.ensures.batch (IfTold-same told _ _ c.in_ok-batch.ensures.same c.in_ok-drop_all_nameless.ensures.dropped)
