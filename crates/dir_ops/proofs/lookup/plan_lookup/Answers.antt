use Rattle.std.proofs.Common.{sym, ◌∙◌, subst}
use Rattle.op_frames.specs.declared.operation.Op.TheVariants as ops
use Rattle.ref_counts.specs.declared.plan.Plan.{Plan}
use Rattle.ref_counts.specs.Plans.{IsPlanOf}
use Rattle.ref_counts.proofs.Told.{IfTold-weaker3, IfTold-same}
use Rattle.dir_ops.proofs.ChildRow.{lookup_planned}
use Rattle.dir_ops.proofs.lookup.plan_lookup.Goals as goal

pub returns-clause-plan : goal.returns-clause-plan
returns-clause-plan g c =
    let told = g.K.Keeper.told c.args.keeper.now in
    IfTold-weaker3 told _ _ _ _
    (λ t row entry child v unique whole pass now same.
    subst (λ (p : Plan). IsPlanOf t whole pass (ops.Lookup c.args.parent c.args.name.now) now p) (sym c.answer.ensures.plan)
    (lookup_planned t whole v same c.args.parent c.args.name.now c.in_ok-found.found c.in_ok-entry.entry c.in_ok-child.child row (entry v unique) child pass now c.child_reply.result c.in_default.ensures
    c.child_reply.ensures.check c.child_reply.ensures.reply))
    c.in_ok-found.ensures.row (IfTold-same told _ _ c.in_ok-found.ensures.same c.in_ok-entry.ensures.found)
    (IfTold-same told _ _ (c.in_ok-entry.ensures.same ∙ c.in_ok-found.ensures.same) c.in_ok-child.ensures.row)
