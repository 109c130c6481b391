use Rattle.std.proofs.Common.{map, sym, ap, ◌∙◌, subst}
use Rattle.op_frames.specs.declared.operation.Op.TheVariants as ops
use Rattle.s3_rows.specs.declared.lists.NamedAttr.{NamedAttr}
use Rattle.s3_rows.specs.Selections.{by_attr_name}
use Rattle.ref_counts.specs.declared.plan.Plan.{Plan}
use Rattle.ref_counts.specs.Plans.{IsPlanOf}
use Rattle.ref_counts.proofs.ShortPages.{short_data-Names}
use Rattle.ref_counts.proofs.Told.{IfTold-weaker2, IfTold-same}
use Rattle.inode_ops.proofs.NodeRows.{listxattr_planned}
use Rattle.inode_ops.proofs.reading.listxattr.Goals as goal

pub names_reply-requires : goal.names_reply-requires
names_reply-requires g c = record {
  short =
      short_data-Names by_attr_name (λ a. a.name) c.args.after.now c.args.max c.in_ok-listed.listed c.in_default.ensures.few c.in_ok-listed.ensures.page c.in_ok-names.names
      (c.in_ok-names.ensures ∙ ap (map (λ (a : NamedAttr). a.name)) c.as_slice.ensures);
}

pub returns-clause-plan : goal.returns-clause-plan
returns-clause-plan g c =
    let told = g.K.Keeper.told c.args.keeper.now in
    IfTold-weaker2 told _ _ _
    (λ t row listed v whole pass now same.
    subst (λ (p : Plan). IsPlanOf t whole pass (ops.Listxattr c.args.inode c.args.after.now c.args.max) now p) (sym c.answer.ensures.plan)
    (listxattr_planned t whole v same c.args.inode c.in_ok-found.found row pass now c.args.after.now c.args.max c.in_ok-names.names
    (c.in_ok-names.ensures ∙ ap (map (λ (a : NamedAttr). a.name)) (c.as_slice.ensures ∙ listed)) c.names_reply.result c.in_default.ensures.check c.names_reply.ensures.check c.names_reply.ensures.reply))
    c.in_ok-found.ensures.row (IfTold-same told _ _ c.in_ok-found.ensures.same c.in_ok-listed.ensures.rows)
