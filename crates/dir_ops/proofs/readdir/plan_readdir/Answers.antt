use Rattle.std.proofs.Common.{map, sym, ap, ◌∙◌, subst}
use Rattle.op_frames.specs.declared.operation.Op.TheVariants as ops
use Rattle.s3_rows.specs.declared.lists.NamedEntry.{NamedEntry}
use Rattle.s3_rows.specs.Selections.{by_entry_name}
use Rattle.tree_rows.specs.Listings.{entry_of_row}
use Rattle.ref_counts.specs.declared.plan.Plan.{Plan}
use Rattle.ref_counts.specs.Plans.{IsPlanOf}
use Rattle.ref_counts.proofs.ShortPages.{short_data-Entries}
use Rattle.ref_counts.proofs.Told.{IfTold-weaker3, IfTold-same}
use Rattle.dir_ops.proofs.DirectoryRows.{readdir_planned}
use Rattle.dir_ops.proofs.readdir.plan_readdir.Goals as goal

pub page_reply-requires : goal.page_reply-requires
page_reply-requires g c = record {
  short =
      short_data-Entries by_entry_name (λ e. e.name) c.args.after.now c.args.max c.in_ok-listed.listed c.in_default.ensures.few c.in_ok-listed.ensures.page c.in_ok-page.page
      (c.in_ok-page.ensures.names ∙ ap (map (λ (e : NamedEntry). e.name)) c.as_slice.ensures);
}

pub returns-clause-plan : goal.returns-clause-plan
returns-clause-plan g c =
    let told = g.K.Keeper.told c.args.keeper.now in
    IfTold-weaker3 told _ _ _ _
    (λ t row listed page v whole pass now same.
    subst (λ (p : Plan). IsPlanOf t whole pass (ops.Readdir c.args.inode c.args.after.now c.args.max) now p) (sym c.answer.ensures.plan)
    (readdir_planned t whole v same c.args.inode c.args.after.now c.args.max c.in_ok-found.found c.in_ok-page.page row (page ∙ ap (map (entry_of_row t)) (c.as_slice.ensures ∙ listed)) pass now c.page_reply.result
    c.in_default.ensures.check c.page_reply.ensures.check c.page_reply.ensures.reply))
    c.in_ok-found.ensures.row (IfTold-same told _ _ c.in_ok-found.ensures.same c.in_ok-listed.ensures.rows)
    (IfTold-same told _ _ (c.in_ok-listed.ensures.same ∙ c.in_ok-found.ensures.same) c.in_ok-page.ensures.entries)
