use Rattle.std.proofs.Common.{eq-eqb, sym, ap, ◌++◌, ◌∙◌}
use Rattle.s3_rows.specs.Rows.{Inode}
use Rattle.s3_rows.specs.Batches.{tables_after}
use Rattle.ref_counts.specs.Links.{places_dropped, places_from}
use Rattle.ref_counts.proofs.AttrKeys.{on_ok}
use Rattle.ref_counts.proofs.Told.{IfTold-same, IfTold-weaker2}
use Rattle.inode_ops.proofs.Closed.{nameless_places_go}
use Rattle.inode_ops.proofs.handles_of.drop_nameless_links.Goals as goal

pub returns-clause-dropped : goal.returns-clause-dropped
returns-clause-dropped g c =
    let told = g.K.Keeper.told c.args.keeper.now in
    on_ok _ _ (λ own.
    IfTold-weaker2 told _ _ _
    (λ t row dropped o.
    dropped o ∙ ap (λ (r : Inode). c.args.batch.now ++ places_dropped (places_from t r.id 0) (tables_after c.args.batch.now t)) c.row.view_is
    ∙ ap (λ cs. c.args.batch.now ++ cs)
    (nameless_places_go t (tables_after c.args.batch.now t) c.args.inode c.in-Some.row (sym row ∙ c.in-Some.is) (eq-eqb c.in-Some.row.refcount 0 (ap (λ (r : Inode). r.refcount) (sym c.row.view_is) ∙ c.if-row-ne0.false))))
    c.in_ok-row.ensures.row (IfTold-same told _ _ c.in_ok-row.ensures.same own))
    c.drop_links.result c.drop_links.ensures.dropped
