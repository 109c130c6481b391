use Rattle.std.proofs.Common.{[], ◌++◌, ◌∙◌, ap, cond}
use Rattle.s3_rows.specs.Batches.{tables_after}
use Rattle.s3_rows.specs.Rows.{Inode}
use Rattle.ref_counts.specs.Links.{places_dropped, places_from}
use Rattle.ref_counts.proofs.AttrKeys.{on_ok}
use Rattle.ref_counts.proofs.Told.{IfTold-same, IfTold-weaker3}
use Rattle.immutable_trees.proofs.TakenBatches.{file_batch}
use Rattle.immutable_trees.proofs.taken.take_file.Goals as goal

pub returns-clause-taken : goal.returns-clause-taken
returns-clause-taken g c =
    let told = g.K.Keeper.told c.args.keeper.now in
    on_ok _ _ (λ own.
    IfTold-weaker3 told _ _ _ _
    (λ t places first added ordered n named has.
    file_batch t c.args.batch.now c.args.kept c.args.now c.args.entry.now n c.args.file.now _ _ _ has named
    (places ordered ∙ ap (λ (r : Inode). c.args.batch.now ++ cond c.args.kept [] (places_dropped (places_from t r.id 0) (tables_after c.args.batch.now t))) c.file.view_is) (first n) (added ordered))
    c.in_ok-drop_places.ensures.dropped (IfTold-same told _ _ c.in_ok-drop_places.ensures.same c.in_ok-take_entry.ensures.taken)
    (IfTold-same told _ _ (c.in_ok-take_entry.ensures.same ∙ c.in_ok-drop_places.ensures.same) own))
    c.drop_link.result c.drop_link.ensures.dropped
