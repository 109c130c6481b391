use Rattle.std.proofs.Common.{◌++◌, ◌∙◌, ap}
use Rattle.s3_rows.specs.Batches.{tables_after}
use Rattle.s3_rows.specs.Rows.{Content}
use Rattle.ref_counts.specs.Removals.{removal}
use Rattle.ref_counts.proofs.AttrKeys.{on_ok}
use Rattle.ref_counts.proofs.Told.{IfTold-same, IfTold-weaker2}
use Rattle.immutable_trees.proofs.TakenBatches.{folder_batch}
use Rattle.immutable_trees.proofs.taken.take_folder.Goals as goal

pub returns-clause-taken : goal.returns-clause-taken
returns-clause-taken g c =
    let told = g.K.Keeper.told c.args.keeper.now in
    on_ok _ _ (λ own.
    IfTold-weaker2 told _ _ _
    (λ t first added ordered n r named number has. folder_batch t c.args.batch.now c.args.entry.now n r _ _ has number (first n named)
    (added ordered ∙ ap (λ (e : Content). c.take_entry.new.batch ++ removal t e.inode (tables_after c.take_entry.new.batch t)) c.entry.view_is))
    c.in_ok-take_entry.ensures.taken (IfTold-same told _ _ c.in_ok-take_entry.ensures.same own))
    c.drop_file.result c.drop_file.ensures.dropped
