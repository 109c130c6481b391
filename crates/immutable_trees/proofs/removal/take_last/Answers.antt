use Rattle.std.proofs.Common.{◌++◌, ◌∙◌, ap}
use Rattle.s3_rows.specs.Batches.{tables_after}
use Rattle.ref_counts.specs.Removals.{removal}
use Rattle.ref_counts.proofs.AttrKeys.{on_ok}
use Rattle.ref_counts.proofs.Told.{IfTold-same, IfTold-weaker2}
use Rattle.dir_ops.specs.declared.old_entry.OldEntry.{OldEntry}
use Rattle.immutable_trees.proofs.TakenBatches.{last_batch}
use Rattle.immutable_trees.proofs.removal.take_last.Goals as goal

pub returns-clause-taken : goal.returns-clause-taken
returns-clause-taken g c =
    let told = g.K.Keeper.told c.args.keeper.now in
    let old = c.args.old.now in
    let down = c.drop_entry.new.batch in
    on_ok _ _ (λ own.
    IfTold-weaker2 told _ _ _
    (λ t dropped drops ordered n r named number has.
    last_batch t c.args.batch.now old.directory old.entry n r c.args.now down c.drop_file.new.batch has number (dropped n named)
    (drops ordered ∙ ap (λ (o : OldEntry). down ++ removal t o.entry.inode (tables_after down t)) c.old.view_is))
    c.in_ok-drop_entry.ensures.dropped (IfTold-same told _ _ c.in_ok-drop_entry.ensures.same own))
    c.drop_file.result c.drop_file.ensures.dropped
