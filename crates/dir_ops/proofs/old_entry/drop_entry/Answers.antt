use Rattle.std.proofs.Common.{◌++◌, ◌∙◌, ap}
use Rattle.s3_rows.specs.Batches.{tables_after}
use Rattle.ref_counts.specs.Names.{lowered_at}
use Rattle.ref_counts.proofs.AttrKeys.{on_ok}
use Rattle.ref_counts.proofs.Told.{IfTold-weaker}
use Rattle.dir_ops.specs.declared.old_entry.OldEntry.{OldEntry}
use Rattle.dir_ops.proofs.GoneEntries.{entry_dropped}
use Rattle.dir_ops.proofs.old_entry.drop_entry.Goals as goal

pub returns-clause-dropped : goal.returns-clause-dropped
returns-clause-dropped g c =
    on_ok _ _ (λ own.
    IfTold-weaker (g.K.Keeper.told c.args.keeper.now) _ _
    (λ t lowered n there.
    entry_dropped t c.args.batch.now c.lift_entry.new.batch c.name_down.new.batch c.args.old.now.directory c.args.old.now.entry n c.args.now c.in_ok-lift_entry.ensures there
    (lowered ∙ ap (λ (old : OldEntry). c.lift_entry.new.batch ++ lowered_at (tables_after c.lift_entry.new.batch t) old.entry.name_id) c.old.view_is))
    own)
    c.name_down.result c.name_down.ensures.lowered
