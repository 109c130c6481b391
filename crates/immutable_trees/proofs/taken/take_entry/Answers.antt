use Rattle.std.proofs.Common.{[], ◌∷◌, ◌++◌, ◌∙◌, ap}
use Rattle.s3_rows.specs.declared.change.Change.TheVariants as changes
use Rattle.s3_rows.specs.Batches.{tables_after}
use Rattle.s3_rows.specs.Rows.{Content}
use Rattle.ref_counts.specs.Names.{lowered_at}
use Rattle.ref_counts.proofs.AttrKeys.{on_ok}
use Rattle.ref_counts.proofs.Told.{IfTold-weaker}
use Rattle.immutable_trees.proofs.TakenBatches.{entry_batch}
use Rattle.immutable_trees.proofs.taken.take_entry.Goals as goal

pub returns-clause-taken : goal.returns-clause-taken
returns-clause-taken g c =
    let old = c.args.batch.now in
    let pushed = c.push.new.self in
    on_ok _ _ (λ own.
    IfTold-weaker (g.K.Keeper.told c.args.keeper.now) _ _
    (λ t added n named.
    entry_batch t old c.args.entry.now n pushed _ named (c.in_ok-push.ensures.ok ∙ ap (λ (e : Content). old ++ changes.DeleteContent e.parent e.name_id ∷ []) c.entry.view_is)
    (added ∙ ap (λ (e : Content). pushed ++ lowered_at (tables_after pushed t) e.name_id) c.entry.view_is)) own)
    c.name_down.result c.name_down.ensures.lowered
