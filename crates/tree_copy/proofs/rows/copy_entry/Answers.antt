use Rattle.std.proofs.Common.{subst}
use Rattle.s3_rows.specs.Batches.{tables_after}
use Rattle.std.specs.Prelude.{Option}
use Rattle.std.proofs.Common.{ℕ}
use Rattle.ref_counts.specs.Names.{IsRaised, raised}
use Rattle.ref_counts.proofs.Told.{IfTold-weaker}
use Rattle.tree_copy.proofs.NextRows.{entry_unique}
use Rattle.tree_copy.proofs.rows.copy_entry.Goals as goal

pub returns-clause-unique : goal.returns-clause-unique
returns-clause-unique g c =
    IfTold-weaker (g.K.Keeper.told c.args.keeper.now) _ _
    (λ t used o unique named fit.
    entry_unique t c.args.batch.now c.use_name.new.batch c.put_entry.new.batch c.args.name.now c.in-Some.name_id c.args.directory c.args.copy o unique
    (subst (λ (id : Option ℕ). IsRaised (raised (tables_after c.args.batch.now t) c.args.name.now) c.args.batch.now id c.use_name.new.batch) c.in-Some.is (used o unique named))
    c.in_ok-put_entry.ensures)
    c.in_ok-name_id.ensures.used
