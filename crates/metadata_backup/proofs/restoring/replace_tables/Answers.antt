use Rattle.std.proofs.Common.{subst}
use Rattle.std.proofs.lemmas.Result.{on_ok_weaker}
use Rattle.s3_rows.specs.Tables.{IsOrdered}
use Rattle.metadata_backup.proofs.RestoreLaws.{replaced}
use Rattle.metadata_backup.proofs.restoring.replace_tables.Goals as goal

pub returns-clause-ok : goal.returns-clause-ok
returns-clause-ok g c =
    on_ok_weaker c.commit.result
    (λ committed s told ordered.
    replaced (g.K.Keeper.told c.args.keeper.now) (g.K.Keeper.told c.read_rows_beside.new.keeper) (g.K.Keeper.told c.commit.new.self)
    c.in_ok-old.old c.args.tables c.args.params c.in_ok-batch.batch s
    c.read_rows_beside.ensures.same committed c.in_ok-batch.ensures (c.in_ok-old.ensures.rows s told ordered) (subst IsOrdered c.tables.view_is c.tables.invariant) told ordered)
    c.commit.ensures.ok
