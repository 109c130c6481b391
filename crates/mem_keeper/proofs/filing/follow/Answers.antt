use Rattle.std.proofs.Common.{sym, ◌∙◌}
use Rattle.mem_keeper.specs.Filed.{PutsFiled}
use Rattle.mem_keeper.specs.Table.{rows_of}
use Rattle.mem_keeper.proofs.Stays.{on_ok, true_from_not}
use Rattle.mem_keeper.proofs.filing.follow.Goals as goal

pub drop_places_of-requires-clause-filed : goal.drop_places_of-requires-clause-filed
drop_places_of-requires-clause-filed g c =
    c.requires.moved c.if-not-filing.false (true_from_not c.args.plan.keeps c.if-not-plan.false)
    c.file_puts.new.filing c.file_puts.ensures.kept
    (on_ok c.file_puts.result (PutsFiled g.R.Keyed.key g.R.Owned.put_by c.file_puts.new.filing (rows_of c.args.names.now.map.entries) c.args.changes.now)
    (sym c.is_err.ensures.value ∙ c.if-is_err.false) c.file_puts.ensures.filed)
