use Rattle.std.proofs.Common.{None, Some, refl, sym, ◌∙◌}
use Rattle.std.specs.Map.{lookup}
use Rattle.std.specs.BTreeMap.{is_at}
use Rattle.mem_keeper.proofs.Tabled.{keyed-insert_entry, rows_of-same, none_held}
use Rattle.mem_keeper.proofs.table.hold_place.Goals as goal

pub returns-in-Ok-clause-table : goal.returns-in-Ok-clause-table
returns-in-Ok-clause-table g c = record {
  ordered = c.insert.ensures.ordered;
  keyed = rw c.in-Ok.ensures.entries (keyed-insert_entry record { compare = g.R.Key.Ord.cmp; key = g.R.Keyed.key } g.met.R.Key.Ord.total c.args.table.now.entries c.args.key None tt c.requires.keyed);
}

pub returns-in-Ok-clause-rows : goal.returns-in-Ok-clause-rows
returns-in-Ok-clause-rows g c =
    rows_of-same record { compare = g.R.Key.Ord.cmp; key = g.R.Keyed.key } g.met.R.Key.Ord.total c.args.key (Some None) c.args.table.now.entries c.insert.new.self.entries c.requires
    (returns-in-Ok-clause-table g c) refl
    (none_held (lookup (is_at (g.R.Key.Ord.cmp c.args.key)) c.args.table.now.entries) (sym c.contains_key.ensures ∙ c.if-contains_key.false))
    c.in-Ok.ensures.updates.0
