use Rattle.std.proofs.Common.{None, refl, sym, ap, ◌∙◌}
use Rattle.std.specs.BTreeMap.{is_at}
use Rattle.mem_keeper.specs.Table.{held_in}
use Rattle.mem_keeper.proofs.Tabled.{keyed-remove_entry, rows_of-same}
use Rattle.mem_keeper.proofs.table.drop_place.Goals as goal

pub returns-clause-table : goal.returns-clause-table
returns-clause-table g c = record {
  ordered = c.remove.ensures.ordered;
  keyed = rw c.remove.ensures.entries
      (keyed-remove_entry record { compare = g.R.Key.Ord.cmp; key = g.R.Keyed.key } g.met.R.Key.Ord.total (is_at (g.R.Key.Ord.cmp c.args.key)) c.args.table.now.entries c.requires.keyed);
}

pub returns-clause-rows : goal.returns-clause-rows
returns-clause-rows g c =
    rows_of-same record { compare = g.R.Key.Ord.cmp; key = g.R.Keyed.key } g.met.R.Key.Ord.total c.args.key None c.args.table.now.entries c.remove.new.self.entries c.requires
    (returns-clause-table g c) refl (sym (ap held_in c.in-Some-None.ensures.value) ∙ c.in-Some-None.field-0-is)
    c.remove.ensures.updates.0
