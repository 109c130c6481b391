use Rattle.std.proofs.Common.{None, Some, refl, sym, ap, ◌∙◌}
use Rattle.std.specs.Prelude.{is_some}
use Rattle.std.specs.Map.{lookup}
use Rattle.std.specs.BTreeMap.{is_at}
use Rattle.row_lemmas.proofs.Keyed.Without.{without_none}
use Rattle.mem_keeper.specs.Table.{rows_of}
use Rattle.mem_keeper.proofs.Tabled.{row_at-rows_of, keyed-insert_entry, rows_of-without, none_held}
use Rattle.mem_keeper.proofs.table.take_from.Goals as goal

-- there was no row
pub returns-then-not-contains_key-clause-rows : goal.returns-then-not-contains_key-clause-rows
returns-then-not-contains_key-clause-rows g c =
    sym (without_none record { compare = g.R.Key.Ord.cmp; key = g.R.Keyed.key } c.args.key (rows_of c.args.table.now.entries)
    (ap is_some (row_at-rows_of record { compare = g.R.Key.Ord.cmp; key = g.R.Keyed.key } g.met.R.Key.Ord.total c.args.key c.args.table.now.entries c.requires
    ∙ none_held (lookup (is_at (g.R.Key.Ord.cmp c.args.key)) c.args.table.now.entries) (sym c.contains_key.ensures ∙ c.if-not-contains_key.true))))

pub returns-in-Ok-Some-clause-table : goal.returns-in-Ok-Some-clause-table
returns-in-Ok-Some-clause-table g c = record {
  ordered = c.insert.ensures.ordered;
  keyed = rw c.in-Ok-Some.ensures.entries
      (keyed-insert_entry record { compare = g.R.Key.Ord.cmp; key = g.R.Keyed.key } g.met.R.Key.Ord.total c.args.table.now.entries c.args.key None tt c.requires.keyed);
}

pub returns-in-Ok-Some-clause-rows : goal.returns-in-Ok-Some-clause-rows
returns-in-Ok-Some-clause-rows g c =
    rows_of-without record { compare = g.R.Key.Ord.cmp; key = g.R.Keyed.key } g.met.R.Key.Ord.total c.args.key (Some None) c.args.table.now.entries c.insert.new.self.entries c.requires
    (returns-in-Ok-Some-clause-table g c) refl c.in-Ok-Some.ensures.updates.0
