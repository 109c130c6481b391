use Rattle.std.proofs.Common.{◌≡◌, Some, sym, subst}
use Rattle.std.specs.Cmp.{tied_itself}
use Rattle.std.specs.declared.cmp.Ordering.TheVariants.{Equal}
use Rattle.mem_keeper.proofs.Tabled.{keyed-insert_entry, rows_of-put, IsUpdated}
use Rattle.mem_keeper.proofs.table.put_in.Goals as goal

pub returns-in-Ok-Some-clause-table : goal.returns-in-Ok-Some-clause-table
returns-in-Ok-Some-clause-table g c = record {
  ordered = c.insert.ensures.ordered;
  keyed = rw c.in-Ok-Some.ensures.entries
      (keyed-insert_entry record { compare = g.R.Key.Ord.cmp; key = g.R.Keyed.key } g.met.R.Key.Ord.total c.args.table.now.entries c.key.result (Some c.args.row)
      (subst (λ k. g.R.Key.Ord.cmp k (g.R.Keyed.key c.args.row) ≡ Equal) (sym c.key.ensures.key) (tied_itself g.met.R.Key.Ord.total (g.R.Keyed.key c.args.row)))
      c.requires.table.keyed);
}

pub returns-in-Ok-Some-clause-rows : goal.returns-in-Ok-Some-clause-rows
returns-in-Ok-Some-clause-rows g c =
    rows_of-put record { compare = g.R.Key.Ord.cmp; key = g.R.Keyed.key } g.met.R.Key.Ord.total c.args.row c.args.table.now.entries c.insert.new.self.entries c.requires.table (returns-in-Ok-Some-clause-table g c)
    (subst (λ k. IsUpdated record { compare = g.R.Key.Ord.cmp; key = g.R.Keyed.key } g.met.R.Key.Ord.total k (Some (Some c.args.row)) c.args.table.now.entries c.insert.new.self.entries) c.key.ensures.key c.in-Ok-Some.ensures.updates.0)
