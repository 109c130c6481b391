use Rattle.std.specs.Ordering.{nat_cmp}
use Rattle.mem_keeper.specs.Table.{rows_of}
use Rattle.mem_keeper.specs.Index.{Covers}
use Rattle.mem_keeper.proofs.indexes.unlist_all.Given as goal

abbrev pub invariant-loop-row : goal.invariant-loop-row
invariant-loop-row g l = Covers record { compare = nat_cmp; key = g.R.Keyed.key } g.R.Indexed.bytes l.index (rows_of l.table.entries)
