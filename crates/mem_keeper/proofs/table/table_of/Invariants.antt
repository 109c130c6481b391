use Rattle.std.proofs.Common.{◌≡◌, drop, ◌≤◌, length}
use Rattle.mem_keeper.specs.Table.{rows_of, IsTable}
use Rattle.mem_keeper.proofs.table.table_of.Given as goal

abbrev pub invariant-loop-left : goal.invariant-loop-left
invariant-loop-left g l = record {
  table : IsTable record { compare = g.R.Key.Ord.cmp; key = g.R.Keyed.key } l.table.entries;
  rows : rows_of l.table.entries ≡ drop l.left l.rows;
  within : l.left ≤ length l.rows;
}

abbrev pub decreases-loop-left : goal.decreases-loop-left
decreases-loop-left g l = l.left
