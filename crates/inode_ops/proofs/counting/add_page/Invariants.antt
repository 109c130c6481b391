use Rattle.std.proofs.Common.{◌≡◌, IsTrue, drop}
use Rattle.std.specs.List.{list_all}
use Rattle.inode_ops.specs.Tallies.{has_short_key, with_rows}
use Rattle.inode_ops.proofs.counting.add_page.Given as goal

-- the rows that are left make of the tally what all make of the first
abbrev pub invariant-loop-row : goal.invariant-loop-row
invariant-loop-row l = record {
  added : with_rows l.tally (drop l.row-index l.rows) ≡ with_rows l.fn.tally l.rows;
  short : IsTrue (list_all has_short_key (drop l.row-index l.rows)) → IsTrue (list_all has_short_key l.rows);
}
