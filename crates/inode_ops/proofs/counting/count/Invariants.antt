use Rattle.std.proofs.Common.{◌≡◌, ◌≤◌, IsTrue}
use Rattle.s3_rows.specs.Tables.{IsOrdered}
use Rattle.s3_rows.specs.Selections.{fits_key, rows_of}
use Rattle.s3_rows.specs.Told.{IfTold}
use Rattle.inode_ops.specs.Tallies.{is_short}
use Rattle.inode_ops.proofs.Counted.{IsPartly, left_after}
use Rattle.inode_ops.proofs.counting.count.Given as goal

-- the keeper tells what it did, and what is counted and what is left is all
abbrev pub invariant-pages : goal.invariant-pages
invariant-pages g l = record {
  told : g.K.Keeper.told l.keeper ≡ g.K.Keeper.told l.fn.keeper;
  later : g.K.Keeper.faults l.fn.keeper ≤ g.K.Keeper.faults l.keeper;
  fits : IsTrue (fits_key l.table l.tally.after);
  short : IsTrue (is_short l.tally.after);
  partly : IfTold (g.K.Keeper.told l.fn.keeper) (λ t. IsOrdered t → IsPartly (rows_of t l.table) l.tally);
}

abbrev pub decreases-pages : goal.decreases-pages
decreases-pages g l = left_after l.tally.after
