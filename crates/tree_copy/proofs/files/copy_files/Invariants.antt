use Rattle.std.proofs.Common.{◌≡◌, ◌≤◌, ◌+◌, drop}
use Rattle.s3_rows.specs.Tables.{IsOrdered}
use Rattle.s3_rows.specs.Told.{IfTold}
use Rattle.tree_copy.proofs.FilesInTurn.{AreInodesLeft}
use Rattle.tree_copy.proofs.files.copy_files.Given as goal

-- the inodes from the next on are left
abbrev pub invariant-loop-inode : goal.invariant-loop-inode
invariant-loop-inode g l = record {
  told : g.K.Keeper.told l.keeper ≡ g.K.Keeper.told l.fn.keeper;
  later : g.K.Keeper.faults l.fn.keeper ≤ g.K.Keeper.faults l.keeper;
  number : l.copy ≡ l.fn.next + l.inode-index;
  left : IfTold (g.K.Keeper.told l.fn.keeper) (λ t. IsOrdered t → AreInodesLeft t l.copy (drop l.inode-index l.seen) l.fn.next l.seen l.fn.batch l.batch);
}
