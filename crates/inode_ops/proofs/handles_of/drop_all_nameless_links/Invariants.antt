use Rattle.std.proofs.Common.{◌≡◌, ◌≤◌, ◌++◌, drop}
use Rattle.s3_rows.specs.Tables.{IsOrdered}
use Rattle.s3_rows.specs.Batches.{tables_after}
use Rattle.s3_rows.specs.Told.{IfTold}
use Rattle.ref_counts.specs.Links.{places_dropped, places_of}
use Rattle.inode_ops.specs.Nameless.{nameless}
use Rattle.inode_ops.proofs.handles_of.drop_all_nameless_links.Given as goal

-- what is added for the inodes that are left makes of the batch what is added for all
abbrev pub invariant-loop-inode : goal.invariant-loop-inode
invariant-loop-inode g l = record {
  told : g.K.Keeper.told l.keeper ≡ g.K.Keeper.told l.fn.keeper;
  later : g.K.Keeper.faults l.fn.keeper ≤ g.K.Keeper.faults l.keeper;
  partly :
      IfTold (g.K.Keeper.told l.fn.keeper) (λ t. IsOrdered t
      → l.batch ++ places_dropped (places_of t (nameless t (drop l.inode-index l.inodes))) (tables_after l.batch t) ≡ places_dropped (places_of t (nameless t l.inodes)) t);
}
