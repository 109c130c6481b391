use Rattle.std.proofs.Common.{◌≡◌, ◌≤◌, ◌++◌, drop}
use Rattle.s3_rows.specs.Batches.{tables_after}
use Rattle.s3_rows.specs.Told.{IfTold}
use Rattle.block_steps.specs.Places.{places_relinked}
use Rattle.file_ops.specs.Placed.{links_of}
use Rattle.file_ops.proofs.placing.relink_places.Given as goal

-- what is added for the places that are left makes of the batch what is added for all makes of the first
abbrev pub invariant-loop-i : goal.invariant-loop-i
invariant-loop-i g l = record {
  told : g.K.Keeper.told l.keeper ≡ g.K.Keeper.told l.fn.keeper;
  later : g.K.Keeper.faults l.fn.keeper ≤ g.K.Keeper.faults l.keeper;
  partly :
      IfTold (g.K.Keeper.told l.fn.keeper) (λ t.
      l.batch ++ places_relinked l.inode (links_of (drop l.i l.blocks) (drop l.i l.places)) (tables_after l.batch t)
      ≡ l.fn.batch ++ places_relinked l.inode (links_of l.blocks l.places) (tables_after l.fn.batch t));
}
