use Rattle.std.proofs.Common.{◌≡◌, ◌≤◌, ◌-◌, ◌^◌}
use Rattle.s3_rows.specs.Tables.{IsOrdered}
use Rattle.s3_rows.specs.Told.{IfTold}
use Rattle.tree_copy.proofs.PlacesInTurn.{IsLeft}
use Rattle.tree_copy.proofs.places.copy_places.Given as goal

-- the places from the next on are left
abbrev pub invariant-places : goal.invariant-places
invariant-places g l = record {
  told : g.K.Keeper.told l.keeper ≡ g.K.Keeper.told l.fn.keeper;
  later : g.K.Keeper.faults l.fn.keeper ≤ g.K.Keeper.faults l.keeper;
  left : IfTold (g.K.Keeper.told l.fn.keeper) (λ t. IsOrdered t → IsLeft t l.file l.copy l.next l.fn.batch l.batch);
}

abbrev pub decreases-places : goal.decreases-places
decreases-places g l = 2 ^ 64 - l.next
