use Rattle.std.proofs.Common.{◌≡◌, ◌≤◌, ◌-◌, ◌^◌, ◌++◌}
use Rattle.s3_rows.specs.Tables.{IsOrdered}
use Rattle.s3_rows.specs.Batches.{tables_after}
use Rattle.s3_rows.specs.Told.{IfTold}
use Rattle.ref_counts.specs.Links.{places_dropped, places_from}
use Rattle.ref_counts.proofs.places.drop_links.Given as goal

-- what is added for the places from the next on makes of the batch what is added for all makes of the first
abbrev pub invariant-places : goal.invariant-places
invariant-places g l = record {
  told : g.K.Keeper.told l.keeper ≡ g.K.Keeper.told l.fn.keeper;
  later : g.K.Keeper.faults l.fn.keeper ≤ g.K.Keeper.faults l.keeper;
  partly :
      IfTold (g.K.Keeper.told l.fn.keeper) (λ t. IsOrdered t
      → l.batch ++ places_dropped (places_from t l.inode l.next) (tables_after l.batch t)
      ≡ l.fn.batch ++ places_dropped (places_from t l.inode l.from) (tables_after l.fn.batch t));
}

abbrev pub decreases-places : goal.decreases-places
decreases-places g l = 2 ^ 64 - l.next
