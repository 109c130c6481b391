use Rattle.std.proofs.Common.{◌≡◌, ◌≤◌, ◌++◌, drop, option_map}
use Rattle.s3_rows.specs.Batches.{tables_after}
use Rattle.s3_rows.specs.Told.{IfTold}
use Rattle.file_ops.specs.Placed.{places_counted}
use Rattle.file_ops.proofs.placing.count_places.Given as goal

-- what is added for the places that are left makes of the batch what is added for all makes of the first
abbrev pub invariant-loop-place : goal.invariant-loop-place
invariant-loop-place g l = record {
  told : g.K.Keeper.told l.keeper ≡ g.K.Keeper.told l.fn.keeper;
  later : g.K.Keeper.faults l.fn.keeper ≤ g.K.Keeper.faults l.keeper;
  partly :
      IfTold (g.K.Keeper.told l.fn.keeper) (λ t.
      option_map (λ more. l.batch ++ more) (places_counted l.fn.params (drop l.place-index l.places) (tables_after l.batch t))
      ≡ option_map (λ more. l.fn.batch ++ more) (places_counted l.fn.params l.places (tables_after l.fn.batch t)));
}
