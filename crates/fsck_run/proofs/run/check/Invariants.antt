use Rattle.std.proofs.Common.{◌≤◌}
use Rattle.fsck_run.specs.Starts.{OverTold}
use Rattle.fsck_run.proofs.CheckSteps.{IsUnderCheck}
use Rattle.fsck_run.proofs.run.check.Given as goal

-- no count of faults fell, and so many steps are made
abbrev pub invariant-loop-step : goal.invariant-loop-step
invariant-loop-step g l = record {
  keeper : g.K.Keeper.faults l.fn.keeper ≤ g.K.Keeper.faults l.keeper;
  link : g.L.Link.faults l.fn.link ≤ g.L.Link.faults l.link;
  under : OverTold (g.K.Keeper.told l.fn.keeper) (g.L.Link.told l.fn.link) (λ t o. IsUnderCheck t o l.check (g.K.Keeper.told l.keeper) (g.L.Link.told l.link));
}
