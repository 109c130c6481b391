use Rattle.std.proofs.Common.{◌≡◌, ◌≤◌, Some}
use Rattle.fsck_run.specs.Check.{step_after}
use Rattle.fsck_run.specs.Progress.{progress_of}
use Rattle.fsck_run.specs.Starts.{OverTold}
use Rattle.fsck_run.proofs.stages.Check.step.Given as goal

-- no count of faults fell, and the step goes on with nothing changed
abbrev pub invariant-loop-stage : goal.invariant-loop-stage
invariant-loop-stage g l = record {
  keeper : g.K.Keeper.faults l.fn.keeper ≤ g.K.Keeper.faults l.keeper;
  link : g.L.Link.faults l.fn.link ≤ g.L.Link.faults l.link;
  tables : OverTold (g.K.Keeper.told l.fn.keeper) (g.L.Link.told l.fn.link) (λ t o. g.K.Keeper.told l.keeper ≡ Some t);
  store : OverTold (g.K.Keeper.told l.fn.keeper) (g.L.Link.told l.fn.link) (λ t o. g.L.Link.told l.link ≡ Some o);
  step : OverTold (g.K.Keeper.told l.fn.keeper) (g.L.Link.told l.fn.link)
      (λ t o. step_after (progress_of l.fn.self t o) ≡ step_after (progress_of l.self t o));
}
