use Rattle.std.proofs.Common.{◌≡◌, max, drop}
use Rattle.fsck_run.specs.Refusals as refusals
use Rattle.fsck_run.proofs.start.newest_in.Given as goal

abbrev pub invariant-loop-item : goal.invariant-loop-item
invariant-loop-item l = max l.newest (refusals.newest (drop l.item-index l.keys)) ≡ refusals.newest l.keys
