use Rattle.std.proofs.Common.{◌≡◌, take}
use Rattle.s3_rows.proofs.batch.BatchClone.clone.Given as goal

-- the copy has the changes so far
abbrev pub invariant-loop-change : goal.invariant-loop-change
invariant-loop-change l = l.copy ≡ take l.change-index l.self
