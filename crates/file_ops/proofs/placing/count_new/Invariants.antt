use Rattle.std.proofs.Common.{◌≡◌, take, count_by}
use Rattle.file_ops.specs.Resolved.{is_new}
use Rattle.file_ops.proofs.placing.count_new.Given as goal

-- so many of the places so far are of new blocks
abbrev pub invariant-loop-place : goal.invariant-loop-place
invariant-loop-place l = l.count ≡ count_by is_new (take l.place-index l.places)
