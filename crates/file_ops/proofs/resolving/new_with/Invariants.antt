use Rattle.std.proofs.Common.{◌≡◌, drop}
use Rattle.file_ops.specs.Resolved.{new_with}
use Rattle.file_ops.proofs.resolving.new_with.Given as goal

-- no place so far has the digest
abbrev pub invariant-loop-place : goal.invariant-loop-place
invariant-loop-place l = new_with l.fn.digest (drop l.place-index l.places) ≡ new_with l.fn.digest l.places
