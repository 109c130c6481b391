use Rattle.std.proofs.Common.{◌≡◌, take}
use Rattle.metadata_backup.specs.Survey.{greatest}
use Rattle.metadata_backup.proofs.generations.greatest.Given as goal

abbrev pub invariant-loop-number : goal.invariant-loop-number
invariant-loop-number l = l.found ≡ greatest (take l.number-index l.numbers)
