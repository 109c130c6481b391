use Rattle.std.proofs.Common.{◌≡◌, All, length}
use Rattle.dump_growth.specs.Growth.{IsLetter}
use Rattle.dump_growth.proofs.growth.scattered.Given as goal

-- as many letters as turns were taken
abbrev pub invariant-loop : goal.invariant-loop
invariant-loop l = record { count : length l.bytes ≡ l.counter; letters : All IsLetter l.bytes }
