use Rattle.std.proofs.Common.{◌≡◌, ◌<◌, ◌^◌, drop, map, max}
use Rattle.fsck_names.specs.Numbers.{greatest}
use Rattle.fsck_names.proofs.numbers.greatest_of.Given as goal

-- the greatest so far, and those to come
abbrev pub invariant-loop-row : goal.invariant-loop-row
invariant-loop-row g l =
    let number = g.C.Column.number in
    record {
      value : max l.found (greatest (map number (drop l.row-index l.rows))) ≡ max l.least (greatest (map number l.rows));
      below : l.found < 2 ^ 62;
    }
