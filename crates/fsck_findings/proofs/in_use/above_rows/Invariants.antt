use Rattle.std.proofs.Common.{◌≡◌, ◌≤◌, ◌^◌, max, map, drop}
use Rattle.fsck_findings.specs.Work.{above}
use Rattle.fsck_findings.proofs.in_use.above_rows.Given as goal

abbrev pub invariant-loop-row : goal.invariant-loop-row
invariant-loop-row g l = record {
  above : max l.free (above (map g.C.Column.number (drop l.row-index l.rows))) ≡ max l.least (above (map g.C.Column.number l.rows));
  small : l.free ≤ 2 ^ 62;
  positive : l.least ≤ l.free;
}
