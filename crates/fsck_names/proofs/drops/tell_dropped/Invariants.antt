use Rattle.std.proofs.Common.{◌≡◌, ◌++◌, drop, map}
use Rattle.fsck_findings.specs.Line.{line_of}
use Rattle.fsck_names.specs.Entries.{delete_entry, dropped}
use Rattle.fsck_names.proofs.drops.tell_dropped.Given as goal

-- what was added, and what is to come
abbrev pub invariant-loop-row : goal.invariant-loop-row
invariant-loop-row l = record {
  batch : l.repair.batch ++ map delete_entry (drop l.row-index l.gone) ≡ l.fn.repair.batch ++ map delete_entry l.gone;
  findings : l.repair.findings ++ map line_of (map (dropped l.tables) (drop l.row-index l.gone)) ≡ l.fn.repair.findings ++ map line_of (map (dropped l.tables) l.gone);
}
