use Rattle.std.proofs.Common.{◌≡◌, ◌++◌, drop, map}
use Rattle.fsck_findings.specs.Line.{line_of}
use Rattle.fsck_names.specs.Losses.{delete_place, lost_block}
use Rattle.fsck_names.proofs.lost_places.tell_lost.Given as goal

-- what was added, and what is to come
abbrev pub invariant-loop-row : goal.invariant-loop-row
invariant-loop-row l = record {
  batch : l.repair.batch ++ map delete_place (drop l.row-index l.gone) ≡ l.fn.repair.batch ++ map delete_place l.gone;
  findings : l.repair.findings ++ map line_of (map lost_block (drop l.row-index l.gone)) ≡ l.fn.repair.findings ++ map line_of (map lost_block l.gone);
}
