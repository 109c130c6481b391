use Rattle.std.proofs.Common.{◌≡◌, ◌++◌, drop, map}
use Rattle.fsck_names.specs.Entries.{delete_entry}
use Rattle.fsck_names.proofs.drops.tell_deleted.Given as goal

-- what was added, and what is to come
abbrev pub invariant-loop-row : goal.invariant-loop-row
invariant-loop-row l = record {
  batch : l.repair.batch ++ map delete_entry (drop l.row-index l.gone) ≡ l.fn.repair.batch ++ map delete_entry l.gone;
  findings : l.repair.findings ≡ l.fn.repair.findings;
}
