use Rattle.std.proofs.Common.{◌≡◌, ◌++◌, map}
use Rattle.metadata_backup.proofs.changed_rows.put_rows.Given as goal

-- so many rows are put
abbrev pub invariant-loop-row : goal.invariant-loop-row
invariant-loop-row g l = l.batch ≡ l.fn.batch ++ map g.T.ChangedRow.changes.put_of l.yielded
