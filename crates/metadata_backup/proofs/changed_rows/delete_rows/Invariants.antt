use Rattle.std.proofs.Common.{◌≡◌, ◌++◌, ◌-◌, length, drop, map}
use Rattle.std.specs.Prelude.{reverse}
use Rattle.metadata_backup.proofs.changed_rows.delete_rows.Given as goal

-- so many rows from the end are deleted
abbrev pub invariant-loop-done : goal.invariant-loop-done
invariant-loop-done g l = l.batch ≡ l.fn.batch ++ map g.T.ChangedRow.changes.delete_of (reverse (drop (length l.rows - l.done) l.rows))
