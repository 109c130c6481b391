use Rattle.std.proofs.Common.{◌≡◌, ◌-◌}
use Rattle.s3_rows.specs.declared.table_rows.RowKey.TheVariants as keys
use Rattle.frame_fields.specs.Unread.{rest_of}
use Rattle.keeper_dump.specs.Part.{rows_after}
use Rattle.keeper_dump.proofs.PartLaws.{with_rows}
use Rattle.keeper_dump.proofs.table.rows_of.Given as goal

-- those that are taken, and then the others, are all
abbrev pub invariant-loop-taken : goal.invariant-loop-taken
invariant-loop-taken g l =
    let f = g.T.TableRow.format in
    rows_after f l.fn.count keys.Start (rest_of l.fn.unread) ≡ with_rows f l.rows (rows_after f (l.fn.count - l._taken) l.before (rest_of l.rest))
