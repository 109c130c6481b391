use Rattle.std.proofs.Common.{◌≡◌, ◌++◌, length, take, flat_map}
use Rattle.frame_fields.specs.Fields.{u64_field}
use Rattle.keeper_dump.proofs.table.put_table.Given as goal

-- so many rows are written
abbrev pub invariant-loop-row : goal.invariant-loop-row
invariant-loop-row g l =
    l.out ≡ (l.fn.out ++ u64_field.spell (length l.rows)) ++ flat_map g.T.TableRow.format.fields.spell (take l.row-index l.rows)
