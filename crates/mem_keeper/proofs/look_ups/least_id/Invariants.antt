use Rattle.std.proofs.Common.{take}
use Rattle.mem_keeper.specs.Index.{row_has_bytes, IsLeast}
use Rattle.mem_keeper.specs.Table.{rows_of}
use Rattle.std.specs.Ordering.{nat_cmp}
use Rattle.mem_keeper.proofs.look_ups.least_id.Given as goal

abbrev pub invariant-loop-id : goal.invariant-loop-id
invariant-loop-id g l = IsLeast (row_has_bytes record { compare = nat_cmp; key = g.R.Keyed.key } g.R.Indexed.bytes (rows_of l.table.entries) l.bytes) (take l.id-index l.ids) l.least
