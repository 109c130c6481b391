use Rattle.std.proofs.Common.{◌≡◌, ◌++◌, filter, length}
use Rattle.mem_keeper.specs.Table.{rows_of}
use Rattle.mem_keeper.proofs.table.rows_passing.Given as goal

abbrev pub invariant-loop-held : goal.invariant-loop-held
invariant-loop-held g l =
    l.rows.items ++ filter (g.S.Sought.passes l.sought) (rows_of l.entries)
    ≡ filter (g.S.Sought.passes l.sought) (rows_of l.initial.entries)

abbrev pub decreases-loop-held : goal.decreases-loop-held
decreases-loop-held g l = length l.entries
