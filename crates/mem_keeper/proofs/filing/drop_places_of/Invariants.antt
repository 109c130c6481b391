use Rattle.std.proofs.Common.{length}
use Rattle.mem_keeper.specs.Filed.{AllFiled}
use Rattle.mem_keeper.specs.Table.{rows_of}
use Rattle.mem_keeper.proofs.filing.drop_places_of.Given as goal

abbrev pub invariant-loop-place : goal.invariant-loop-place
invariant-loop-place g l = AllFiled g.R.Keyed.key l.filing (rows_of l.names.map.entries) (rows_of l.table.entries)

abbrev pub decreases-loop-place : goal.decreases-loop-place
decreases-loop-place g l = length l.places.items
