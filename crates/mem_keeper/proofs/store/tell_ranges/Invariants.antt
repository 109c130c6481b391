use Rattle.std.proofs.Common.{All, take}
use Rattle.mem_keeper.proofs.store.tell_ranges.Given as goal

abbrev pub invariant-loop-row : goal.invariant-loop-row
invariant-loop-row g l = All g.R.Keyed.fits (take l.row-index l.rows)
