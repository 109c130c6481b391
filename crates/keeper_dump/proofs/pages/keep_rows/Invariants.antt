use Rattle.std.proofs.Common.{◌≡◌, ◌++◌}
use Rattle.std.specs.List.{filter_map}
use Rattle.keeper_dump.proofs.pages.keep_rows.Given as goal

-- the rows of so much of the page are appended
abbrev pub invariant-loop-row : goal.invariant-loop-row
invariant-loop-row g l = l.rows ≡ l.fn.rows ++ filter_map g.T.KeptRow.kept.unwrap l.yielded
