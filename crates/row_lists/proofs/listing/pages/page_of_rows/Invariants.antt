use Rattle.std.proofs.Common.{◌≡◌, map, take}
use Rattle.row_lists.proofs.listing.pages.page_of_rows.Given as goal

abbrev pub invariant-loop-row : goal.invariant-loop-row
invariant-loop-row g l = l.page ≡ map g.T.TableRow.row_of (take l.row-index l.row-items)
