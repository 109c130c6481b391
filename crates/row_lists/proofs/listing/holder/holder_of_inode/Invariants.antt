use Rattle.std.proofs.Common.{◌≡◌, ◌≤◌, ◌==◌, length, drop, filter}
use Rattle.s3_rows.specs.Keyed.{least}
use Rattle.row_lists.specs.Listing.{by_place}
use Rattle.row_lists.proofs.listing.holder.holder_of_inode.Given as goal

abbrev pub invariant-loop-left : goal.invariant-loop-left
invariant-loop-left g l = record {
  within : l.left ≤ length l.contents;
  least : l.holder ≡ least (by_place (g.N.NameTable.rows l.names)) (filter (λ r. r.inode == l.inode) (drop l.left l.contents));
}

abbrev pub decreases-loop-left : goal.decreases-loop-left
decreases-loop-left g l = l.left
