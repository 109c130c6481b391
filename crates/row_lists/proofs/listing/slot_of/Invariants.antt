use Rattle.std.proofs.Common.{◌≡◌, ◌&&◌, ◌==◌, drop}
use Rattle.std.specs.List.{find}
use Rattle.row_lists.proofs.listing.slot_of.Given as goal

abbrev pub invariant-loop-row : goal.invariant-loop-row
invariant-loop-row l = find (λ r. r.inode == l.inode && r.blockno == l.blockno) l.slots ≡ find (λ r. r.inode == l.inode && r.blockno == l.blockno) (drop l.row-index l.slots)
