use Rattle.std.proofs.Common.{◌≡◌, false, length}
use Rattle.fsck_names.specs.Entries.{above}
use Rattle.fsck_names.proofs.Loops.{closes}
use Rattle.fsck_names.proofs.parents.is_least_of_loop.Given as goal

-- what is left of the walk says what the whole of it does
abbrev pub invariant-loop-left : goal.invariant-loop-left
invariant-loop-left l =
    closes l.met l.inode (above l.left l.tables l.at) ≡ closes false l.inode (above (length l.tables.inodes) l.tables l.inode)

abbrev pub decreases-loop-left : goal.decreases-loop-left
decreases-loop-left l = l.left
