use Rattle.std.proofs.Common.{◌≡◌, ◌+◌, length}
use Rattle.s3_rows.specs.Rows.{IsText}
use Rattle.fsck_names.specs.Entries.{moved_name, free_from}
use Rattle.fsck_names.proofs.moves.free_name.Given as goal

-- from this number on the first name that is free is that of all
abbrev pub invariant-loop-more : goal.invariant-loop-more
invariant-loop-more l = record {
  tries : l.number + l.more ≡ length l.tables.contents;
  name : l.name ≡ moved_name l.inode l.number;
  text : IsText 255 l.name;
  first : free_from l.more l.tables l.parent l.inode l.number ≡ free_from (length l.tables.contents) l.tables l.parent l.inode 0;
}

abbrev pub decreases-loop-more : goal.decreases-loop-more
decreases-loop-more l = l.more
