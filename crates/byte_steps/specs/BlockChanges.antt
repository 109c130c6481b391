-- Changes of blocks: of places, block rows, objects and parameters, and of nothing else.
use Rattle.std.specs.Prelude.{Bool, true, false}
use Rattle.s3_rows.specs.declared.change.Change.{Change}
use Rattle.s3_rows.specs.declared.change.Change.TheVariants as changes

-- the change is of a place, a block, an object or the parameters
abbrev pub is_of_blocks : Change → Bool
is_of_blocks (changes.PutInodeBlock r) = true
is_of_blocks (changes.DeleteInodeBlock inode blockno) = true
is_of_blocks (changes.PutBlock r) = true
is_of_blocks (changes.DeleteBlock id) = true
is_of_blocks (changes.PutObject r) = true
is_of_blocks (changes.DeleteObject id) = true
is_of_blocks (changes.SetParams p) = true
is_of_blocks _ = false
