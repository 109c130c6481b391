-- What the last change of a row says of it.
use Rattle.std.specs.Prelude.{ℕ, List, Option, None, Some, if◌then◌else◌}
use Rattle.std.specs.Ordering.{is_eq}
use Rattle.s3_rows.specs.declared.change.Change.{Change}
use Rattle.s3_rows.specs.declared.change.Change.TheVariants as changes
use Rattle.s3_rows.specs.Rows.{Inode, Name, InodeBlock, Block, Object, Parameters}
use Rattle.s3_rows.specs.Selections.{bytes_cmp}

-- the inode that a change puts
abbrev pub inode_put : Change → Option Inode
inode_put (changes.PutInode r) = Some r
inode_put _ = None

-- the name that a change puts
abbrev pub name_put : Change → Option Name
name_put (changes.PutName r) = Some r
name_put _ = None

-- the link of a place that a change puts
abbrev pub link_put : Change → Option InodeBlock
link_put (changes.PutInodeBlock r) = Some r
link_put _ = None

-- the block that a change puts
abbrev pub block_put : Change → Option Block
block_put (changes.PutBlock r) = Some r
block_put _ = None

-- the object that a change puts
abbrev pub object_put : Change → Option Object
object_put (changes.PutObject r) = Some r
object_put _ = None

-- the parameters that a change sets
abbrev pub params_set : Change → Option Parameters
params_set (changes.SetParams p) = Some p
params_set _ = None

-- the name, where it has these bytes
abbrev pub with_bytes : List ℕ → Option Name → Option Name
with_bytes bytes None = None
with_bytes bytes (Some n) = if is_eq (bytes_cmp n.name bytes) then Some n else None
