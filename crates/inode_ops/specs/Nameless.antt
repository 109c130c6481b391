-- Inodes that no entry names.
use Rattle.std.specs.Prelude.{ℕ, ◌==◌, List, [], Bool, false, filter, Option, None, Some, if◌then◌else◌}
use Rattle.s3_rows.specs.declared.change.Change.{Change}
use Rattle.s3_rows.specs.Rows.{Inode, InodeBlock}
use Rattle.s3_rows.specs.Tables.{Tables}
use Rattle.s3_rows.specs.Selections.{inode_at}
use Rattle.ref_counts.specs.Links.{places_from}
use Rattle.ref_counts.specs.Removals.{removal}

-- there is a row, and it counts no entry
abbrev pub is_nameless : Option Inode → Bool
is_nameless None = false
is_nameless (Some r) = r.refcount == 0

-- those of the inodes that no entry names
abbrev pub nameless : Tables → List ℕ → List ℕ
nameless t inodes = filter (λ x. is_nameless (inode_at t x)) inodes

-- the changes by which an inode of told tables goes, where no entry names it; t has the names as they are by then
abbrev pub nameless_dropped : Tables → ℕ → Tables → List Change
nameless_dropped told inode t = if is_nameless (inode_at told inode) then removal told inode t else []

-- the places of an inode that no entry names
abbrev pub nameless_places : Tables → ℕ → List InodeBlock
nameless_places t inode = if is_nameless (inode_at t inode) then places_from t inode 0 else []
