-- Which inodes have places whose blocks have no row, gathered once.
use Rattle.std.specs.Prelude.{ℕ, ◌==◌, ◌&&◌, List, Bool, is_some}
use Rattle.std.specs.List.{list_any}
use Rattle.std.specs.Ordering.{nat_cmp}
use Rattle.std.specs.BTreeMap.{get}
use Rattle.s3_rows.specs.Rows.{InodeBlock}
use Rattle.s3_rows.specs.Tables.{Tables}
use Rattle.fsck_names.specs.Losses.{is_lost}
use Rattle.fsck_names.specs.declared.lost_places.Losing.{Losing}

abbrev pub is_in : Losing → ℕ → Bool
is_in losing id = is_some (get nat_cmp losing.inodes id)

-- the inode has one of these places, and it is lost
abbrev pub has_lost : Tables → List InodeBlock → ℕ → Bool
has_lost t places id = list_any (λ r. r.inode == id && is_lost t r) places
