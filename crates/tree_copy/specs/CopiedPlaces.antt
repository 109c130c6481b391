-- The places of copied files: each names the block of the same place of the file that is copied, which counts one place more.
use Rattle.std.specs.Prelude.{ℕ, ◌+◌, ◌^◌, List, [], ◌∷◌, ◌++◌, Bool, true, false, ◌&&◌, nat_lt, Option, None, Some}
use Rattle.plain_tree.specs.Subtrees.{copy_number}
use Rattle.s3_rows.specs.declared.change.Change.{Change}
use Rattle.s3_rows.specs.declared.change.Change.TheVariants as changes
use Rattle.s3_rows.specs.Batches.{tables_after}
use Rattle.s3_rows.specs.Rows.{Block, InodeBlock}
use Rattle.s3_rows.specs.Selections.{block_at}
use Rattle.s3_rows.specs.Tables.{Tables}
use Rattle.ref_counts.specs.Links.{places_from}

-- the same place of another file
abbrev pub moved_place : ℕ → InodeBlock → InodeBlock
moved_place id r = record r { inode = id }

-- its block counts one place more
abbrev pub place_changes : ℕ → InodeBlock → Option Block → List Change
place_changes id r None = []
place_changes id r (Some b) = changes.PutBlock (record b { refcount = b.refcount + 1 }) ∷ changes.PutInodeBlock (moved_place id r) ∷ []

abbrev pub place_copied : ℕ → InodeBlock → Tables → List Change
place_copied id r t = place_changes id r (block_at t r.block)

-- the places of a file, one after the other
abbrev pub file_copied : ℕ → List InodeBlock → Tables → List Change
file_copied id [] t = []
file_copied id (r ∷ rows) t = place_copied id r t ++ file_copied id rows (tables_after (place_copied id r t) t)

-- those of all inodes that were seen
abbrev pub files_copied : Tables → ℕ → List ℕ → List ℕ → Tables → List Change
files_copied told next seen [] t = []
files_copied told next seen (x ∷ xs) t =
    file_copied (copy_number next seen x) (places_from told x 0) t
    ++ files_copied told next seen xs (tables_after (file_copied (copy_number next seen x) (places_from told x 0) t) t)

-- ---- whether all blocks may count one place more

abbrev pub block_fits : Option Block → Bool
block_fits None = false
block_fits (Some b) = nat_lt (b.refcount + 1) (2 ^ 62)

abbrev pub file_fits : ℕ → List InodeBlock → Tables → Bool
file_fits id [] t = true
file_fits id (r ∷ rows) t = block_fits (block_at t r.block) && file_fits id rows (tables_after (place_copied id r t) t)

abbrev pub files_fit : Tables → ℕ → List ℕ → List ℕ → Tables → Bool
files_fit told next seen [] t = true
files_fit told next seen (x ∷ xs) t =
    file_fits (copy_number next seen x) (places_from told x 0) t
    && files_fit told next seen xs (tables_after (file_copied (copy_number next seen x) (places_from told x 0) t) t)
