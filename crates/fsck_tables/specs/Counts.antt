-- The pass of a check on counts: each stored count becomes the listed one, and names and blocks that nothing names go. `count` is how
-- often the row of a number is named.
use Rattle.std.specs.Prelude.{ℕ, ◌==◌, ◌&&◌, count_by, not, if◌then◌else◌}
use Rattle.s3_rows.specs.declared.change.Change.{Change}
use Rattle.s3_rows.specs.declared.change.Change.TheVariants as changes
use Rattle.s3_rows.specs.Rows.{Inode, Name, Block, Object}
use Rattle.s3_rows.specs.Tables.{Tables}
use Rattle.s3_rows.specs.Counts.{listed_inode_count, listed_name_count, listed_block_count}
use Rattle.fsck_findings.specs.declared.finding.Finding.TheVariants as findings
use Rattle.fsck_findings.specs.declared.finding.Numbered.{Numbered}
use Rattle.fsck_findings.specs.declared.finding.Numbered.TheVariants as numbered
use Rattle.fsck_findings.specs.Found.{Found, found, found_if, each_found, ◌then_also◌}

-- a count that is not the listed one becomes it
abbrev pub about_count : Numbered → ℕ → ℕ → ℕ → Change → Found
about_count table id was now put = found_if (not (was == now)) put (findings.Count table id was now)

-- the same, but a row that nothing names goes
abbrev pub about_use : Numbered → ℕ → ℕ → ℕ → Change → Change → Found
about_use table id was now delete put = if now == 0 then found delete (findings.Removed table id) else about_count table id was now put

abbrev pub about_inode : (ℕ → ℕ) → Inode → Found
about_inode count r = about_count numbered.Inode r.id r.refcount (count r.id) (changes.PutInode (record r { refcount = count r.id }))

abbrev pub about_name : (ℕ → ℕ) → Name → Found
about_name count r =
    about_use numbered.Name r.id r.refcount (count r.id) (changes.DeleteName r.id) (changes.PutName (record r { refcount = count r.id }))

abbrev pub about_block : (ℕ → ℕ) → Block → Found
about_block count r =
    about_use numbered.Block r.id r.refcount (count r.id) (changes.DeleteBlock r.id) (changes.PutBlock (record r { refcount = count r.id }))

abbrev pub about_object : (ℕ → ℕ) → Object → Found
about_object count r = about_count numbered.Object r.id r.refcount (count r.id) (changes.PutObject (record r { refcount = count r.id }))

-- the blocks of the object that stay
abbrev pub kept_object_count : Tables → ℕ → ℕ
kept_object_count t id = count_by (λ r. r.object == id && not (listed_block_count t r.id == 0)) t.blocks

-- objects are counted after the blocks that go
abbrev pub repaired_counts : Tables → Found
repaired_counts t =
    each_found (about_inode (listed_inode_count t)) t.inodes then_also each_found (about_name (listed_name_count t)) t.names
    then_also each_found (about_block (listed_block_count t)) t.blocks then_also each_found (about_object (kept_object_count t)) t.objects
