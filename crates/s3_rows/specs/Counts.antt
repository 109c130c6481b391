-- How often each row is named by the others, counted afresh.
use Rattle.std.specs.Prelude.{ℕ, ◌+◌, ◌==◌, count_by, if◌then◌else◌}
use Rattle.s3_rows.specs.Tables.{Tables}

-- the entries that name the inode; the root counts 1
abbrev pub listed_inode_count : Tables → ℕ → ℕ
listed_inode_count t id = if id == 1 then 1 else count_by (λ r. r.inode == id) t.contents

-- the entries and the attributes that have the name
abbrev pub listed_name_count : Tables → ℕ → ℕ
listed_name_count t id = count_by (λ r. r.name_id == id) t.contents + count_by (λ r. r.name_id == id) t.attrs

-- the places in files that have the block
abbrev pub listed_block_count : Tables → ℕ → ℕ
listed_block_count t id = count_by (λ r. r.block == id) t.inode_blocks

-- the blocks that the object has
abbrev pub listed_object_count : Tables → ℕ → ℕ
listed_object_count t id = count_by (λ r. r.object == id) t.blocks
