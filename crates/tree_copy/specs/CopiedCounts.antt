-- How many places of copied files name a block.
use Rattle.std.specs.Prelude.{ℕ, ◌==◌, List, count_by}
use Rattle.s3_rows.specs.Tables.{Tables}
use Rattle.ref_counts.specs.Links.{places_of}

-- how many places of some inodes name the block
abbrev pub copied_block_count : Tables → List ℕ → ℕ → ℕ
copied_block_count t inodes id = count_by (λ r. r.block == id) (places_of t inodes)
