-- What the rows say of one block of a file.
use Rattle.std.specs.Prelude.{ℕ, List, Option, option_and_then, option_map}
use Rattle.s3_rows.specs.Rows.{Block}
use Rattle.s3_rows.specs.Tables.{Tables}
use Rattle.s3_rows.specs.Selections.{inode_block_at, block_at}

-- digest and length of the stored form of a block
abbrev pub form_of_row : Block → List ℕ × ℕ
form_of_row b = (b.digest.0, b.size)

-- those of the block that lies at a place of a file; none where no row names one
abbrev pub form_at : Tables → ℕ → ℕ → Option (List ℕ × ℕ)
form_at t inode blockno = option_and_then (λ r. option_map form_of_row (block_at t r.block)) (inode_block_at t inode blockno)
