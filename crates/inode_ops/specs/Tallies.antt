-- What is counted over the rows of a table.
use Rattle.std.specs.Prelude.{◌≡◌, ℕ, ◌+◌, ◌^◌, ◌==◌, List, [], ◌∷◌, length, filter, sum_by, Bool, true, ◌&&◌, nat_lt, if◌then◌else◌}
use Rattle.plain_tree.specs.Attributes.{at_most_u64}
use Rattle.s3_rows.specs.declared.table_rows.Row.{Row}
use Rattle.s3_rows.specs.declared.table_rows.Row.TheVariants as rows
use Rattle.s3_rows.specs.declared.table_rows.RowKey.{RowKey}
use Rattle.s3_rows.specs.declared.table_rows.RowKey.TheVariants as keys
use Rattle.s3_rows.specs.Told.{key_of_row}
use Rattle.s3_rows.specs.Validity.{is_regular}
use Rattle.s3_rows.specs.Tables.{Tables}
use Rattle.inode_ops.specs.declared.counting.Tally.{Tally}
use Rattle.inode_ops.specs.declared.row_stats.RowStats.{RowStats}

-- the bytes of a regular file, and 1 for an object that no block has
abbrev pub weight_of_row : Row → ℕ
weight_of_row (rows.Inode r) = if is_regular r.kind then r.size else 0
weight_of_row (rows.Object r) = if r.refcount == 0 then 1 else 0
weight_of_row _ = 0

-- with one more row, and with rows in order
abbrev pub with_row : Tally → Row → Tally
with_row c r = record { rows = at_most_u64 (c.rows + 1); weight = at_most_u64 (c.weight + weight_of_row r); after = key_of_row r }

abbrev pub with_rows : Tally → List Row → Tally
with_rows c [] = c
with_rows c (r ∷ rs) = with_rows (with_row c r) rs

-- all of these rows are counted, and weighed
abbrev pub IsCounted : List Row → Tally → Type 0
IsCounted all c = (c.rows ≡ at_most_u64 (length all)) × (c.weight ≡ at_most_u64 (sum_by weight_of_row all))

-- the rows of each of these tables are counted
pub record AreCounted (t : Tables) (s : RowStats) : Type 0 where
  pub inodes : s.inodes ≡ at_most_u64 (length t.inodes)
  pub entries : s.entries ≡ at_most_u64 (length t.contents)
  pub links : s.links ≡ at_most_u64 (length t.inode_blocks)
  pub blocks : s.blocks ≡ at_most_u64 (length t.blocks)
  pub objects : s.objects ≡ at_most_u64 (length t.objects)
  -- those that no block has
  pub free : s.free ≡ at_most_u64 (length (filter (λ o. o.refcount == 0) t.objects))

-- each part of a key is below 2^62
abbrev pub is_short : RowKey → Bool
is_short keys.Start = true
is_short (keys.One k) = nat_lt k (2 ^ 62)
is_short (keys.Two k l) = nat_lt k (2 ^ 62) && nat_lt l (2 ^ 62)

abbrev pub has_short_key : Row → Bool
has_short_key r = is_short (key_of_row r)
