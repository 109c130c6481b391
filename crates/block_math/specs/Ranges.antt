-- The blocks that a range of a file touches, and the part of the range that lies in each.
use Rattle.std.specs.Prelude.{◌≡◌, ℕ, ◌+◌, ◌-◌, ◌*◌, ◌/◌, ◌<◌, ◌≤◌, min, ◌==◌, if◌then◌else◌}
use Rattle.block_math.specs.declared.parts.Piece.{Piece}

-- how many blocks a range touches
abbrev pub piece_count : ℕ → ℕ → ℕ → ℕ
piece_count off len size = if len == 0 then 0 else (off + len - 1) / size + 1 - off / size

-- where in the range its k-th block begins; the first one may begin before it
abbrev pub piece_start : ℕ → ℕ → ℕ → ℕ
piece_start off size k = (off / size + k) * size - off

-- the k-th piece of the range: the part that lies in the k-th block that it touches, some bytes, up to the next block's beginning or
-- the end of the range
pub record IsPiece (off len size k : ℕ) (p : Piece) : Type 0 where
  pub blockno : p.blockno ≡ off / size + k
  pub from : p.from ≡ piece_start off size k
  pub until : p.from + p.len ≡ min len (piece_start off size (k + 1))
  pub place : p.blockno * size + p.at ≡ off + p.from
  pub within : p.at + p.len ≤ size
  pub some : 0 < p.len
