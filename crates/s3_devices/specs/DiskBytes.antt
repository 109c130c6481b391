-- The bytes of a disk, from its first on. Past the end all bytes are zero.
use Rattle.std.specs.Prelude.{◌≡◌, ℕ, ◌+◌, ◌<◌, ◌≤◌, List, length, max, slice_index}

-- the buffer has the bytes from a place on
abbrev pub IsRead : ℕ → List ℕ → List ℕ → Type 0
IsRead at buffer disk = (i : ℕ) → i < length buffer → slice_index buffer i ≡ slice_index disk (at + i)

-- a write that was refused or cut off: so many bytes from a place on are anything, and all others stay. The disk may have grown up
-- to the end of the write
pub record KeepsOutside (at count : ℕ) (before after : List ℕ) : Type 0 where
  pub below : (i : ℕ) → i < at → slice_index after i ≡ slice_index before i
  pub above : (i : ℕ) → at + count ≤ i → slice_index after i ≡ slice_index before i
  pub longer : length before ≤ length after
  pub within : length after ≤ max (length before) (at + count)

-- the bytes stand from a place on, and all others stay. The disk reaches to the end of the write at least
pub record IsWritten (at : ℕ) (bytes : List ℕ) (before after : List ℕ) : Type 0 where
  pub written : (i : ℕ) → i < length bytes → slice_index after (at + i) ≡ slice_index bytes i
  pub outside : KeepsOutside at (length bytes) before after
  pub reaches : at + length bytes ≤ length after
