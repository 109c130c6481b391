-- Which blocks of a file a call changes, and which it needs for it. All numbers of blocks rise.
use Rattle.std.specs.Prelude.{◌≡◌, ◌≤◌, ◌⊎◌, length, ℕ, zero, suc, ◌+◌, ◌-◌, ◌*◌, ◌/◌, ◌%◌, ◌==◌, min, List, [], ◌∷◌, ◌++◌, Bool, not, ◌&&◌, nat_lt, nat_le, if◌then◌else◌}
use Rattle.std.specs.List.{filter}
use Rattle.block_math.specs.Blocks.{piece_of}
use Rattle.block_math.specs.Changes.{resized}
use Rattle.block_math.specs.Ranges.{piece_count}

-- so many numbers from one on
abbrev pub numbers_from : ℕ → ℕ → List ℕ
numbers_from n zero = []
numbers_from n (suc count) = n ∷ numbers_from (n + 1) count

-- how many bytes of a file of this length lie in a block
abbrev pub rest_of : ℕ → ℕ → ℕ → ℕ
rest_of size len n = min size (len - n * size)

-- The last block of a file, where its stored form is longer than its rest: such bytes past the end are left by a crash. A file is
-- its length and the lengths of its stored forms.
abbrev pub tail_of : ℕ → ℕ → (ℕ → ℕ) → List ℕ
tail_of size len stored = if nat_lt (rest_of size len ((len - 1) / size)) (stored ((len - 1) / size)) && nat_lt 0 len then (len - 1) / size ∷ [] else []

-- the tail, where the file is lengthened and the tail comes before the first block of what is changed anyway
abbrev pub tail_before : ℕ → ℕ → ℕ → ℕ → (ℕ → ℕ) → List ℕ
tail_before size len longer first stored = if nat_lt len longer then filter (λ n. nat_lt n first) (tail_of size len stored) else []

-- the blocks that a range touches
abbrev pub touched_blocks : ℕ → ℕ → ℕ → List ℕ
touched_blocks size off count = numbers_from (off / size) (piece_count off count size)

-- what a write of some bytes changes
abbrev pub blocks_of_write : ℕ → ℕ → ℕ → ℕ → (ℕ → ℕ) → List ℕ
blocks_of_write size off count len stored = tail_before size len (off + count) (off / size) stored ++ touched_blocks size off count

-- what another length changes: the block that it lies within, also where the file grows into it or keeps its length
abbrev pub blocks_of_resize : ℕ → ℕ → ℕ → (ℕ → ℕ) → List ℕ
blocks_of_resize size longer len stored =
    if longer % size == 0 then tail_before size len longer (longer / size) stored
    else tail_before size len longer (longer / size) stored ++ longer / size ∷ []

-- the range has all of the block
abbrev pub is_overwritten : ℕ → ℕ → ℕ → ℕ → Bool
is_overwritten size off count n = nat_le off (n * size) && nat_le ((n + 1) * size) (off + count)

-- of the changed blocks those that a write does not overwrite whole
abbrev pub needed_by_write : ℕ → ℕ → ℕ → List ℕ → List ℕ
needed_by_write size off count changed = filter (λ n. not (is_overwritten size off count n)) changed

-- A block that a change of a file leaves alone: what lies in it then is what lay in it before, cut or with zeros behind it, and its
-- stored form has no byte that would then show.
pub record IsLeft (size n : ℕ) (stored : ℕ → ℕ) (before after : List ℕ) : Type 0 where
  pub piece : piece_of size after n ≡ resized (length (piece_of size after n)) (piece_of size before n)
  pub fits : (length (piece_of size after n) ≤ length (piece_of size before n)) ⊎ (stored n ≤ length (piece_of size before n))
