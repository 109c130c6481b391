-- Blocks of a file as they are to be after a change.
use Rattle.std.specs.Prelude.{◌≡◌, ◌≤◌, ℕ, List, [], ◌∷◌, length, map, Option, None, Some, All}
use Rattle.block_math.specs.Blocks.{piece_of, trimmed}
use Rattle.file_ops.specs.declared.new_block.NewBlock.{NewBlock}

-- their numbers
abbrev pub numbers_of : List NewBlock → List ℕ
numbers_of blocks = map (λ b. b.blockno) blocks

-- each is a block of the file, up to its last byte that is not zero
abbrev pub AreBlocksOf : ℕ → List ℕ → List NewBlock → Type 0
AreBlocksOf block_size file blocks = All (λ b. b.stored ≡ trimmed (piece_of block_size file b.blockno)) blocks

-- the blocks of a file under these numbers
abbrev pub blocks_at : ℕ → List ℕ → List ℕ → List NewBlock
blocks_at block_size file numbers = map (λ n. record { blockno = n; stored = trimmed (piece_of block_size file n) }) numbers

-- none has more bytes than a block
abbrev pub AreShort : ℕ → List NewBlock → Type 0
AreShort block_size blocks = All (λ b. length b.stored ≤ block_size) blocks

-- the number of a tail, as a list; none without one
abbrev pub number_of_tail : Option ℕ → List ℕ
number_of_tail None = []
number_of_tail (Some n) = n ∷ []
