-- When rows and contents have the bytes of a tree.
use Rattle.std.specs.Prelude.{◌≡◌, ℕ, List, [], length, Option, None, Some}
use Rattle.std.specs.Option.{IsSomeAnd}
use Rattle.plain_tree.specs.Tree.{Tree}
use Rattle.plain_tree.specs.Files.{file_at}
use Rattle.block_math.specs.Blocks.{block_of, piece_of}
use Rattle.block_math.specs.Changes.{resized}
use Rattle.s3_rows.specs.Tables.{Tables}
use Rattle.tree_rows.specs.Contents.{Contents, HaveBytes, bytes_of}
use Rattle.tree_rows.specs.Spots.{form_at}

-- The bytes of blocks that no row names yet, by inode and number of the block. They stand before the rows.
abbrev pub Overlay : Type 0
Overlay = ℕ → ℕ → Option (List ℕ)

-- all is named by rows
abbrev pub no_overlay : Overlay
no_overlay inode blockno = None

-- the bytes of a form: no bytes without one, and none known where the contents lack its digest
abbrev pub bytes_of_form : Contents → Option (List ℕ × ℕ) → Option (List ℕ)
bytes_of_form m None = Some []
bytes_of_form m (Some form) = bytes_of m form.0

-- what a spot shows: the bytes that are not linked yet, else those of its form
abbrev pub shown_at : Contents → Tables → Overlay → ℕ → ℕ → Option (List ℕ)
shown_at m t over inode blockno = elim (over inode blockno) [ Some bytes ↦ Some bytes | None ↦ bytes_of_form m (form_at t inode blockno) ]

-- the bytes, with zeros behind them, begin with the piece
abbrev pub Shows : List ℕ → List ℕ → Type 0
Shows piece shown = resized (length piece) shown ≡ piece

-- a block of a file shows the bytes of the file that lie in it
abbrev pub AgreesAt : Contents → Tables → Overlay → Tree → ℕ → ℕ → Type 0
AgreesAt m t over whole inode blockno =
    (bytes : List ℕ) → file_at whole inode ≡ Some bytes → IsSomeAnd (shown_at m t over inode blockno) (Shows (piece_of whole.block_size bytes blockno))

-- tables and contents have the bytes of the tree
pub record HasBytes (m : Contents) (t : Tables) (over : Overlay) (whole : Tree) : Type 0 where
  -- the contents have each block row's digest, with bytes of its length
  pub fits : HaveBytes m t.blocks
  -- each block of each file shows its bytes
  pub agrees : (inode blockno : ℕ) → AgreesAt m t over whole inode blockno
  -- what is not linked yet is the whole block, zeros past the end of the file included
  pub exact : (inode blockno : ℕ) (shown bytes : List ℕ) → over inode blockno ≡ Some shown → file_at whole inode ≡ Some bytes
      → shown ≡ block_of whole.block_size bytes blockno
