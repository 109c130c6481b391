-- When rows name exactly the blocks of a tree.
use Rattle.std.specs.Prelude.{◌≡◌, ℕ, List, [], ◌∷◌, length, Option, None, Some}
use Rattle.plain_tree.specs.Tree.{Tree}
use Rattle.plain_tree.specs.Files.{file_at}
use Rattle.block_math.specs.Blocks.{piece_of, trimmed}
use Rattle.s3_rows.specs.Tables.{Tables}
use Rattle.tree_rows.specs.Spots.{form_at}
use Rattle.core_model.specs.Bytes.{Overlay}

-- digest and length of a stored form; none of a block of zeros
abbrev pub form_of_stored : (List ℕ → List ℕ) → List ℕ → Option (List ℕ × ℕ)
form_of_stored digest_of [] = None
form_of_stored digest_of (b ∷ bytes) = Some (digest_of (b ∷ bytes), length (b ∷ bytes))

-- those of the bytes of a block
abbrev pub form_for : (List ℕ → List ℕ) → List ℕ → Option (List ℕ × ℕ)
form_for digest_of bytes = form_of_stored digest_of (trimmed bytes)

-- the spot has a row exactly where its block is not all zeros, with digest and length of the trimmed block
abbrev pub IsExactAt : (List ℕ → List ℕ) → Tables → Tree → ℕ → ℕ → Type 0
IsExactAt digest_of t whole inode blockno =
    (bytes : List ℕ) → file_at whole inode ≡ Some bytes → form_at t inode blockno ≡ form_for digest_of (piece_of whole.block_size bytes blockno)

-- so does every spot at which no bytes wait to be linked
abbrev pub IsExact : (List ℕ → List ℕ) → Tables → Overlay → Tree → Type 0
IsExact digest_of t over whole = (inode blockno : ℕ) → over inode blockno ≡ None → IsExactAt digest_of t whole inode blockno
