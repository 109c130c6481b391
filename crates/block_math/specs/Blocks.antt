-- Blocks of a file: its bytes in pieces of one size.
use Rattle.std.specs.Prelude.{ℕ, zero, suc, ◌+◌, ◌-◌, ◌*◌, ◌/◌, List, [], ◌∷◌, ◌++◌, length, take, drop, ◌==◌, if◌then◌else◌}
use Rattle.block_math.specs.Changes.{padded}

-- the bytes of a file that lie in its n-th block; none at or past its end
abbrev pub piece_of : ℕ → List ℕ → ℕ → List ℕ
piece_of size bytes n = take size (drop (n * size) bytes)

-- the n-th block of a file: the bytes that lie in it, and zeros past the end of the file
abbrev pub block_of : ℕ → List ℕ → ℕ → List ℕ
block_of size bytes n = padded size (piece_of size bytes n)

-- before trimmed bytes; a zero before none is left out
abbrev pub before_trimmed : ℕ → List ℕ → List ℕ
before_trimmed b [] = if b == 0 then [] else b ∷ []
before_trimmed b (x ∷ xs) = b ∷ x ∷ xs

-- up to the last byte that is not zero
abbrev pub trimmed : List ℕ → List ℕ
trimmed [] = []
trimmed (b ∷ bs) = before_trimmed b (trimmed bs)

-- the trimmed blocks of a file from the n-th on, so many of them
abbrev pub forms_from : ℕ → List ℕ → ℕ → ℕ → List (List ℕ)
forms_from size bytes zero n = []
forms_from size bytes (suc count) n = trimmed (piece_of size bytes n) ∷ forms_from size bytes count (n + 1)

-- the trimmed blocks of a file, in order
abbrev pub forms_of : ℕ → List ℕ → List (List ℕ)
forms_of size bytes = forms_from size bytes ((length bytes + size - 1) / size) 0

-- with other bytes from a place on
abbrev pub patched : ℕ → List ℕ → List ℕ → List ℕ
patched at bytes block = take at block ++ bytes ++ drop (at + length bytes) block

-- with zeros from a place on
abbrev pub cut_at : ℕ → List ℕ → List ℕ
cut_at len block = padded (length block) (take len block)
