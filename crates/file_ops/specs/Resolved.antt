-- Where the bytes of new blocks are found: in the rows, or in a new block that comes before.
use Rattle.std.specs.Prelude.{ℕ, ◌+◌, ◌<◌, ◌^◌, ◌⊎◌, List, [], ◌∷◌, ◌++◌, length, Bool, true, false, Option, None, Some, if◌then◌else◌}
use Rattle.std.specs.Option.{option_or}
use Rattle.std.specs.Ordering.{is_eq}
use Rattle.s3_rows.specs.declared.digest.Digest.{Digest}
use Rattle.s3_rows.specs.Rows.{Block}
use Rattle.s3_rows.specs.Tables.{Tables}
use Rattle.s3_rows.specs.Selections.{block_of_digest, bytes_cmp}
use Rattle.file_ops.specs.declared.new_block.NewBlock.{NewBlock}
use Rattle.file_ops.specs.declared.place.Place.{Place}
use Rattle.file_ops.specs.declared.place.Place.TheVariants as places

-- ---- one place

-- it is of a new block
abbrev pub is_new : Place → Bool
is_new places.Zeros = false
is_new (places.Known r) = false
is_new (places.New r) = true

-- the number of the block that the place names
abbrev pub id_of : Place → Option ℕ
id_of places.Zeros = None
id_of (places.Known r) = Some r.id
id_of (places.New r) = Some r.id

-- the next number after it
abbrev pub next_after : Place → ℕ → ℕ
next_after places.Zeros n = n
next_after (places.Known r) n = n
next_after (places.New r) n = n + 1

-- ---- places, one after the other

-- the row of the first new block with a digest
abbrev pub new_with : Digest → List Place → Option Block
new_with digest [] = None
new_with digest (places.Zeros ∷ xs) = new_with digest xs
new_with digest (places.Known r ∷ xs) = new_with digest xs
new_with digest (places.New r ∷ xs) = if is_eq (bytes_cmp r.digest.0 digest.0) then Some r else new_with digest xs

abbrev pub digest_for : (List ℕ → List ℕ) → List ℕ → Digest
digest_for digest_of bytes = record { 0 = digest_of bytes }

-- the row of a new block, for one place
abbrev pub new_row : (List ℕ → List ℕ) → ℕ → ℕ → List ℕ → Block
new_row digest_of block object bytes = record { id = block; digest = digest_for digest_of bytes; refcount = 1; size = length bytes; object = object }

-- the row that has a digest already: in the tables, or among the new blocks before
abbrev pub known_row : Tables → List Place → Digest → Option Block
known_row t before digest = option_or (block_of_digest t digest) (new_with digest before)

-- a row that is known, or else the new block's own
abbrev pub known_or_new : Option Block → Block → Place
known_or_new (Some r) own = places.Known r
known_or_new None own = places.New own

-- The place of one block, after those of the blocks before it. A new one has the next numbers of a block and of an object.
abbrev pub place_for : (List ℕ → List ℕ) → Tables → List Place → ℕ → ℕ → List ℕ → Place
place_for digest_of t before block object [] = places.Zeros
place_for digest_of t before block object (b ∷ bytes) =
    known_or_new (known_row t before (digest_for digest_of (b ∷ bytes))) (new_row digest_of block object (b ∷ bytes))

-- the places of blocks, after those before them
abbrev pub resolved : (List ℕ → List ℕ) → Tables → List Place → ℕ → ℕ → List NewBlock → List Place
resolved digest_of t before block object [] = []
resolved digest_of t before block object (b ∷ bs) =
    let place = place_for digest_of t before block object b.stored in
    place ∷ resolved digest_of t (before ++ place ∷ []) (next_after place block) (next_after place object) bs

-- so many new blocks are more than there are numbers for them or for their objects
abbrev pub IsWorn : ℕ → ℕ → ℕ → Type 0
IsWorn block object count = (2 ^ 62 < block + count) ⊎ (2 ^ 62 < object + count)
