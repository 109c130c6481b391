-- A block that comes, and places that name other blocks.
use Rattle.std.specs.Prelude.{ℕ, ◌+◌, ◌==◌, List, [], ◌∷◌, ◌++◌, Bool, ◌&&◌, Option, Some}
use Rattle.std.specs.List.{filter_map, list_any}
use Rattle.s3_rows.specs.declared.change.Change.{Change}
use Rattle.s3_rows.specs.declared.change.Change.TheVariants as changes
use Rattle.s3_rows.specs.declared.digest.Digest.{Digest}
use Rattle.s3_rows.specs.Rows.{Parameters}
use Rattle.s3_rows.specs.Tables.{Tables}
use Rattle.s3_rows.specs.Batches.{tables_after}
use Rattle.ref_counts.specs.Links.{relinked}

-- ---- a block that comes

-- the next number of a block is drawn
abbrev pub block_drawn : Parameters → Parameters
block_drawn p = record p { next_block = p.next_block + 1 }

-- A block comes under the next number, for one place: its object, which was drawn and has its bytes by now, has their length and
-- one block.
abbrev pub block_made : Parameters → ℕ → Digest → ℕ → List Change
block_made p object digest size =
    changes.SetParams (block_drawn p) ∷ changes.PutObject (record { id = object; refcount = 1; size = Some size })
    ∷ changes.PutBlock (record { id = p.next_block; digest = digest; refcount = 1; size = size; object = object }) ∷ []

-- ---- places

-- numbers of blocks of a file, each with the block that its place names from now on, if any
abbrev pub Places : Type 0
Places = List (ℕ × Option ℕ)

-- the blocks that they name
abbrev pub blocks_named : Places → List ℕ
blocks_named places = filter_map (λ place. place.1) places

-- it is one of these places of a file
abbrev pub is_among_places : ℕ → Places → ℕ → ℕ → Bool
is_among_places inode places other number = other == inode && list_any (λ place. place.0 == number) places

-- places of a file that name other blocks, one after the other
abbrev pub places_relinked : ℕ → Places → Tables → List Change
places_relinked inode [] t = []
places_relinked inode (place ∷ places) t =
    relinked t inode place.0 place.1 ++ places_relinked inode places (tables_after (relinked t inode place.0 place.1) t)
