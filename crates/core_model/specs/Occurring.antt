-- The blocks that occur along a run of answered calls, and contents that know them.
use Rattle.std.specs.Prelude.{◌≡◌, ℕ, List, [], ◌∷◌, ◌++◌, Bool, true, false, map, Contains, Some}
use Rattle.std.specs.List.{filter, flat_map}
use Rattle.plain_tree.specs.Tree.{Tree, Content, Regular, Directory, Link}
use Rattle.plain_tree.specs.Calls.{Answered, trees_along}
use Rattle.block_math.specs.Blocks.{forms_of}
use Rattle.tree_rows.specs.Contents.{Contents, bytes_of}

-- a trimmed block that is not all zeros
abbrev pub is_stored : List ℕ → Bool
is_stored [] = false
is_stored (b ∷ bytes) = true

-- the trimmed blocks of a file that are not all zeros, one for each place
abbrev pub blocks_of_content : ℕ → Content → List (List ℕ)
blocks_of_content size (Regular bytes) = filter is_stored (forms_of size bytes)
blocks_of_content size (Directory entries) = []
blocks_of_content size (Link target) = []

-- those of all files of a tree, of the ones that only handles hold too
abbrev pub blocks_in : Tree → List (List ℕ)
blocks_in t = flat_map (λ e. blocks_of_content t.block_size e.1.content) t.nodes

-- what contents hold
abbrev pub values_of : Contents → List (List ℕ)
values_of m = map (λ c. c.1) m

-- the blocks that occur along a run: what the contents at its beginning hold, and the blocks of every tree on the way
abbrev pub occurring : Contents → Tree → List Answered → List (List ℕ)
occurring m t run = values_of m ++ flat_map blocks_in (trees_along t run)

-- no two different blocks of these have the same digest
abbrev pub IsCollisionFree : (List ℕ → List ℕ) → List (List ℕ) → Type 0
IsCollisionFree digest_of blocks = (a b : List ℕ) → Contains blocks a → Contains blocks b → digest_of a ≡ digest_of b → a ≡ b

-- each block under its digest
abbrev pub contents_of : (List ℕ → List ℕ) → List (List ℕ) → Contents
contents_of digest_of blocks = map (λ b. (digest_of b, b)) blocks

-- the contents have these bytes under their digest
abbrev pub Knows : (List ℕ → List ℕ) → Contents → List ℕ → Type 0
Knows digest_of m bytes = bytes_of m (digest_of bytes) ≡ Some bytes

-- all of these blocks
abbrev pub KnowsAll : (List ℕ → List ℕ) → Contents → List (List ℕ) → Type 0
KnowsAll digest_of m blocks = (b : List ℕ) → Contains blocks b → Knows digest_of m b
