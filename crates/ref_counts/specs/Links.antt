-- What one more and one less place of a block makes of the tables, and what another block at a place does.
use Rattle.std.specs.Prelude.{◌≡◌, ℕ, ◌+◌, ◌-◌, ◌^◌, ◌==◌, List, [], ◌∷◌, ◌++◌, Bool, true, false, ◌&&◌, nat_lt, nat_le, Option, None, Some, option_map, if◌then◌else◌, filter, find}
use Rattle.std.specs.List.{flat_map}
use Rattle.s3_rows.specs.declared.change.Change.{Change}
use Rattle.s3_rows.specs.declared.change.Change.TheVariants as changes
use Rattle.s3_rows.specs.Rows.{InodeBlock, Block, Object}
use Rattle.s3_rows.specs.Tables.{Tables}
use Rattle.s3_rows.specs.Batches.{tables_after}
use Rattle.s3_rows.specs.Selections.{inode_block_at, block_at, object_at}

-- ---- one more

-- its count is one more, while that is below 2^62
abbrev pub counted_block : Option Block → Option (List Change)
counted_block None = None
counted_block (Some b) = if nat_lt (b.refcount + 1) (2 ^ 62) then Some (changes.PutBlock (record b { refcount = b.refcount + 1 }) ∷ []) else None

-- whether there is one place more, and what that makes of a batch: nothing is added where there is none
abbrev pub IsCounted : Option (List Change) → List Change → Bool → List Change → Type 0
IsCounted None before answer now = (answer ≡ false) × (now ≡ before)
IsCounted (Some more) before answer now = (answer ≡ true) × (now ≡ before ++ more)

-- ---- one less

-- an object that one block less has keeps its row
abbrev pub lowered_object : Option Object → List Change
lowered_object None = []
lowered_object (Some o) = changes.PutObject (record o { refcount = o.refcount - 1 }) ∷ []

-- a block with one place less; it goes with the last, and its object has one block less
abbrev pub lowered_block : Tables → Option Block → List Change
lowered_block t None = []
lowered_block t (Some b) =
    if b.refcount == 1 then changes.DeleteBlock b.id ∷ lowered_object (object_at t b.object) else changes.PutBlock (record b { refcount = b.refcount - 1 }) ∷ []

-- ---- places

-- a place that names a block from now on, or none
abbrev pub link_set : ℕ → ℕ → Option ℕ → Change
link_set inode blockno None = changes.DeleteInodeBlock inode blockno
link_set inode blockno (Some block) = changes.PutInodeBlock (record { inode = inode; blockno = blockno; block = block })

-- nothing goes where nothing was
abbrev pub link_added : ℕ → ℕ → Option ℕ → List Change
link_added inode blockno None = []
link_added inode blockno (Some block) = link_set inode blockno (Some block) ∷ []

abbrev pub link_replaced : Tables → ℕ → ℕ → Option ℕ → Option InodeBlock → List Change
link_replaced t inode blockno new None = link_added inode blockno new
link_replaced t inode blockno new (Some old) = link_set inode blockno new ∷ lowered_block t (block_at t old.block)

-- A place names a block from now on, or none, and what it named has one place less. The new block has been counted before.
abbrev pub relinked : Tables → ℕ → ℕ → Option ℕ → List Change
relinked t inode blockno new = link_replaced t inode blockno new (inode_block_at t inode blockno)

-- ---- the places of a file from one on

abbrev pub is_place_from : ℕ → ℕ → InodeBlock → Bool
is_place_from inode from r = r.inode == inode && nat_le from r.blockno

abbrev pub places_from : Tables → ℕ → ℕ → List InodeBlock
places_from t inode from = filter (is_place_from inode from) t.inode_blocks

-- the number of the first of them
abbrev pub next_place : Tables → ℕ → ℕ → Option ℕ
next_place t inode from = option_map (λ r. r.blockno) (find (is_place_from inode from) t.inode_blocks)

-- all places of some files
abbrev pub places_of : Tables → List ℕ → List InodeBlock
places_of t inodes = flat_map (λ x. places_from t x 0) inodes

-- these places name no block any more, one after the other
abbrev pub places_dropped : List InodeBlock → Tables → List Change
places_dropped [] t = []
places_dropped (r ∷ rs) t = relinked t r.inode r.blockno None ++ places_dropped rs (tables_after (relinked t r.inode r.blockno None) t)

-- each block row has the digest, the size and the object of one that was there under its number
abbrev pub AreRowsOf : Tables → Tables → Type 0
AreRowsOf t after =
    (id : ℕ) (r : Block) → block_at after id ≡ Some r
    → (old : Block) × (block_at t id ≡ Some old) × (r.digest ≡ old.digest) × (r.size ≡ old.size) × (r.object ≡ old.object)

-- all places of a file that goes, and none of one that is kept
abbrev pub places_of_gone : Bool → Tables → ℕ → List Change
places_of_gone kept t inode = if kept then [] else places_dropped (places_from t inode 0) t
