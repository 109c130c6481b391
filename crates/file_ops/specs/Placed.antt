-- Blocks that are placed.
use Rattle.std.specs.Prelude.{◌≡◌, ℕ, ◌+◌, ◌<◌, ◌≤◌, ◌^◌, ◌==◌, ◌⊎◌, count_by, ◌&&◌, List, [], ◌∷◌, ◌++◌, length, Bool, true, false, nat_le, IsTrue, Option, None, Some, option_map, option_and_then, if◌then◌else◌}
use Rattle.std.specs.List.{list_all, list_any}
use Rattle.s3_rows.specs.declared.change.Change.{Change}
use Rattle.s3_rows.specs.Rows.{Parameters}
use Rattle.s3_rows.specs.Tables.{Tables}
use Rattle.s3_rows.specs.Batches.{tables_after}
use Rattle.s3_rows.specs.Selections.{block_at}
use Rattle.s3_rows.specs.Told.{Told, one_more}
use Rattle.s3_rows.specs.Validity.{IsValid, differ, has_inode, is_in_file, is_regular}
use Rattle.s3_devices.specs.Keys.{objects_in}
use Rattle.s3_devices.specs.Objects.{Objects}
use Rattle.tree_rows.specs.Contents.{Contents}
use Rattle.tree_rows.specs.Spots.{form_at}
use Rattle.core_model.specs.Exact.{form_of_stored}
use Rattle.core_model.specs.Occurring.{Knows, is_stored}
use Rattle.core_model.specs.Safe.{IsPrepared, with_new_objects}
use Rattle.ref_counts.specs.Links.{counted_block}
use Rattle.block_steps.specs.Owed.{KeepsNames}
use Rattle.block_steps.specs.Places.{Places, block_made, places_relinked}
use Rattle.file_ops.specs.declared.new_block.NewBlock.{NewBlock}
use Rattle.file_ops.specs.declared.place.Place.{Place}
use Rattle.file_ops.specs.declared.place.Place.TheVariants as places
use Rattle.file_ops.specs.Resolved.{IsWorn, id_of, is_new, resolved}

-- ---- counts

-- the parameters whose next block is this one
abbrev pub with_next_block : ℕ → Parameters → Parameters
with_next_block id p = record p { next_block = id }

-- the changes by which a block has one place more, or comes; none where its count is at its end
abbrev pub place_counted : Parameters → Place → Tables → Option (List Change)
place_counted p places.Zeros t = Some []
place_counted p (places.Known r) t = counted_block (block_at t r.id)
place_counted p (places.New r) t = Some (block_made (with_next_block r.id p) r.object r.digest r.size)

-- those of places, one after the other
abbrev pub places_counted : Parameters → List Place → Tables → Option (List Change)
places_counted p [] t = Some []
places_counted p (x ∷ xs) t =
    option_and_then (λ more. option_map (λ rest. more ++ rest) (places_counted p xs (tables_after more t))) (place_counted p x t)

-- what was answered, and what it made of a batch
abbrev pub AreCounted : Option (List Change) → List Change → Bool → List Change → Type 0
AreCounted None before answer now = answer ≡ false
AreCounted (Some more) before answer now = (answer ≡ true) × (now ≡ before ++ more)

-- ---- places of a file

-- the numbers of blocks of a file, each with the block that its place names
abbrev pub links_of : List NewBlock → List Place → Places
links_of [] xs = []
links_of (b ∷ bs) [] = []
links_of (b ∷ bs) (x ∷ xs) = (b.blockno, id_of x) ∷ links_of bs xs

-- ---- objects

-- what an object holds after the bytes of one place were put
abbrev pub held_after : ℕ → List ℕ → Place → Option (List ℕ) → Option (List ℕ)
held_after object bytes places.Zeros held = held
held_after object bytes (places.Known r) held = held
held_after object bytes (places.New r) held = if object == r.object then Some bytes else held

-- and after those of all places
abbrev pub held_after_all : ℕ → List NewBlock → List Place → Option (List ℕ) → Option (List ℕ)
held_after_all object [] xs held = held
held_after_all object (b ∷ bs) [] held = held
held_after_all object (b ∷ bs) (x ∷ xs) held = held_after_all object bs xs (held_after object b.stored x held)

-- one object after a put for one place
abbrev pub IsPut : List ℕ → Place → Objects → Objects → Type 0
IsPut bytes place before after = (object : ℕ) → object < 2 ^ 64 → objects_in after object ≡ held_after object bytes place (objects_in before object)

-- all objects after the puts for all places
abbrev pub ArePut : List NewBlock → List Place → Objects → Objects → Type 0
ArePut blocks xs before after = (object : ℕ) → object < 2 ^ 64 → objects_in after object ≡ held_after_all object blocks xs (objects_in before object)

-- the object of a new block is this one
abbrev pub is_object_of : ℕ → Place → Bool
is_object_of object places.Zeros = false
is_object_of object (places.Known r) = false
is_object_of object (places.New r) = object == r.object

-- after a put that was refused, all objects but the new one hold what they held
abbrev pub KeepsOldObject : Place → Objects → Objects → Type 0
KeepsOldObject place before after = (object : ℕ) → object < 2 ^ 64 → is_object_of object place ≡ false → objects_in after object ≡ objects_in before object

-- and after puts of which one was refused, all but the new ones
abbrev pub KeepsOldObjects : List Place → Objects → Objects → Type 0
KeepsOldObjects xs before after = (object : ℕ) → object < 2 ^ 64 → list_any (is_object_of object) xs ≡ false → objects_in after object ≡ objects_in before object

-- ---- what a keeper tells

-- so many objects were drawn, by one batch, where the parameters were these
abbrev pub AreDrawn : Parameters → ℕ → Told → Told → Type 0
AreDrawn p count before after =
    before.tables.params ≡ Some p → (after.tables ≡ with_new_objects count before.tables) × (after.commits ≡ (if count == 0 then before.commits else one_more before.commits))

-- the keeper tells the same tables, or objects were drawn by one batch
abbrev pub ArePrepared : Told → Told → Type 0
ArePrepared before after =
    IsPrepared before.tables after.tables × ((after.commits ≡ before.commits) ⊎ (after.commits ≡ one_more before.commits))

-- the parameters after so many objects were drawn
abbrev pub with_drawn : ℕ → Parameters → Parameters
with_drawn count p = record p { next_object = p.next_object + count }

-- Blocks are found by the tables before, and objects were drawn for the new ones: the parameters are those after that.
pub record AreReady (digest_of : List ℕ → List ℕ) (blocks : List NewBlock) (p : Parameters) (xs : List Place) (before after : Told) : Type 0 where
  pub params : Parameters
  pub made : before.tables.params ≡ Some params
  pub found : xs ≡ resolved digest_of before.tables [] params.next_block params.next_object blocks
  pub drawn : after.tables ≡ with_new_objects (count_by is_new xs) before.tables
  pub now : p ≡ with_drawn (count_by is_new xs) params
  pub room : params.next_object + count_by is_new xs ≤ 2 ^ 62

-- ---- what stands in the way

-- where blocks are found by the tables
abbrev pub places_in : (List ℕ → List ℕ) → Tables → List NewBlock → List Place
places_in digest_of t blocks = elim t.params [ None ↦ [] | Some p ↦ resolved digest_of t [] p.next_block p.next_object blocks ]

-- there are not enough numbers for the new blocks, or no parameters
abbrev pub LacksNumbers : (List ℕ → List ℕ) → Tables → List NewBlock → Type 0
LacksNumbers digest_of t blocks = elim t.params [ None ↦ Unit {0} | Some p ↦ IsWorn p.next_block p.next_object (count_by is_new (places_in digest_of t blocks)) ]

-- some count is at its end, after objects were drawn and after the batch
abbrev pub LacksCounts : (List ℕ → List ℕ) → Tables → List Change → List NewBlock → Type 0
LacksCounts digest_of t batch blocks =
    elim t.params [
      | None ↦ Unit {0}
      | Some p ↦
          places_counted (with_drawn (count_by is_new (places_in digest_of t blocks)) p) (places_in digest_of t blocks)
          (tables_after batch (with_new_objects (count_by is_new (places_in digest_of t blocks)) t)) ≡ None
    ]

abbrev pub IsWornFor : (List ℕ → List ℕ) → Tables → List Change → List NewBlock → Type 0
IsWornFor digest_of t batch blocks = LacksNumbers digest_of t blocks ⊎ LacksCounts digest_of t batch blocks

-- ---- places that name their blocks

-- The batch leaves blocks, objects and parameters alone. After it the tables are valid, the inode is a regular file, and the blocks lie
-- within it, under different numbers.
pub record ArePlaceable (t : Tables) (batch : List Change) (inode : ℕ) (blocks : List NewBlock) : Type 0 where
  pub valid : IsValid (tables_after batch t)
  pub params : (tables_after batch t).params ≡ t.params
  pub blocks_stay : (tables_after batch t).blocks ≡ t.blocks
  pub objects_stay : (tables_after batch t).objects ≡ t.objects
  pub regular : IsTrue (has_inode is_regular (tables_after batch t) inode)
  pub within : IsTrue (list_all (λ b. is_in_file (tables_after batch t) valid.params inode b.blockno) blocks)
  pub sizes : IsTrue (list_all (λ b. nat_le (length b.stored) valid.params.block_size) blocks)
  pub distinct : IsTrue (differ (λ a b. b.blockno == a.blockno) blocks)

-- it is the place of one of these blocks of a file
abbrev pub is_placed : ℕ → List NewBlock → ℕ → ℕ → Bool
is_placed inode blocks other number = other == inode && list_any (λ b. b.blockno == number) blocks

-- valid tables with the same names, and with the same forms at all other places
pub record ArePlaced (before after : Tables) (inode : ℕ) (blocks : List NewBlock) : Type 0 where
  pub valid : IsValid after
  pub names : KeepsNames before after
  pub elsewhere : (other number : ℕ) → is_placed inode blocks other number ≡ false → form_at after other number ≡ form_at before other number

-- What a call that placed blocks did: objects were drawn, the batch counts the blocks, and then the places name them.
pub record WerePlaced (digest_of : List ℕ → List ℕ) (inode : ℕ) (blocks : List NewBlock) (before after : Told) (batch now : List Change) : Type 0 where
  pub params : Parameters
  pub xs : List Place
  pub counted : List Change
  pub ready : AreReady digest_of blocks params xs before after
  pub counts : AreCounted (places_counted params xs (tables_after batch after.tables)) batch true counted
  pub linked : now ≡ counted ++ places_relinked inode (links_of blocks xs) (tables_after counted after.tables)

-- the contents know the bytes of each of the blocks
abbrev pub KnowsBlocks : (List ℕ → List ℕ) → Contents → List NewBlock → Type 0
KnowsBlocks digest_of m [] = Unit {0}
KnowsBlocks digest_of m (b ∷ bs) = (is_stored b.stored ≡ true → Knows digest_of m b.stored) × KnowsBlocks digest_of m bs

-- the place of each block has the form of its bytes
abbrev pub HaveTheirForms : (List ℕ → List ℕ) → Tables → ℕ → List NewBlock → Type 0
HaveTheirForms digest_of t inode [] = Unit {0}
HaveTheirForms digest_of t inode (b ∷ bs) = (form_at t inode b.blockno ≡ form_of_stored digest_of b.stored) × HaveTheirForms digest_of t inode bs
