-- Tables on the way of a change of files: how far the counts of blocks are ahead of the places that name them.
use Rattle.std.specs.Prelude.{◌≡◌, ℕ, ◌+◌, ◌==◌, ◌≤◌, List, Bool, ◌&&◌, nat_le, IsTrue, Some, is_some, option_map, unwrap_or, count_by}
use Rattle.std.specs.List.{list_all, list_any}
use Rattle.s3_rows.specs.Rows.{Block, Parameters}
use Rattle.s3_rows.specs.Tables.{Tables, IsOrdered}
use Rattle.s3_rows.specs.Selections.{block_at}
use Rattle.s3_rows.specs.Counts.{listed_block_count}
use Rattle.s3_rows.specs.Validity.{counts_inode, counts_name, counts_object, HasItsRows, HasOneTree, is_no_lost_directory, HasDistinctBlocks, HasItsSizes, HasFreeNumbers}

-- how often an id stands in a list
abbrev pub times : ℕ → List ℕ → ℕ
times id ids = count_by (λ x. x == id) ids

-- it stands in the list
abbrev pub is_owed : List ℕ → ℕ → Bool
is_owed ids id = list_any (λ x. x == id) ids

-- the count of a block is the listed one, and one more for each place that is yet to name it
abbrev pub owes_places : Tables → List ℕ → Block → Bool
owes_places t blocks r = r.refcount == listed_block_count t r.id + times r.id blocks && nat_le 1 r.refcount

-- Tables that are valid but for blocks which count places that are yet to name them. Where nothing is owed they are valid.
pub record OwesPlaces (t : Tables) (p : Parameters) (blocks : List ℕ) : Type 0 where
  pub made : t.params ≡ Some p
  pub ordered : IsOrdered t
  pub inodes : IsTrue (list_all (counts_inode t) t.inodes)
  pub names : IsTrue (list_all (counts_name t) t.names)
  pub counts : IsTrue (list_all (owes_places t blocks) t.blocks)
  pub objects : IsTrue (list_all (counts_object t) t.objects)
  -- what is owed has its row
  pub there : IsTrue (list_all (λ id. is_some (block_at t id)) blocks)
  pub rows : HasItsRows t
  pub tree : HasOneTree t
  pub orphans : IsTrue (list_all (is_no_lost_directory t) t.inodes)
  pub distinct : HasDistinctBlocks t p
  pub sizes : HasItsSizes t p
  pub free : HasFreeNumbers t p

-- the next number of a block
abbrev pub next_block_of : Tables → ℕ
next_block_of t = unwrap_or (option_map (λ p. p.next_block) t.params) 0

-- parameters without the next number of a block
abbrev pub without_next_block : Parameters → Parameters
without_next_block p = record p { next_block = 0 }

-- What changes of places leave alone: all tables but those of places, blocks and objects, and the parameters but for the next number
-- of a block, which never falls.
pub record KeepsNames (t after : Tables) : Type 0 where
  pub params : option_map without_next_block after.params ≡ option_map without_next_block t.params
  pub next_block : next_block_of t ≤ next_block_of after
  pub inodes : after.inodes ≡ t.inodes
  pub names : after.names ≡ t.names
  pub contents : after.contents ≡ t.contents
  pub targets : after.targets ≡ t.targets
  pub attrs : after.attrs ≡ t.attrs
  pub slots : after.slots ≡ t.slots
