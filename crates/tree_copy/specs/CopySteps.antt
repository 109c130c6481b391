-- What the batch of a copy makes of valid tables.
use Rattle.std.specs.Prelude.{◌≡◌, ◌≤◌, ◌+◌, ◌++◌, ◌&&◌, ℕ, List, [], ◌∷◌, length, Bool, true, IsTrue, is_some, option_map}
use Rattle.plain_tree.specs.Below.{at_and_below, is_at_or_below}
use Rattle.plain_tree.specs.Subtrees.{copy_number}
use Rattle.plain_tree.specs.Tree.{Tree}
use Rattle.s3_rows.specs.declared.change.Change.{Change}
use Rattle.s3_rows.specs.Rows.{Block, Inode}
use Rattle.s3_rows.specs.Selections.{block_at, inode_at}
use Rattle.s3_rows.specs.Tables.{Tables}
use Rattle.s3_rows.specs.Validity.{IsValid, HasUniqueNames}
use Rattle.tree_rows.specs.Shapes.{Represents}
use Rattle.tree_rows.specs.Spots.{form_at}
use Rattle.ref_counts.specs.Links.{AreRowsOf}
use Rattle.ref_counts.specs.Plans.{next_inode_of, next_name_of, settings}
use Rattle.tree_copy.specs.CopiedPlaces.{files_copied, files_fit}
use Rattle.tree_copy.specs.CopiedRows.{Visit, all_seen, names_copied, names_fit}

-- the names of a copy leave all but names and inodes alone, and no next number falls
pub record AreNamesOf (t after : Tables) (next : Tree) : Type 0 where
  pub valid : IsValid after
  pub represents : Represents after next
  pub unique : HasUniqueNames after
  pub params : option_map settings after.params ≡ option_map settings t.params
  pub next_inode : next_inode_of t ≤ next_inode_of after
  pub next_name : next_name_of t ≤ next_name_of after
  pub inode_blocks : after.inode_blocks ≡ t.inode_blocks
  pub blocks : after.blocks ≡ t.blocks
  pub objects : after.objects ≡ t.objects
  pub slots : after.slots ≡ t.slots

-- ---- the whole batch

-- the inodes at and below the source, in the order of their first visits
abbrev pub inodes_seen : Inode → List Visit → List ℕ
inodes_seen source visits = all_seen (source.id ∷ []) visits

-- the names, and then the places of the files
abbrev pub tree_copied : Tables → ℕ → ℕ → Inode → Inode → List ℕ → List Visit → List Change
tree_copied told next now source directory name visits =
    names_copied told next now source directory name visits ++ files_copied told next (inodes_seen source visits) (inodes_seen source visits) told

-- all names and blocks may be used once more
abbrev pub tree_fits : Tables → ℕ → ℕ → Inode → Inode → List ℕ → List Visit → Bool
tree_fits told next now source directory name visits =
    names_fit told next now source directory name visits && files_fit told next (inodes_seen source visits) (inodes_seen source visits) told

-- a block without its count
abbrev pub uncounted : Block → Block
uncounted r = record r { refcount = 0 }

-- What a copy makes of valid tables: they stay valid, and represent the next tree. Settings, objects and slots stay, and no next
-- number falls; no block comes or goes. Each inode that was there keeps the forms of its places, and those of the copy of a file are
-- those of the file.
pub record IsCopyStep (t after : Tables) (whole : Tree) (source : ℕ) (next : Tree) : Type 0 where
  pub valid : IsValid after
  pub represents : Represents after next
  pub unique : HasUniqueNames after
  pub params : option_map settings after.params ≡ option_map settings t.params
  pub next_inode : next_inode_of after ≡ next_inode_of t + length (at_and_below whole source)
  pub next_name : next_name_of t ≤ next_name_of after
  pub objects : after.objects ≡ t.objects
  pub slots : after.slots ≡ t.slots
  pub blocks : (id : ℕ) → option_map uncounted (block_at after id) ≡ option_map uncounted (block_at t id)
  pub rows : AreRowsOf t after
  pub forms : (inode blockno : ℕ) → IsTrue (is_some (inode_at t inode)) → form_at after inode blockno ≡ form_at t inode blockno
  pub copied : (inode blockno : ℕ) → is_at_or_below whole source inode ≡ true
      → form_at after (copy_number whole.next_inode (at_and_below whole source) inode) blockno ≡ form_at t inode blockno
