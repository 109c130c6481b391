-- Tables that are not as they should be, on which the definitions are tried.
use Rattle.std.specs.Prelude.{◌≡◌, IsTrue, ℕ, List, [], ◌∷◌, Bool, not, codes, None, Some, map, filter}
use Rattle.s3_base.specs.declared.node_kind.Kind.TheVariants as kinds
use Rattle.std.specs.List.{list_all, list_any}
use Rattle.s3_rows.specs.Rows.{Inode, Parameters}
use Rattle.s3_rows.specs.Tables.{Tables, IsOrdered}
use Rattle.s3_base.specs.Numbers.{root}
use Rattle.s3_rows.specs.Validity.{HasItsRows, HasDistinctBlocks, HasItsSizes, HasFreeNumbers, counts_name, counts_block, counts_object, has_inode, is_directory, is_named, is_named_once, is_no_lost_directory, has_legal_name, have_one_name, is_lost_and_found, differ}
use Rattle.s3_rows.specs.Made.{made_tables, made_parameters, made_directory}

-- a made file system with an object that no block has and that was never uploaded
abbrev pub forsaken_object : Tables
forsaken_object = record (made_tables 4096 8 0) {
  params = Some (record (made_parameters 4096 8) { next_object = 2 });
  objects = record { id = 1; refcount = 0; size = None } ∷ [];
}

-- a made file system with two directories that name each other, an empty file that no entry names, and the count 7 at lost+found
abbrev pub directories_in_a_ring : Tables
directories_in_a_ring = record (made_tables 4096 8 0) {
  params = Some (record (made_parameters 4096 8) { next_inode = 6; next_name = 4 });
  inodes =
      made_directory 1 493 0 ∷ record (made_directory 2 448 0) { refcount = 7 } ∷ made_directory 3 493 0 ∷ made_directory 4 493 0
      ∷ record (made_directory 5 420 0) { kind = kinds.Regular } ∷ [];
  names = record { id = 1; refcount = 1; name = codes "lost+found" } ∷ record { id = 2; refcount = 1; name = codes "a" } ∷ record { id = 3; refcount = 1; name = codes "b" } ∷ [];
  contents = record { parent = 1; name_id = 1; inode = 2 } ∷ record { parent = 3; name_id = 2; inode = 4 } ∷ record { parent = 4; name_id = 3; inode = 3 } ∷ [];
}

-- the inodes that fail a test
abbrev pub inodes_that_fail : (Inode → Bool) → Tables → List ℕ
inodes_that_fail test t = map (λ r. r.id) (filter (λ r. not (test r)) t.inodes)

-- valid tables, but for the counts of inodes and the chains of parents
pub record IsValidElsewhere (t : Tables) : Type 0 where
  pub params : Parameters
  pub is_made : t.params ≡ Some params
  pub ordered : IsOrdered t
  pub name_counts : IsTrue (list_all (counts_name t) t.names)
  pub block_counts : IsTrue (list_all (counts_block t) t.blocks)
  pub object_counts : IsTrue (list_all (counts_object t) t.objects)
  pub rows : HasItsRows t
  pub is_rooted : IsTrue (has_inode is_directory t root)
  pub root_is_unnamed : IsTrue (not (is_named t root))
  pub named_once : IsTrue (list_all (is_named_once t) t.inodes)
  pub legal : IsTrue (list_all (has_legal_name t) t.contents)
  pub unlike : IsTrue (differ (have_one_name t) t.contents)
  pub keeps_lost_and_found : IsTrue (list_any (is_lost_and_found t) t.contents)
  pub orphans : IsTrue (list_all (is_no_lost_directory t) t.inodes)
  pub blocks : HasDistinctBlocks t params
  pub sizes : HasItsSizes t params
  pub free : HasFreeNumbers t params
