-- Tables on the way of an operation: how far stored counts are ahead of the listed ones.
use Rattle.std.specs.Prelude.{◌≡◌, ℕ, ◌+◌, ◌==◌, List, [], ◌∷◌, Bool, not, ◌&&◌, nat_lt, nat_le, IsTrue, Some, if◌then◌else◌}
use Rattle.std.specs.List.{list_all, list_any}
use Rattle.std.specs.Ordering.{is_eq}
use Rattle.s3_rows.specs.Rows.{Inode, Name, Content, InodeBlock, Target, Attr, Slot, Parameters}
use Rattle.s3_rows.specs.Tables.{Tables, IsOrdered}
use Rattle.s3_rows.specs.Selections.{bytes_cmp, bytes_of_name}
use Rattle.s3_rows.specs.Counts.{listed_inode_count, listed_name_count}
use Rattle.s3_rows.specs.Validity.{HasDistinctBlocks, counts_block, counts_object, differ, have_one_name}
use Rattle.tree_rows.specs.Premises.{FindsRows, FitsSizes, HasFreeIds}

-- how often an id stands in a list
abbrev pub times : ℕ → List ℕ → ℕ
times id [] = 0
times id (x ∷ xs) = (if x == id then 1 else 0) + times id xs

-- the count of an inode is the listed one, and one more for each entry that is yet to name it
abbrev pub owes_links : Tables → List ℕ → Inode → Bool
owes_links t links r = r.refcount == listed_inode_count t r.id + times r.id links

-- the count of a name is the listed one, and one more for each entry or attribute that is yet to use it
abbrev pub owes_uses : Tables → List ℕ → Name → Bool
owes_uses t uses r = r.refcount == listed_name_count t r.id + times r.id uses && nat_le 1 r.refcount

-- some entry of the directory has the name
abbrev pub has_entry : Tables → ℕ → List ℕ → Bool
has_entry t parent name = list_any (λ r. r.parent == parent && is_eq (bytes_cmp name (bytes_of_name t r.name_id))) t.contents

-- Tables that are in order, but for links of inodes and uses of names that are counted and not yet there. Where nothing is
-- owed they have the premises of valid tables.
pub record Owes (t : Tables) (p : Parameters) (links uses : List ℕ) : Type 0 where
  pub made : t.params ≡ Some p
  pub ordered : IsOrdered t
  pub unlike : IsTrue (differ (have_one_name t) t.contents)
  pub inodes : IsTrue (list_all (owes_links t links) t.inodes)
  pub names : IsTrue (list_all (owes_uses t uses) t.names)
  pub blocks : IsTrue (list_all (counts_block t) t.blocks)
  pub objects : IsTrue (list_all (counts_object t) t.objects)
  pub rows : FindsRows t
  pub distinct : HasDistinctBlocks t p
  pub sizes : FitsSizes t p
  pub free : HasFreeIds t p
  -- the next inode number is above all, and above all that entries name
  pub numbers : IsTrue (list_all (λ r. nat_lt r.id p.next_inode) t.inodes)
  pub children : IsTrue (list_all (λ r. nat_lt r.inode p.next_inode) t.contents)

-- no row names the inode as a directory, as a file with blocks or slots, as a link with a target, or as one with attributes
pub record HasNothing (t : Tables) (id : ℕ) : Type 0 where
  pub entries : IsTrue (list_all (λ (r : Content). not (r.parent == id)) t.contents)
  pub inode_blocks : IsTrue (list_all (λ (r : InodeBlock). not (r.inode == id)) t.inode_blocks)
  pub targets : IsTrue (list_all (λ (r : Target). not (r.inode == id)) t.targets)
  pub attrs : IsTrue (list_all (λ (r : Attr). not (r.inode == id)) t.attrs)
  pub slots : IsTrue (list_all (λ (r : Slot). not (r.inode == id)) t.slots)

-- no entry is in it, and no block or slot is of it
pub record IsBare (t : Tables) (id : ℕ) : Type 0 where
  pub entries : IsTrue (list_all (λ (r : Content). not (r.parent == id)) t.contents)
  pub inode_blocks : IsTrue (list_all (λ (r : InodeBlock). not (r.inode == id)) t.inode_blocks)
  pub slots : IsTrue (list_all (λ (r : Slot). not (r.inode == id)) t.slots)
