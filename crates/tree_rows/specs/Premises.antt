-- What tables need beside a well-formed tree that they represent to be valid, and what valid tables need for their tree
-- to be well formed.
use Rattle.std.specs.Prelude.{ℕ, ◌==◌, ◌^◌, ◌≤◌, length, Bool, true, not, ◌&&◌, ◌||◌, nat_lt, nat_le, IsTrue, Option, None, Some, is_some}
use Rattle.std.specs.List.{list_all}
use Rattle.std.specs.Option.{ForSome}
use Rattle.s3_base.specs.declared.node_kind.Kind.{Kind}
use Rattle.s3_base.specs.declared.node_kind.Kind.TheVariants as kinds
use Rattle.plain_tree.specs.Tree.{Tree, node_at}
use Rattle.plain_tree.specs.Entries.{is_open}
use Rattle.plain_tree.specs.Numbers.{HandlesInOrder}
use Rattle.plain_tree.specs.WellFormed.{is_file}
use Rattle.s3_rows.specs.Rows.{Inode, Content, InodeBlock, Target, Parameters}
use Rattle.s3_rows.specs.Tables.{Tables, IsOrdered}
use Rattle.s3_rows.specs.Selections.{name_at, block_at, target_at}
use Rattle.s3_rows.specs.Validity.{is_directory, is_regular, is_link, has_inode, finds_of_attr, differ, have_one_name, HasExactCounts, HasDistinctBlocks, is_in_file, have_one_spot}

-- ---- rows

-- an entry finds its name, and a directory that it is in
abbrev pub finds_directory_and_name : Tables → Content → Bool
finds_directory_and_name t r = has_inode is_directory t r.parent && is_some (name_at t r.name_id)

-- a place in a file finds its block, and lies in no symbolic link
abbrev pub finds_block : Tables → InodeBlock → Bool
finds_block t r = not (has_inode is_link t r.inode) && is_some (block_at t r.block)

-- each row finds what it names, but for what the tree says
pub record FindsRows (t : Tables) : Type 0 where
  pub entries : IsTrue (list_all (finds_directory_and_name t) t.contents)
  pub inode_blocks : IsTrue (list_all (finds_block t) t.inode_blocks)
  pub targets : IsTrue (list_all (λ r. has_inode is_link t r.inode) t.targets)
  pub attrs : IsTrue (list_all (finds_of_attr t) t.attrs)
  pub slots : IsTrue (list_all (λ r. not (has_inode is_link t r.inode)) t.slots)

-- ---- sizes

-- a directory has size 0, and a symbolic link the length of its target, if it has one
abbrev pub fits_size : Kind → Option Target → ℕ → Bool
fits_size kinds.Directory target size = size == 0
fits_size kinds.Regular target size = true
fits_size kinds.Link None size = true
fits_size kinds.Link (Some r) size = size == length r.target

-- the row's size fits its kind
abbrev pub fits_kind : Tables → Inode → Bool
fits_kind t r = fits_size r.kind (target_at t r.id) r.size

-- sizes of directories and links, and what lies in files
pub record FitsSizes (t : Tables) (p : Parameters) : Type 0 where
  pub inodes : IsTrue (list_all (fits_kind t) t.inodes)
  pub inode_blocks : IsTrue (list_all (λ r. is_in_file t p r.inode r.blockno) t.inode_blocks)
  pub slots : IsTrue (list_all (λ r. is_in_file t p r.inode r.blockno) t.slots)
  pub spots : IsTrue (differ have_one_spot t.slots)
  pub numbers : IsTrue (list_all (λ r. nat_lt r.slot p.slots) t.slots)
  pub lengths : IsTrue (list_all (λ r. nat_le r.len p.block_size) t.slots)

-- ---- next numbers

-- each is above all of its table; of inodes the tree says it
pub record HasFreeIds (t : Tables) (p : Parameters) : Type 0 where
  pub names : IsTrue (list_all (λ r. nat_lt r.id p.next_name) t.names)
  pub blocks : IsTrue (list_all (λ r. nat_lt r.id p.next_block) t.blocks)
  pub objects : IsTrue (list_all (λ r. nat_lt r.id p.next_object) t.objects)

-- ---- all of it

-- what tables need beside the tree, which says the rest
pub record HasPremises (t : Tables) : Type 0 where
  pub ordered : IsOrdered t
  -- no directory has two entries with equal bytes
  pub names : IsTrue (differ (have_one_name t) t.contents)
  pub counts : HasExactCounts t
  pub rows : FindsRows t
  pub blocks : ForSome t.params (HasDistinctBlocks t)
  pub sizes : ForSome t.params (FitsSizes t)
  pub free : ForSome t.params (HasFreeIds t)

-- ---- the way back

-- an inode that no entry names is a regular file
abbrev pub is_named_or_regular : Inode → Bool
is_named_or_regular r = not (r.refcount == 0) || is_regular r.kind

-- and some handle is open on it
abbrev pub is_named_or_open : Tree → Inode → Bool
is_named_or_open whole r = not (r.refcount == 0) || is_open whole r.id

-- the handles of a tree are in order, on regular files that are there, and one is on each file that no entry names
pub record HasItsHandles (t : Tables) (whole : Tree) : Type 0 where
  pub order : HandlesInOrder whole
  pub next : whole.next_handle ≤ 2 ^ 62
  pub files : (inode : ℕ) → IsTrue (is_open whole inode) → IsTrue (is_file (node_at whole inode))
  pub nameless : IsTrue (list_all (is_named_or_open whole) t.inodes)
