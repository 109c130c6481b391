-- Valid tables: one tree of names, exact counts, and every number that is named there.
use Rattle.std.specs.Prelude.{◌≡◌, ℕ, zero, suc, ◌*◌, ◌==◌, List, [], ◌∷◌, length, Bool, true, false, not, ◌&&◌, ◌||◌, nat_lt, nat_le, IsTrue, Option, None, Some, is_some, option_map, option_and_then, find, codes}
use Rattle.s3_base.specs.Numbers.{root}
use Rattle.std.specs.List.{list_all, list_any}
use Rattle.std.specs.Ordering.{is_eq}
use Rattle.s3_base.specs.Names.{is_forbidden_name}
use Rattle.s3_base.specs.declared.node_kind.Kind.{Kind}
use Rattle.s3_base.specs.declared.node_kind.Kind.TheVariants as kinds
use Rattle.s3_rows.specs.Rows.{Inode, Name, Content, InodeBlock, Block, Object, Attr, Slot, Parameters}
use Rattle.s3_rows.specs.Tables.{Tables, IsOrdered}
use Rattle.s3_rows.specs.Selections.{inode_at, name_at, block_at, object_at, target_at, bytes_cmp, bytes_of_name}
use Rattle.s3_rows.specs.Counts.{listed_inode_count, listed_name_count, listed_block_count, listed_object_count}

-- ---- words

abbrev pub is_directory : Kind → Bool
is_directory kinds.Directory = true
is_directory kinds.Regular = false
is_directory kinds.Link = false

abbrev pub is_regular : Kind → Bool
is_regular kinds.Directory = false
is_regular kinds.Regular = true
is_regular kinds.Link = false

abbrev pub is_link : Kind → Bool
is_link kinds.Directory = false
is_link kinds.Regular = false
is_link kinds.Link = true

-- the inode has a row, of a kind that passes the test
abbrev pub has_inode : (Kind → Bool) → Tables → ℕ → Bool
has_inode test t id = elim (inode_at t id) [ Some r ↦ test r.kind | None ↦ false ]

abbrev pub any_kind : Kind → Bool
any_kind kind = true

-- some entry names the inode
abbrev pub is_named : Tables → ℕ → Bool
is_named t id = list_any (λ r. r.inode == id) t.contents

-- no two rows are alike
abbrev pub differ : {R : Type 0} → (R → R → Bool) → List R → Bool
differ alike [] = true
differ alike (r ∷ rs) = not (list_any (alike r) rs) && differ alike rs

-- ---- counts: each stored count is the listed one, and names and blocks are used

abbrev pub counts_inode : Tables → Inode → Bool
counts_inode t r = r.refcount == listed_inode_count t r.id

abbrev pub counts_name : Tables → Name → Bool
counts_name t r = r.refcount == listed_name_count t r.id && nat_le 1 r.refcount

abbrev pub counts_block : Tables → Block → Bool
counts_block t r = r.refcount == listed_block_count t r.id && nat_le 1 r.refcount

abbrev pub counts_object : Tables → Object → Bool
counts_object t r = r.refcount == listed_object_count t r.id

pub record HasExactCounts (t : Tables) : Type 0 where
  pub inodes : IsTrue (list_all (counts_inode t) t.inodes)
  pub names : IsTrue (list_all (counts_name t) t.names)
  pub blocks : IsTrue (list_all (counts_block t) t.blocks)
  pub objects : IsTrue (list_all (counts_object t) t.objects)

-- ---- rows: each number that a row names has its row, of the right kind

abbrev pub finds_of_entry : Tables → Content → Bool
finds_of_entry t r = has_inode is_directory t r.parent && is_some (name_at t r.name_id) && has_inode any_kind t r.inode

abbrev pub finds_of_inode_block : Tables → InodeBlock → Bool
finds_of_inode_block t r = has_inode is_regular t r.inode && is_some (block_at t r.block)

abbrev pub finds_of_attr : Tables → Attr → Bool
finds_of_attr t r = has_inode any_kind t r.inode && is_some (name_at t r.name_id)

-- a symbolic link has a target
abbrev pub finds_target : Tables → Inode → Bool
finds_target t r = not (is_link r.kind) || is_some (target_at t r.id)

pub record HasItsRows (t : Tables) : Type 0 where
  pub entries : IsTrue (list_all (finds_of_entry t) t.contents)
  pub inode_blocks : IsTrue (list_all (finds_of_inode_block t) t.inode_blocks)
  pub objects : IsTrue (list_all (λ r. is_some (object_at t r.object)) t.blocks)
  pub targets : IsTrue (list_all (λ r. has_inode is_link t r.inode) t.targets)
  pub links : IsTrue (list_all (finds_target t) t.inodes)
  pub attrs : IsTrue (list_all (finds_of_attr t) t.attrs)
  pub slots : IsTrue (list_all (λ r. has_inode is_regular t r.inode) t.slots)

-- ---- names: one tree of directories from the root

-- the directory that has an entry for the inode
abbrev pub parent_of : Tables → ℕ → Option ℕ
parent_of t id = option_map (λ r. r.parent) (find (λ r. r.inode == id) t.contents)

-- in so many steps from parent to parent there is the root
abbrev pub leads_to_root : ℕ → Tables → ℕ → Bool
leads_to_root zero t id = id == root
leads_to_root (suc steps) t id = id == root || elim (parent_of t id) [ Some parent ↦ leads_to_root steps t parent | None ↦ false ]

-- no chain of parents is longer than the inodes are many
abbrev pub is_below_root : Tables → Inode → Bool
is_below_root t r = not (is_directory r.kind) || leads_to_root (length t.inodes) t r.id

-- a directory but the root is named by exactly one entry
abbrev pub is_named_once : Tables → Inode → Bool
is_named_once t r = not (is_directory r.kind) || r.id == root || listed_inode_count t r.id == 1

abbrev pub has_legal_name : Tables → Content → Bool
has_legal_name t r = nat_le (length (bytes_of_name t r.name_id)) 255 && not (is_forbidden_name (bytes_of_name t r.name_id))

-- two entries of one directory with the same bytes
abbrev pub have_one_name : Tables → Content → Content → Bool
have_one_name t a b = a.parent == b.parent && is_eq (bytes_cmp (bytes_of_name t a.name_id) (bytes_of_name t b.name_id))

abbrev pub lost_and_found : List ℕ
lost_and_found = codes "lost+found"

-- the entry lost+found of the root, which names a directory
abbrev pub is_lost_and_found : Tables → Content → Bool
is_lost_and_found t r =
    r.parent == root && is_eq (bytes_cmp (bytes_of_name t r.name_id) lost_and_found) && has_inode is_directory t r.inode

pub record HasOneTree (t : Tables) : Type 0 where
  pub is_rooted : IsTrue (has_inode is_directory t root)
  pub root_is_unnamed : IsTrue (not (is_named t root))
  pub named_once : IsTrue (list_all (is_named_once t) t.inodes)
  pub below_root : IsTrue (list_all (is_below_root t) t.inodes)
  pub legal : IsTrue (list_all (has_legal_name t) t.contents)
  pub unlike : IsTrue (differ (have_one_name t) t.contents)
  pub keeps_lost_and_found : IsTrue (list_any (is_lost_and_found t) t.contents)

-- ---- orphans: an inode but the root that no entry names is no directory

abbrev pub is_no_lost_directory : Tables → Inode → Bool
is_no_lost_directory t r = r.id == root || is_named t r.id || not (is_directory r.kind)

-- ---- blocks: they differ in their digests and in their objects, and each has its object's size

-- the option has this number
abbrev pub is_number : ℕ → Option ℕ → Bool
is_number n None = false
is_number n (Some m) = n == m

abbrev pub has_size_of_object : Tables → Block → Bool
has_size_of_object t r = is_number r.size (option_and_then (λ o. o.size) (object_at t r.object))

abbrev pub have_one_digest : Block → Block → Bool
have_one_digest a b = is_eq (bytes_cmp a.digest.0 b.digest.0)

abbrev pub have_one_object : Block → Block → Bool
have_one_object a b = a.object == b.object

pub record HasDistinctBlocks (t : Tables) (p : Parameters) : Type 0 where
  pub digests : IsTrue (differ have_one_digest t.blocks)
  pub objects : IsTrue (differ have_one_object t.blocks)
  pub sizes : IsTrue (list_all (has_size_of_object t) t.blocks)
  pub within : IsTrue (list_all (λ r. nat_le r.size p.block_size) t.blocks)

-- ---- sizes: of directories and links, and of what lies in files

-- a directory has size 0, and a link its target's length
abbrev pub has_its_size : Tables → Inode → Bool
has_its_size t r =
    elim r.kind [
      | kinds.Directory ↦ r.size == 0
      | kinds.Regular ↦ true
      | kinds.Link ↦ is_number r.size (option_map (λ x. length x.target) (target_at t r.id))
    ]

-- the block begins before the end of the file
abbrev pub is_in_file : Tables → Parameters → ℕ → ℕ → Bool
is_in_file t p inode blockno = elim (inode_at t inode) [ Some r ↦ nat_lt (blockno * p.block_size) r.size | None ↦ false ]

abbrev pub have_one_spot : Slot → Slot → Bool
have_one_spot a b = a.inode == b.inode && a.blockno == b.blockno

pub record HasItsSizes (t : Tables) (p : Parameters) : Type 0 where
  pub inodes : IsTrue (list_all (has_its_size t) t.inodes)
  pub inode_blocks : IsTrue (list_all (λ r. is_in_file t p r.inode r.blockno) t.inode_blocks)
  pub slots : IsTrue (list_all (λ r. is_in_file t p r.inode r.blockno) t.slots)
  pub spots : IsTrue (differ have_one_spot t.slots)
  pub numbers : IsTrue (list_all (λ r. nat_lt r.slot p.slots) t.slots)
  pub lengths : IsTrue (list_all (λ r. nat_le r.len p.block_size) t.slots)

-- ---- next numbers: each is above all of its table

pub record HasFreeNumbers (t : Tables) (p : Parameters) : Type 0 where
  pub inodes : IsTrue (list_all (λ r. nat_lt r.id p.next_inode) t.inodes)
  pub names : IsTrue (list_all (λ r. nat_lt r.id p.next_name) t.names)
  pub blocks : IsTrue (list_all (λ r. nat_lt r.id p.next_block) t.blocks)
  pub objects : IsTrue (list_all (λ r. nat_lt r.id p.next_object) t.objects)

-- ---- all of it

-- the tables of a file system that is whole
pub record IsValid (t : Tables) : Type 0 where
  pub params : Parameters
  pub is_made : t.params ≡ Some params
  pub ordered : IsOrdered t
  pub counts : HasExactCounts t
  pub rows : HasItsRows t
  pub tree : HasOneTree t
  pub orphans : IsTrue (list_all (is_no_lost_directory t) t.inodes)
  pub blocks : HasDistinctBlocks t params
  pub sizes : HasItsSizes t params
  pub free : HasFreeNumbers t params

-- no two names have the same bytes
abbrev pub have_same_bytes : Name → Name → Bool
have_same_bytes a b = is_eq (bytes_cmp a.name b.name)

abbrev pub HasUniqueNames : Tables → Type 0
HasUniqueNames t = IsTrue (differ have_same_bytes t.names)
