-- The tables: finite lists of rows by key, and the parameters once a file system is made.
use Rattle.std.specs.Prelude.{ℕ, List, [], IsTrue, Option, None}
use Rattle.std.specs.Ordering.{nat_cmp}
use Rattle.s3_rows.specs.Rows.{Inode, Name, Content, InodeBlock, Block, Object, Target, Attr, Slot, Parameters}
use Rattle.s3_rows.specs.Keyed.{Order, pair_cmp, rises}

pub record Tables : Type 0 where
  pub params : Option Parameters
  pub inodes : List Inode
  pub names : List Name
  pub contents : List Content
  pub inode_blocks : List InodeBlock
  pub blocks : List Block
  pub objects : List Object
  pub targets : List Target
  pub attrs : List Attr
  pub slots : List Slot

-- ---- the key of each table

abbrev pub by_inode : Order ℕ Inode
by_inode = record { compare = nat_cmp; key = λ r. r.id }

abbrev pub by_name : Order ℕ Name
by_name = record { compare = nat_cmp; key = λ r. r.id }

abbrev pub by_entry : Order (ℕ × ℕ) Content
by_entry = record { compare = pair_cmp; key = λ r. (r.parent, r.name_id) }

abbrev pub by_spot : Order (ℕ × ℕ) InodeBlock
by_spot = record { compare = pair_cmp; key = λ r. (r.inode, r.blockno) }

abbrev pub by_block : Order ℕ Block
by_block = record { compare = nat_cmp; key = λ r. r.id }

abbrev pub by_object : Order ℕ Object
by_object = record { compare = nat_cmp; key = λ r. r.id }

abbrev pub by_target : Order ℕ Target
by_target = record { compare = nat_cmp; key = λ r. r.inode }

abbrev pub by_attr : Order (ℕ × ℕ) Attr
by_attr = record { compare = pair_cmp; key = λ r. (r.inode, r.name_id) }

abbrev pub by_slot : Order ℕ Slot
by_slot = record { compare = nat_cmp; key = λ r. r.slot }

-- nothing at all
abbrev pub no_tables : Tables
no_tables = record {
  params = None;
  inodes = [];
  names = [];
  contents = [];
  inode_blocks = [];
  blocks = [];
  objects = [];
  targets = [];
  attrs = [];
  slots = [];
}

-- the rows of each table rise strictly by key
pub record IsOrdered (t : Tables) : Type 0 where
  pub inodes : IsTrue (rises by_inode t.inodes)
  pub names : IsTrue (rises by_name t.names)
  pub contents : IsTrue (rises by_entry t.contents)
  pub inode_blocks : IsTrue (rises by_spot t.inode_blocks)
  pub blocks : IsTrue (rises by_block t.blocks)
  pub objects : IsTrue (rises by_object t.objects)
  pub targets : IsTrue (rises by_target t.targets)
  pub attrs : IsTrue (rises by_attr t.attrs)
  pub slots : IsTrue (rises by_slot t.slots)
