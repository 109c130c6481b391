-- What the file has of each row: a value in each column, whole numbers and blobs.
use Rattle.std.specs.Prelude.{◌≡◌, ℕ, ◌+◌, pos, negsuc, List, length, Option, None, Some, if◌then◌else◌}
use Rattle.sqlite_value.specs.declared.value.Value.{Value}
use Rattle.sqlite_value.specs.declared.value.Value.TheVariants.{Int, Blob}
use Rattle.sqlite_value.specs.Order.{column}
use Rattle.s3_base.specs.declared.node_kind.Kind.{Kind}
use Rattle.s3_base.specs.declared.node_kind.Kind.TheVariants.{Directory, Regular, Link}
use Rattle.s3_rows.specs.declared.params.State.{State}
use Rattle.s3_rows.specs.declared.params.State.TheVariants.{Clean, Mounted, Restored}
use Rattle.s3_rows.specs.Rows.{Inode, Name, Content, InodeBlock, Block, Object, Target, Attr, Slot, Parameters}

-- a whole number
abbrev pub number : ℕ → Value
number n = Int (pos n)

-- the bits of the mode that say what an inode is
abbrev pub type_bits : Kind → ℕ
type_bits Directory = 0o040000
type_bits Regular = 0o100000
type_bits Link = 0o120000

-- 4096 times a number of its own for each kind, and the twelve permission bits
abbrev pub file_mode : Kind → ℕ → ℕ
file_mode kind mode = type_bits kind + mode

-- the size of an object, -1 while it is not uploaded
abbrev pub object_size : Option ℕ → Value
object_size None = Int (negsuc 0)
object_size (Some n) = number n

abbrev pub state_number : State → ℕ
state_number Clean = 0
state_number Mounted = 1
state_number Restored = 2

pub record IsInodeRow (values : List Value) (r : Inode) : Type 0 where
  pub width : length values ≡ 9
  pub id : column values 0 ≡ number r.id
  pub mode : column values 1 ≡ number (file_mode r.kind r.mode)
  pub uid : column values 2 ≡ number r.uid
  pub gid : column values 3 ≡ number r.gid
  pub mtime : column values 4 ≡ number r.mtime
  pub ctime : column values 5 ≡ number r.ctime
  pub refcount : column values 6 ≡ number r.refcount
  pub size : column values 7 ≡ number r.size
  pub locked : column values 8 ≡ number (if r.locked then 1 else 0)

pub record IsNameRow (values : List Value) (r : Name) : Type 0 where
  pub width : length values ≡ 3
  pub id : column values 0 ≡ number r.id
  pub refcount : column values 1 ≡ number r.refcount
  pub name : column values 2 ≡ Blob r.name

pub record IsContentRow (values : List Value) (r : Content) : Type 0 where
  pub width : length values ≡ 3
  pub parent : column values 0 ≡ number r.parent
  pub name_id : column values 1 ≡ number r.name_id
  pub inode : column values 2 ≡ number r.inode

pub record IsInodeBlockRow (values : List Value) (r : InodeBlock) : Type 0 where
  pub width : length values ≡ 3
  pub inode : column values 0 ≡ number r.inode
  pub blockno : column values 1 ≡ number r.blockno
  pub block : column values 2 ≡ number r.block

pub record IsBlockRow (values : List Value) (r : Block) : Type 0 where
  pub width : length values ≡ 5
  pub id : column values 0 ≡ number r.id
  pub digest : column values 1 ≡ Blob r.digest.0
  pub refcount : column values 2 ≡ number r.refcount
  pub size : column values 3 ≡ number r.size
  pub object : column values 4 ≡ number r.object

pub record IsObjectRow (values : List Value) (r : Object) : Type 0 where
  pub width : length values ≡ 3
  pub id : column values 0 ≡ number r.id
  pub refcount : column values 1 ≡ number r.refcount
  pub size : column values 2 ≡ object_size r.size

pub record IsTargetRow (values : List Value) (r : Target) : Type 0 where
  pub width : length values ≡ 2
  pub inode : column values 0 ≡ number r.inode
  pub target : column values 1 ≡ Blob r.target

pub record IsAttrRow (values : List Value) (r : Attr) : Type 0 where
  pub width : length values ≡ 3
  pub inode : column values 0 ≡ number r.inode
  pub name_id : column values 1 ≡ number r.name_id
  pub value : column values 2 ≡ Blob r.value

pub record IsSlotRow (values : List Value) (r : Slot) : Type 0 where
  pub width : length values ≡ 5
  pub slot : column values 0 ≡ number r.slot
  pub inode : column values 1 ≡ number r.inode
  pub blockno : column values 2 ≡ number r.blockno
  pub version : column values 3 ≡ number r.version
  pub len : column values 4 ≡ number r.len

-- the row of parameters, without its own key
pub record IsParamsRow (values : List Value) (r : Parameters) : Type 0 where
  pub width : length values ≡ 10
  pub revision : column values 0 ≡ number r.revision
  pub block_size : column values 1 ≡ number r.block_size
  pub slots : column values 2 ≡ number r.slots
  pub state : column values 3 ≡ number (state_number r.state)
  pub next_inode : column values 4 ≡ number r.next_inode
  pub next_name : column values 5 ≡ number r.next_name
  pub next_block : column values 6 ≡ number r.next_block
  pub next_object : column values 7 ≡ number r.next_object
  pub generation : column values 8 ≡ number r.generation
  pub last_done : column values 9 ≡ number r.last_done
