-- The rows of the tables, as lists of numbers and bytes, and what each field may be.
use Rattle.std.specs.Prelude.{◌≡◌, ℕ, ◌≢◌, ◌*◌, ◌^◌, ◌<◌, ◌≤◌, List, length, Bool, Option, All}
use Rattle.std.specs.Option.{ForSome}
use Rattle.s3_base.specs.declared.node_kind.Kind.{Kind}
use Rattle.s3_rows.specs.declared.digest.Digest.{Digest}
use Rattle.s3_rows.specs.declared.params.State.{State}

-- an inode: its attributes, how many entries name it, and how long it is
pub record Inode : Type 0 where
  pub id : ℕ
  pub kind : Kind
  pub mode : ℕ
  pub uid : ℕ
  pub gid : ℕ
  pub mtime : ℕ
  pub ctime : ℕ
  pub refcount : ℕ
  pub size : ℕ
  pub locked : Bool

-- bytes of a name of entries or attributes, and how many of these have it
pub record Name : Type 0 where
  pub id : ℕ
  pub refcount : ℕ
  pub name : List ℕ

-- an entry of a directory
pub record Content : Type 0 where
  pub parent : ℕ
  pub name_id : ℕ
  pub inode : ℕ

-- which block lies at a place of a file
pub record InodeBlock : Type 0 where
  pub inode : ℕ
  pub blockno : ℕ
  pub block : ℕ

-- a block: the SHA-256 and the length of its stored form, and the object that has it
pub record Block : Type 0 where
  pub id : ℕ
  pub digest : Digest
  pub refcount : ℕ
  pub size : ℕ
  pub object : ℕ

-- an object of the store; without size while it is not uploaded
pub record Object : Type 0 where
  pub id : ℕ
  pub refcount : ℕ
  pub size : Option ℕ

-- the target of a symbolic link
pub record Target : Type 0 where
  pub inode : ℕ
  pub target : List ℕ

-- an extended attribute
pub record Attr : Type 0 where
  pub inode : ℕ
  pub name_id : ℕ
  pub value : List ℕ

-- a slot of the cache disk that holds a version of a block
pub record Slot : Type 0 where
  pub slot : ℕ
  pub inode : ℕ
  pub blockno : ℕ
  pub version : ℕ
  pub len : ℕ

-- what holds of the whole file system
pub record Parameters : Type 0 where
  pub revision : ℕ
  pub block_size : ℕ
  pub slots : ℕ
  pub state : State
  pub next_inode : ℕ
  pub next_name : ℕ
  pub next_block : ℕ
  pub next_object : ℕ
  pub generation : ℕ
  pub last_done : ℕ

-- ---- ranges

-- the number of an inode, a name, a block or an object
abbrev pub IsId : ℕ → Type 0
IsId n = (0 < n) × (n < 2 ^ 62)

-- the number that comes next
abbrev pub IsNext : ℕ → Type 0
IsNext n = (0 < n) × (n ≤ 2 ^ 62)

-- a text of between one and this many bytes, none of them 0
abbrev pub IsText : ℕ → List ℕ → Type 0
IsText limit bytes = (0 < length bytes) × (length bytes ≤ limit) × All (λ b. b ≢ 0) bytes

-- the bytes of a block's stored form
abbrev pub IsBlockSize : ℕ → Type 0
IsBlockSize n = (0 < n) × (n ≤ 10485760)

pub record IsInode (r : Inode) : Type 0 where
  pub id : IsId r.id
  pub mode : r.mode ≤ 4095
  pub mtime : r.mtime < 2 ^ 62
  pub ctime : r.ctime < 2 ^ 62
  pub refcount : r.refcount < 2 ^ 62
  pub size : r.size ≤ 2 ^ 50

pub record IsName (r : Name) : Type 0 where
  pub id : IsId r.id
  pub refcount : r.refcount < 2 ^ 62
  pub name : IsText 255 r.name

pub record IsContent (r : Content) : Type 0 where
  pub parent : IsId r.parent
  pub name_id : IsId r.name_id
  pub inode : IsId r.inode

pub record IsInodeBlock (r : InodeBlock) : Type 0 where
  pub inode : IsId r.inode
  pub blockno : r.blockno < 2 ^ 38
  pub block : IsId r.block

pub record IsBlock (r : Block) : Type 0 where
  pub id : IsId r.id
  pub refcount : r.refcount < 2 ^ 62
  pub size : IsBlockSize r.size
  pub object : IsId r.object

pub record IsObject (r : Object) : Type 0 where
  pub id : IsId r.id
  pub refcount : r.refcount < 2 ^ 62
  pub size : ForSome r.size IsBlockSize

pub record IsTarget (r : Target) : Type 0 where
  pub inode : IsId r.inode
  pub target : IsText 4095 r.target

pub record IsAttr (r : Attr) : Type 0 where
  pub inode : IsId r.inode
  pub name_id : IsId r.name_id
  pub value : length r.value ≤ 65536

pub record IsSlot (r : Slot) : Type 0 where
  pub slot : r.slot ≤ 65535
  pub inode : IsId r.inode
  pub blockno : r.blockno < 2 ^ 38
  pub version : IsNext r.version
  pub len : r.len ≤ 10485760

pub record IsParameters (r : Parameters) : Type 0 where
  pub revision : r.revision ≡ 1
  pub least : 4096 ≤ r.block_size
  pub greatest : r.block_size ≤ 10485760
  pub slots : r.slots ≤ 65536
  pub disk : r.slots * r.block_size ≤ 2 ^ 32
  pub next_inode : IsNext r.next_inode
  pub next_name : IsNext r.next_name
  pub next_block : IsNext r.next_block
  pub next_object : IsNext r.next_object
  pub generation : r.generation < 2 ^ 62
  pub last_done : r.last_done ≤ r.generation
