-- The rows of one table among rows of any table, as a keeper gives them.
use Rattle.std.specs.Prelude.{◌≡◌, List, [], ◌∷◌, ◌++◌, map, Bool, false, IsTrue, Option, None, Some}
use Rattle.s3_rows.specs.declared.table_rows.Row.{Row}
use Rattle.s3_rows.specs.declared.table_rows.Row.TheVariants as rows
use Rattle.s3_rows.specs.declared.table_rows.RowKey.{RowKey}
use Rattle.s3_rows.specs.declared.table_rows.RowKey.TheVariants as keys
use Rattle.s3_rows.specs.declared.table_rows.TableName.{TableName}
use Rattle.s3_rows.specs.declared.table_rows.TableName.TheVariants as tables
use Rattle.s3_rows.specs.Rows.{Inode, Name, Content, InodeBlock, Block, Object, Target, Attr, Slot}
use Rattle.s3_rows.specs.Tables.{Tables}
use Rattle.s3_rows.specs.Selections.{is_row_past, rows_of, fits_key}
use Rattle.s3_rows.specs.Told.{key_of_row}
use Rattle.keeper_dump.specs.Part.{is_key_past}

-- a table: its name, its rows among all tables, a row as one of any table, and back
pub record Kept (R : Type 0) : Type 0 where
  pub table : TableName
  pub listed : Tables → List R
  pub wrap : R → Row
  pub unwrap : Row → Option R

-- rows of the table are the rows of any table with its name
pub record IsKept {R : Type 0} (key : R → RowKey) (k : Kept R) : Type 0 where
  pub there : (x : R) → k.unwrap (k.wrap x) ≡ Some x
  pub back : (row : Row) (x : R) → k.unwrap row ≡ Some x → row ≡ k.wrap x
  pub same_key : (x : R) → key_of_row (k.wrap x) ≡ key x
  pub past : (before : RowKey) (x : R) → is_row_past before (k.wrap x) ≡ is_key_past before (key x)
  pub apart : (x : R) → is_key_past (key x) (key x) ≡ false
  pub all : (t : Tables) → rows_of t k.table ≡ map k.wrap (k.listed t)
  pub fits : (x : R) → IsTrue (fits_key k.table (key x))

-- the key of the last row
abbrev pub last_key : {R : Type 0} → (R → RowKey) → List R → RowKey
last_key key [] = keys.Start
last_key key (r ∷ []) = key r
last_key key (r ∷ x ∷ xs) = last_key key (x ∷ xs)

-- these are the first rows of all
pub record IsStart {R : Type 0} (done all : List R) : Type 0 where
  pub rest : List R
  pub parts : all ≡ done ++ rest

abbrev pub inode_in : Row → Option Inode
inode_in (rows.Inode r) = Some r
inode_in _ = None

abbrev pub name_in : Row → Option Name
name_in (rows.Name r) = Some r
name_in _ = None

abbrev pub content_in : Row → Option Content
content_in (rows.Content r) = Some r
content_in _ = None

abbrev pub inode_block_in : Row → Option InodeBlock
inode_block_in (rows.InodeBlock r) = Some r
inode_block_in _ = None

abbrev pub block_in : Row → Option Block
block_in (rows.Block r) = Some r
block_in _ = None

abbrev pub object_in : Row → Option Object
object_in (rows.Object r) = Some r
object_in _ = None

abbrev pub target_in : Row → Option Target
target_in (rows.Target r) = Some r
target_in _ = None

abbrev pub attr_in : Row → Option Attr
attr_in (rows.Attr r) = Some r
attr_in _ = None

abbrev pub slot_in : Row → Option Slot
slot_in (rows.Slot r) = Some r
slot_in _ = None

abbrev pub kept_inodes : Kept Inode
kept_inodes = record { table = tables.Inodes; listed = λ t. t.inodes; wrap = rows.Inode; unwrap = inode_in }

abbrev pub kept_names : Kept Name
kept_names = record { table = tables.Names; listed = λ t. t.names; wrap = rows.Name; unwrap = name_in }

abbrev pub kept_contents : Kept Content
kept_contents = record { table = tables.Contents; listed = λ t. t.contents; wrap = rows.Content; unwrap = content_in }

abbrev pub kept_inode_blocks : Kept InodeBlock
kept_inode_blocks = record { table = tables.InodeBlocks; listed = λ t. t.inode_blocks; wrap = rows.InodeBlock; unwrap = inode_block_in }

abbrev pub kept_blocks : Kept Block
kept_blocks = record { table = tables.Blocks; listed = λ t. t.blocks; wrap = rows.Block; unwrap = block_in }

abbrev pub kept_objects : Kept Object
kept_objects = record { table = tables.Objects; listed = λ t. t.objects; wrap = rows.Object; unwrap = object_in }

abbrev pub kept_targets : Kept Target
kept_targets = record { table = tables.Targets; listed = λ t. t.targets; wrap = rows.Target; unwrap = target_in }

abbrev pub kept_attrs : Kept Attr
kept_attrs = record { table = tables.Attrs; listed = λ t. t.attrs; wrap = rows.Attr; unwrap = attr_in }

abbrev pub kept_slots : Kept Slot
kept_slots = record { table = tables.Slots; listed = λ t. t.slots; wrap = rows.Slot; unwrap = slot_in }

-- after a page more these are the first rows of all still, and all where it was the last page
pub record IsReadPage {R : Type 0} (last : Bool) (done all : List R) : Type 0 where
  pub start : IsStart done all
  pub whole : IsTrue last → done ≡ all
