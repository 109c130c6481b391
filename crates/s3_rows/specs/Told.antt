-- What a keeper tells, and what is known of its answers where it tells nothing.
use Rattle.std.specs.Prelude.{ℕ, ◌+◌, ◌-◌, ◌^◌, List, [], ◌∷◌, length, min, Bool, true, false, ◌&&◌, ◌==◌, nat_lt, nat_le, Option, Result, Ok, Err, IfSome}
use Rattle.std.specs.List.{list_all}
use Rattle.std.specs.Ordering.{nat_cmp}
use Rattle.s3_rows.specs.declared.change.Change.{Change}
use Rattle.s3_rows.specs.declared.keeper.KeeperFault.{KeeperFault}
use Rattle.s3_rows.specs.declared.keeper.KeeperFault.TheVariants as faults
use Rattle.s3_rows.specs.declared.table_rows.Row.{Row}
use Rattle.s3_rows.specs.declared.table_rows.Row.TheVariants as rows
use Rattle.s3_rows.specs.declared.table_rows.RowKey.{RowKey}
use Rattle.s3_rows.specs.declared.table_rows.RowKey.TheVariants as keys
use Rattle.s3_rows.specs.declared.table_rows.TableName.{TableName}
use Rattle.s3_rows.specs.declared.table_rows.TableName.TheVariants as tables
use Rattle.s3_rows.specs.Rows.{InodeBlock, Slot}
use Rattle.s3_rows.specs.Keyed.{Order, rises, is_past}
use Rattle.s3_rows.specs.Tables.{Tables, by_inode, by_name, by_entry, by_spot, by_block, by_object, by_target, by_attr, by_slot}
use Rattle.s3_rows.specs.Batches.{tables_after}
use Rattle.s3_rows.specs.Selections.{is_row_past}

-- the tables, and how many batches were committed
pub record Told : Type 0 where
  pub tables : Tables
  pub commits : ℕ

-- one more; the number stands still at the end of its type
abbrev pub one_more : ℕ → ℕ
one_more n = min (n + 1) (2 ^ 64 - 1)

-- after one more batch
abbrev pub with_batch : List Change → Told → Told
with_batch batch s = record { tables = tables_after batch s.tables; commits = one_more s.commits }

-- after batches, one after the other
abbrev pub with_batches : List (List Change) → Told → Told
with_batches [] s = s
with_batches (b ∷ bs) s = with_batches bs (with_batch b s)

-- the fact holds of the tables, where they are told
abbrev pub IfTold : Option Told → (Tables → Type 0) → Type 0
IfTold told P = IfSome told (λ s. P s.tables)

-- the device has failed, and it was no want of memory
abbrev pub has_failed : {T : Type 0} → Result T KeeperFault → Bool
has_failed (Ok x) = false
has_failed (Err faults.Failed) = true
has_failed (Err faults.Memory) = false

-- ---- lists, also where the tables are not told: at most max rows, all of them past the start, that rise strictly

abbrev pub is_page : {K R : Type 0} → Order K R → K → ℕ → List R → Bool
is_page o after max rows = nat_le (length rows) max && list_all (is_past o after) rows && rises o rows

-- names have 1 to 255 bytes
abbrev pub has_short_name : List ℕ → Bool
has_short_name name = nat_lt 0 (length name) && nat_le (length name) 255

-- of one file, from a block on
abbrev pub is_run_of : ℕ → ℕ → ℕ → List InodeBlock → Bool
is_run_of inode from max rows =
    nat_le (length rows) max && list_all (λ r. r.inode == inode && nat_le from r.blockno) rows && rises by_spot rows

abbrev pub by_number : Order ℕ ℕ
by_number = record { compare = nat_cmp; key = λ n. n }

-- slots from a number on
abbrev pub is_run_of_slots : ℕ → ℕ → List Slot → Bool
is_run_of_slots from max rows = nat_le (length rows) max && list_all (λ r. nat_le from r.slot) rows && rises by_slot rows

-- the key of a row
abbrev pub key_of_row : Row → RowKey
key_of_row (rows.Inode r) = keys.One (by_inode.key r)
key_of_row (rows.Name r) = keys.One (by_name.key r)
key_of_row (rows.Content r) = keys.Two (by_entry.key r).0 (by_entry.key r).1
key_of_row (rows.InodeBlock r) = keys.Two (by_spot.key r).0 (by_spot.key r).1
key_of_row (rows.Block r) = keys.One (by_block.key r)
key_of_row (rows.Object r) = keys.One (by_object.key r)
key_of_row (rows.Target r) = keys.One (by_target.key r)
key_of_row (rows.Attr r) = keys.Two (by_attr.key r).0 (by_attr.key r).1
key_of_row (rows.Slot r) = keys.One (by_slot.key r)

-- each row comes after all before it
abbrev pub rows_rise : List Row → Bool
rows_rise [] = true
rows_rise (r ∷ rs) = list_all (is_row_past (key_of_row r)) rs && rows_rise rs

-- the row is of the table
abbrev pub is_row_of : TableName → Row → Bool
is_row_of table (rows.Inode r) = elim table [ tables.Inodes ↦ true | _ ↦ false ]
is_row_of table (rows.Name r) = elim table [ tables.Names ↦ true | _ ↦ false ]
is_row_of table (rows.Content r) = elim table [ tables.Contents ↦ true | _ ↦ false ]
is_row_of table (rows.InodeBlock r) = elim table [ tables.InodeBlocks ↦ true | _ ↦ false ]
is_row_of table (rows.Block r) = elim table [ tables.Blocks ↦ true | _ ↦ false ]
is_row_of table (rows.Object r) = elim table [ tables.Objects ↦ true | _ ↦ false ]
is_row_of table (rows.Target r) = elim table [ tables.Targets ↦ true | _ ↦ false ]
is_row_of table (rows.Attr r) = elim table [ tables.Attrs ↦ true | _ ↦ false ]
is_row_of table (rows.Slot r) = elim table [ tables.Slots ↦ true | _ ↦ false ]

abbrev pub is_page_of : TableName → RowKey → ℕ → List Row → Bool
is_page_of table after max rows =
    nat_le (length rows) max && list_all (is_row_of table) rows && list_all (is_row_past after) rows && rows_rise rows
