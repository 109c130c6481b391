-- What each look-up and each list gives of tables.
use Rattle.std.specs.Prelude.{ℕ, List, [], Bool, true, false, ◌&&◌, ◌==◌, nat_lt, nat_le, Option, option_map, find, filter, map, take, unwrap_or}
use Rattle.std.specs.List.{filter_map}
use Rattle.std.specs.declared.cmp.Ordering.{Ordering}
use Rattle.std.specs.Ordering.{ordering_then, nat_cmp, is_eq, is_lt}
use Rattle.std.specs.Cmp.Lexicographic.{slice_cmp}
use Rattle.s3_rows.specs.declared.digest.Digest.{Digest}
use Rattle.s3_rows.specs.declared.lists.NamedEntry.{NamedEntry}
use Rattle.s3_rows.specs.declared.lists.NamedAttr.{NamedAttr}
use Rattle.s3_rows.specs.declared.table_rows.Row.{Row}
use Rattle.s3_rows.specs.declared.table_rows.Row.TheVariants as rows
use Rattle.s3_rows.specs.declared.table_rows.RowKey.{RowKey}
use Rattle.s3_rows.specs.declared.table_rows.RowKey.TheVariants as keys
use Rattle.s3_rows.specs.declared.table_rows.TableName.{TableName}
use Rattle.s3_rows.specs.declared.table_rows.TableName.TheVariants as tables
use Rattle.s3_rows.specs.Rows.{Inode, Name, Content, InodeBlock, Block, Object, Target, Attr, Slot}
use Rattle.s3_rows.specs.Keyed.{Order, row_at, rows_past, sorted_by, least, pair_cmp}
use Rattle.s3_rows.specs.Tables.{Tables, by_inode, by_name, by_entry, by_spot, by_block, by_object, by_target, by_attr, by_slot}

-- ---- by the key of a table

abbrev pub inode_at : Tables → ℕ → Option Inode
inode_at t id = row_at by_inode id t.inodes

abbrev pub name_at : Tables → ℕ → Option Name
name_at t id = row_at by_name id t.names

abbrev pub entry_at : Tables → ℕ → ℕ → Option Content
entry_at t parent name_id = row_at by_entry (parent, name_id) t.contents

abbrev pub inode_block_at : Tables → ℕ → ℕ → Option InodeBlock
inode_block_at t inode blockno = row_at by_spot (inode, blockno) t.inode_blocks

abbrev pub block_at : Tables → ℕ → Option Block
block_at t id = row_at by_block id t.blocks

abbrev pub object_at : Tables → ℕ → Option Object
object_at t id = row_at by_object id t.objects

abbrev pub target_at : Tables → ℕ → Option Target
target_at t inode = row_at by_target inode t.targets

abbrev pub attr_at : Tables → ℕ → ℕ → Option Attr
attr_at t inode name_id = row_at by_attr (inode, name_id) t.attrs

-- ---- by another column: of several rows the first by key

abbrev pub bytes_cmp : List ℕ → List ℕ → Ordering
bytes_cmp = slice_cmp nat_cmp

-- the name row of these bytes
abbrev pub name_of_bytes : Tables → List ℕ → Option Name
name_of_bytes t bytes = find (λ r. is_eq (bytes_cmp r.name bytes)) t.names

-- the block row of this digest
abbrev pub block_of_digest : Tables → Digest → Option Block
block_of_digest t digest = find (λ r. is_eq (bytes_cmp r.digest.0 digest.0)) t.blocks

-- the slot row of this spot
abbrev pub slot_of_spot : Tables → ℕ → ℕ → Option Slot
slot_of_spot t inode blockno = find (λ r. r.inode == inode && r.blockno == blockno) t.slots

-- the bytes of a name; none where it has no row
abbrev pub bytes_of_name : Tables → ℕ → List ℕ
bytes_of_name t name_id = unwrap_or (option_map (λ r. r.name) (name_at t name_id)) []

-- entries by parent and then by the bytes of their names
abbrev pub by_parent_and_bytes : Tables → Order (ℕ × List ℕ) Content
by_parent_and_bytes t = record {
  compare = λ a b. ordering_then (nat_cmp a.0 b.0) (bytes_cmp a.1 b.1);
  key = λ r. (r.parent, bytes_of_name t r.name_id);
}

-- an entry that names the inode, the least by parent and by the bytes of its name
abbrev pub holder_of : Tables → ℕ → Option Content
holder_of t inode = least (by_parent_and_bytes t) (filter (λ r. r.inode == inode) t.contents)

-- ---- lists

abbrev pub by_entry_name : Order (List ℕ) NamedEntry
by_entry_name = record { compare = bytes_cmp; key = λ e. e.name }

abbrev pub by_attr_name : Order (List ℕ) NamedAttr
by_attr_name = record { compare = bytes_cmp; key = λ a. a.name }

-- a row with the bytes of its name
abbrev pub with_entry_name : Tables → Content → Option NamedEntry
with_entry_name t r = option_map (λ n. record { row = r; name = n.name }) (name_at t r.name_id)

abbrev pub with_attr_name : Tables → Attr → Option NamedAttr
with_attr_name t r = option_map (λ n. record { row = r; name = n.name }) (name_at t r.name_id)

-- the entries of a directory in the order of their names; one without a name row is left out, and of several with the same
-- bytes the one with the least name id is taken
abbrev pub named_entries : Tables → ℕ → List NamedEntry
named_entries t parent = sorted_by by_entry_name (filter_map (with_entry_name t) (filter (λ r. r.parent == parent) t.contents))

-- the same for the attributes of an inode
abbrev pub named_attrs : Tables → ℕ → List NamedAttr
named_attrs t inode = sorted_by by_attr_name (filter_map (with_attr_name t) (filter (λ r. r.inode == inode) t.attrs))

abbrev pub entries_listed : Tables → ℕ → List ℕ → ℕ → List NamedEntry
entries_listed t parent after max = take max (rows_past by_entry_name after (named_entries t parent))

abbrev pub attrs_listed : Tables → ℕ → List ℕ → ℕ → List NamedAttr
attrs_listed t inode after max = take max (rows_past by_attr_name after (named_attrs t inode))

-- the rows of a file from a block on
abbrev pub inode_blocks_listed : Tables → ℕ → ℕ → ℕ → List InodeBlock
inode_blocks_listed t inode from max = take max (filter (λ r. r.inode == inode && nat_le from r.blockno) t.inode_blocks)

-- the objects that no block has, past a number
abbrev pub free_objects_listed : Tables → ℕ → ℕ → List ℕ
free_objects_listed t after max = take max (filter (nat_lt after) (map (λ r. r.id) (filter (λ r. r.refcount == 0) t.objects)))

abbrev pub slots_listed : Tables → ℕ → ℕ → List Slot
slots_listed t from max = take max (filter (λ r. nat_le from r.slot) t.slots)

-- ---- pages of any table

-- the number comes after the key
abbrev pub is_number_past : RowKey → ℕ → Bool
is_number_past keys.Start n = true
is_number_past (keys.One k) n = nat_lt k n
is_number_past (keys.Two k l) n = false

-- the pair comes after the key
abbrev pub is_pair_past : RowKey → ℕ × ℕ → Bool
is_pair_past keys.Start p = true
is_pair_past (keys.One k) p = false
is_pair_past (keys.Two k l) p = is_lt (pair_cmp (k, l) p)

-- a row comes after a key
abbrev pub is_row_past : RowKey → Row → Bool
is_row_past k (rows.Inode r) = is_number_past k (by_inode.key r)
is_row_past k (rows.Name r) = is_number_past k (by_name.key r)
is_row_past k (rows.Content r) = is_pair_past k (by_entry.key r)
is_row_past k (rows.InodeBlock r) = is_pair_past k (by_spot.key r)
is_row_past k (rows.Block r) = is_number_past k (by_block.key r)
is_row_past k (rows.Object r) = is_number_past k (by_object.key r)
is_row_past k (rows.Target r) = is_number_past k (by_target.key r)
is_row_past k (rows.Attr r) = is_pair_past k (by_attr.key r)
is_row_past k (rows.Slot r) = is_number_past k (by_slot.key r)

-- all rows of a table
abbrev pub rows_of : Tables → TableName → List Row
rows_of t tables.Inodes = map rows.Inode t.inodes
rows_of t tables.Names = map rows.Name t.names
rows_of t tables.Contents = map rows.Content t.contents
rows_of t tables.InodeBlocks = map rows.InodeBlock t.inode_blocks
rows_of t tables.Blocks = map rows.Block t.blocks
rows_of t tables.Objects = map rows.Object t.objects
rows_of t tables.Targets = map rows.Target t.targets
rows_of t tables.Attrs = map rows.Attr t.attrs
rows_of t tables.Slots = map rows.Slot t.slots

abbrev pub page_of : Tables → TableName → RowKey → ℕ → List Row
page_of t table after max = take max (filter (is_row_past after) (rows_of t table))

-- the key has as many parts as the table's, or is the start
abbrev pub fits_key : TableName → RowKey → Bool
fits_key table keys.Start = true
fits_key table (keys.One k) = elim table [ tables.Contents ↦ false | tables.InodeBlocks ↦ false | tables.Attrs ↦ false | _ ↦ true ]
fits_key table (keys.Two k l) = elim table [ tables.Contents ↦ true | tables.InodeBlocks ↦ true | tables.Attrs ↦ true | _ ↦ false ]
