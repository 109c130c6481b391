-- The last change of a row in a batch, and the last rows that are put with given bytes.
use Rattle.std.specs.Prelude.{ℕ, List, [], ◌∷◌, Bool, true, false, ◌==◌, ◌&&◌, Option, None, Some, if◌then◌else◌}
use Rattle.std.specs.Option.{option_or}
use Rattle.std.specs.Ordering.{is_eq}
use Rattle.s3_rows.specs.declared.change.Change.{Change}
use Rattle.s3_rows.specs.declared.change.Change.TheVariants as changes
use Rattle.s3_rows.specs.declared.row_id.RowId.{RowId}
use Rattle.s3_rows.specs.declared.row_id.RowId.TheVariants as ids
use Rattle.s3_rows.specs.declared.digest.Digest.{Digest}
use Rattle.s3_rows.specs.Selections.{bytes_cmp}

-- the row that a change is about
abbrev pub row_id : Change → RowId
row_id (changes.PutInode r) = ids.Inode r.id
row_id (changes.DeleteInode id) = ids.Inode id
row_id (changes.PutName r) = ids.Name r.id
row_id (changes.DeleteName id) = ids.Name id
row_id (changes.PutContent r) = ids.Content r.parent r.name_id
row_id (changes.DeleteContent parent name_id) = ids.Content parent name_id
row_id (changes.PutInodeBlock r) = ids.InodeBlock r.inode r.blockno
row_id (changes.DeleteInodeBlock inode blockno) = ids.InodeBlock inode blockno
row_id (changes.PutBlock r) = ids.Block r.id
row_id (changes.DeleteBlock id) = ids.Block id
row_id (changes.PutObject r) = ids.Object r.id
row_id (changes.DeleteObject id) = ids.Object id
row_id (changes.PutTarget r) = ids.Target r.inode
row_id (changes.DeleteTarget inode) = ids.Target inode
row_id (changes.PutAttr r) = ids.Attr r.inode r.name_id
row_id (changes.DeleteAttr inode name_id) = ids.Attr inode name_id
row_id (changes.PutSlot r) = ids.Slot r.slot
row_id (changes.DeleteSlot slot) = ids.Slot slot
row_id (changes.SetParams p) = ids.Params

-- the two are of one table, and have one key
abbrev pub same_row : RowId → RowId → Bool
same_row (ids.Inode a) (ids.Inode b) = a == b
same_row (ids.Name a) (ids.Name b) = a == b
same_row (ids.Content a b) (ids.Content c d) = a == c && b == d
same_row (ids.InodeBlock a b) (ids.InodeBlock c d) = a == c && b == d
same_row (ids.Block a) (ids.Block b) = a == b
same_row (ids.Object a) (ids.Object b) = a == b
same_row (ids.Target a) (ids.Target b) = a == b
same_row (ids.Attr a b) (ids.Attr c d) = a == c && b == d
same_row (ids.Slot a) (ids.Slot b) = a == b
same_row ids.Params ids.Params = true
same_row _ _ = false

-- the answer of the last change that has one
abbrev pub last_of : {A : Type 0} → (Change → Option A) → List Change → Option A
last_of answer [] = None
last_of answer (c ∷ cs) = option_or (last_of answer cs) (answer c)

-- the change, where it is about the row
abbrev pub about : RowId → Change → Option Change
about id c = if same_row (row_id c) id then Some c else None

-- the last change of a row
abbrev pub last_change : RowId → List Change → Option Change
last_change id changes = last_of (about id) changes

-- the id of a name that is put with these bytes
abbrev pub id_named : List ℕ → Change → Option ℕ
id_named bytes (changes.PutName r) = if is_eq (bytes_cmp r.name bytes) then Some r.id else None
id_named bytes _ = None

-- the id of the last name that is put with these bytes
abbrev pub last_named : List ℕ → List Change → Option ℕ
last_named bytes changes = last_of (id_named bytes) changes

-- the id of a block that is put with this digest
abbrev pub id_hashed : Digest → Change → Option ℕ
id_hashed digest (changes.PutBlock r) = if is_eq (bytes_cmp r.digest.0 digest.0) then Some r.id else None
id_hashed digest _ = None

-- the id of the last block that is put with this digest
abbrev pub last_hashed : Digest → List Change → Option ℕ
last_hashed digest changes = last_of (id_hashed digest) changes
