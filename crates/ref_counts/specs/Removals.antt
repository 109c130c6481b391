-- What goes with an inode: its attributes with the uses of their names, its target, and its row.
use Rattle.std.specs.Prelude.{ℕ, ◌==◌, List, [], ◌∷◌, ◌++◌, find, filter, Option, None, Some, option_map}
use Rattle.s3_rows.specs.declared.change.Change.{Change}
use Rattle.s3_rows.specs.declared.change.Change.TheVariants as changes
use Rattle.s3_rows.specs.declared.table_rows.Row.{Row}
use Rattle.s3_rows.specs.declared.table_rows.Row.TheVariants as rows
use Rattle.s3_rows.specs.Rows.{Attr, Target}
use Rattle.s3_rows.specs.Keyed.{is_past}
use Rattle.s3_rows.specs.Tables.{Tables, by_attr}
use Rattle.s3_rows.specs.Batches.{tables_after}
use Rattle.s3_rows.specs.Selections.{target_at}
use Rattle.ref_counts.specs.Names.{lowered_at}

-- the attributes of an inode
abbrev pub attrs_of : Tables → ℕ → List Attr
attrs_of t inode = filter (λ r. r.inode == inode) t.attrs

-- the key of the first attribute past another key
abbrev pub attr_key : Attr → ℕ × ℕ
attr_key a = (a.inode, a.name_id)

abbrev pub next_attr_key : Tables → ℕ × ℕ → Option (ℕ × ℕ)
next_attr_key t k = option_map attr_key (find (is_past by_attr k) t.attrs)

-- the key of a row, where it is an attribute
abbrev pub attr_key_of : Row → Option (ℕ × ℕ)
attr_key_of (rows.Attr a) = Some (a.inode, a.name_id)
attr_key_of _ = None

-- an attribute goes, and its name is used once less
abbrev pub attr_dropped : ℕ → ℕ → Tables → List Change
attr_dropped inode name_id t = changes.DeleteAttr inode name_id ∷ lowered_at t name_id

-- attributes go one after the other, since an earlier one may have lowered a name
abbrev pub attrs_dropped : List Attr → Tables → List Change
attrs_dropped [] t = []
attrs_dropped (a ∷ attrs) t = attr_dropped a.inode a.name_id t ++ attrs_dropped attrs (tables_after (attr_dropped a.inode a.name_id t) t)

-- the target of a symbolic link goes
abbrev pub target_dropped : Option Target → ℕ → List Change
target_dropped None inode = []
target_dropped (Some x) inode = changes.DeleteTarget inode ∷ []

-- The changes by which an inode goes, with what is its own in told tables; t has the names as they are by then.
abbrev pub removal : Tables → ℕ → Tables → List Change
removal told inode t = attrs_dropped (attrs_of told inode) t ++ target_dropped (target_at told inode) inode ++ changes.DeleteInode inode ∷ []

-- inodes that go one after the other
abbrev pub removals : Tables → List ℕ → Tables → List Change
removals told [] t = []
removals told (inode ∷ inodes) t = removal told inode t ++ removals told inodes (tables_after (removal told inode t) t)
