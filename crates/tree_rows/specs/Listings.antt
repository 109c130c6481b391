-- Rows by the names that they have in a tree, and what is listed of them.
use Rattle.std.specs.Prelude.{ℕ, ◌==◌, List, ◌&&◌, Option, None, Some, find}
use Rattle.std.specs.Ordering.{is_eq}
use Rattle.s3_base.specs.declared.node_kind.Kind.{Kind}
use Rattle.s3_base.specs.declared.node_kind.Kind.TheVariants as kinds
use Rattle.op_frames.specs.declared.reply.DirEntry.{DirEntry}
use Rattle.s3_rows.specs.declared.lists.NamedEntry.{NamedEntry}
use Rattle.s3_rows.specs.Rows.{Inode, Content, Attr}
use Rattle.s3_rows.specs.Tables.{Tables}
use Rattle.s3_rows.specs.Selections.{inode_at, bytes_cmp, bytes_of_name}

-- the entry of a directory whose name has these bytes
abbrev pub entry_named : Tables → ℕ → List ℕ → Option Content
entry_named t parent name = find (λ c. c.parent == parent && is_eq (bytes_cmp name (bytes_of_name t c.name_id))) t.contents

-- the attribute of an inode whose name has these bytes
abbrev pub attr_named : Tables → ℕ → List ℕ → Option Attr
attr_named t inode name = find (λ a. a.inode == inode && is_eq (bytes_cmp name (bytes_of_name t a.name_id))) t.attrs

-- the kind of an inode's row; a regular file where there is none
abbrev pub kind_of_found : Option Inode → Kind
kind_of_found found = elim found [ Some r ↦ r.kind | None ↦ kinds.Regular ]

-- an entry as it is listed
abbrev pub entry_of_row : Tables → NamedEntry → DirEntry
entry_of_row t e = record { inode = e.row.inode; kind = kind_of_found (inode_at t e.row.inode); name = e.name }
