-- The attribute of an inode under the bytes of a name.
use Rattle.std.specs.Prelude.{ℕ, List, Option, option_and_then}
use Rattle.s3_rows.specs.Rows.{Attr}
use Rattle.s3_rows.specs.Tables.{Tables}
use Rattle.s3_rows.specs.Selections.{attr_at, name_of_bytes}

-- its row, where the bytes have a name row and the inode an attribute under its id
abbrev pub attr_of_name : Tables → ℕ → List ℕ → Option Attr
attr_of_name t inode bytes = option_and_then (λ n. attr_at t inode n.id) (name_of_bytes t bytes)
