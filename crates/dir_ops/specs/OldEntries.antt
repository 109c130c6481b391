-- An entry that goes: the directory that has it, and the inode that it names.
use Rattle.std.specs.Prelude.{◌≡◌, ℕ, List, not, Option, None, Some, is_some, option_map, option_and_then, Result, Ok, Err}
use Rattle.s3_base.specs.Errors.{enoent}
use Rattle.s3_base.specs.declared.errors.Errno.{Errno}
use Rattle.plain_tree.specs.Tree.{Tree}
use Rattle.plain_tree.specs.Checks.{fails_with, first_failure}
use Rattle.plain_tree.specs.Operations.{drop_checks}
use Rattle.s3_rows.specs.Rows.{Inode, Content}
use Rattle.s3_rows.specs.Tables.{Tables}
use Rattle.s3_rows.specs.Selections.{inode_at}
use Rattle.tree_rows.specs.Listings.{entry_named}
use Rattle.dir_ops.specs.declared.old_entry.OldEntry.{OldEntry}

-- an entry with the row of the inode that it names, where there is one
abbrev pub child_of : Content → Option Inode → Option (Content × Inode)
child_of c found = option_map (λ r. (c, r)) found

-- the entry of a directory whose name has these bytes, and the row of the inode that it names
abbrev pub child_named : Tables → ℕ → List ℕ → Option (Content × Inode)
child_named t parent name = option_and_then (λ c. child_of c (inode_at t c.inode)) (entry_named t parent name)

-- ENOENT where there is no such entry
abbrev pub child_check : Option (Content × Inode) → Option ℕ
child_check found = fails_with enoent (not (is_some found))

-- the rows, where no check of an entry that goes fails, or the error of the first that does
abbrev pub IsOldEntry : Tables → Tree → ℕ → List ℕ → Result OldEntry Errno → Type 0
IsOldEntry t whole parent name (Ok old) =
    (inode_at t parent ≡ Some old.directory) × (child_named t parent name ≡ Some (old.entry, old.child)) × (first_failure (drop_checks whole parent name) ≡ None)
IsOldEntry t whole parent name (Err errno) = first_failure (drop_checks whole parent name) ≡ Some errno.0
