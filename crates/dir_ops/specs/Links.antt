-- The file that gets a further entry, and the directory in which it is made.
use Rattle.std.specs.Prelude.{◌≡◌, ℕ, List, [], ◌∷◌, not, Option, None, Some, Result, Ok, Err}
use Rattle.s3_base.specs.Errors.{enoent, eperm}
use Rattle.s3_base.specs.declared.errors.Errno.{Errno}
use Rattle.plain_tree.specs.Tree.{Tree, node_at}
use Rattle.plain_tree.specs.Checks.{fails_with, first_failure, node_check, directory_check, no_directory_check, lock_check, free_check}
use Rattle.plain_tree.specs.Entries.{is_named}
use Rattle.s3_rows.specs.Rows.{Inode}
use Rattle.s3_rows.specs.Tables.{Tables}
use Rattle.s3_rows.specs.Selections.{inode_at}

-- the checks of a further entry that need the tree, in their order
abbrev pub link_checks : Tree → ℕ → ℕ → List ℕ → List (Option ℕ)
link_checks t inode parent name =
    node_check (node_at t inode) ∷ node_check (node_at t parent) ∷ directory_check (node_at t parent)
    ∷ no_directory_check eperm (node_at t inode) ∷ lock_check (node_at t inode) ∷ lock_check (node_at t parent)
    ∷ fails_with enoent (not (is_named t inode)) ∷ free_check (node_at t parent) name ∷ []

-- the rows of the file and of the directory, where no such check fails, or the error of the first that does
abbrev pub IsLinkable : Tables → Tree → ℕ → ℕ → List ℕ → Result (Inode × Inode) Errno → Type 0
IsLinkable t whole inode parent name (Ok rows) =
    (inode_at t inode ≡ Some rows.0) × (inode_at t parent ≡ Some rows.1) × (first_failure (link_checks whole inode parent name) ≡ None)
IsLinkable t whole inode parent name (Err errno) = first_failure (link_checks whole inode parent name) ≡ Some errno.0
