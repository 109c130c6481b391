-- The directory in which an entry is made.
use Rattle.std.specs.Prelude.{◌≡◌, ℕ, List, [], ◌∷◌, Option, None, Some, Result, Ok, Err}
use Rattle.s3_base.specs.declared.errors.Errno.{Errno}
use Rattle.plain_tree.specs.Tree.{Tree, node_at}
use Rattle.plain_tree.specs.Checks.{first_failure, node_check, directory_check, lock_check, free_check, ids_check}
use Rattle.s3_rows.specs.Rows.{Inode, Parameters}
use Rattle.s3_rows.specs.Tables.{Tables}
use Rattle.s3_rows.specs.Selections.{inode_at}

-- the checks of the place of a new inode's entry, in their order
abbrev pub place_checks : Tree → ℕ → List ℕ → List (Option ℕ)
place_checks t parent name =
    node_check (node_at t parent) ∷ directory_check (node_at t parent) ∷ lock_check (node_at t parent)
    ∷ free_check (node_at t parent) name ∷ ids_check t 1 ∷ []

-- the directory's row and the parameters, where no check of the place fails, or the error of the first that does
abbrev pub IsPlaced : Tables → Tree → ℕ → List ℕ → Result (Inode × Parameters) Errno → Type 0
IsPlaced t whole parent name (Ok place) = (inode_at t parent ≡ Some place.0) × (t.params ≡ Some place.1) × (first_failure (place_checks whole parent name) ≡ None)
IsPlaced t whole parent name (Err errno) = first_failure (place_checks whole parent name) ≡ Some errno.0
