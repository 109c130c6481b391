-- An entry that moves: what it is, where it goes, and what it replaces there.
use Rattle.std.specs.Prelude.{◌≡◌, ℕ, ◌==◌, List, [], ◌∷◌, length, Bool, false, not, ◌&&◌, ◌||◌, nat_lt, Option, None, Some, option_map, Result, Ok, Err, if◌then◌else◌}
use Rattle.s3_base.specs.Errors.{eisdir, enotdir, enotempty}
use Rattle.s3_base.specs.declared.errors.Errno.{Errno}
use Rattle.plain_tree.specs.Tree.{Tree, node_at}
use Rattle.plain_tree.specs.Checks.{fails_with, first_failure, name_check, node_check, directory_check, lock_check, keep_check, entry_check}
use Rattle.plain_tree.specs.Entries.{entry_at, child_at}
use Rattle.s3_rows.specs.declared.change.Change.{Change}
use Rattle.s3_rows.specs.Rows.{Inode, Name, Content}
use Rattle.s3_rows.specs.Tables.{Tables}
use Rattle.s3_rows.specs.Batches.{tables_after}
use Rattle.s3_rows.specs.Selections.{inode_at, entries_listed}
use Rattle.s3_rows.specs.Validity.{is_directory}
use Rattle.op_checks.specs.Rows.{row_check, directory_row_check, lock_row_check}
use Rattle.ref_counts.specs.Handles.{OpenHandles, is_held}
use Rattle.ref_counts.specs.Names.{raised}
use Rattle.row_steps.specs.RowChanges.{dropping, moving, other_name, replacing, same_name}
use Rattle.dir_ops.specs.OldEntries.{child_named, child_check}
use Rattle.dir_ops.specs.declared.moves.Found.{Found}
use Rattle.dir_ops.specs.declared.moves.Move.{Move}

-- ---- what is found

-- the rows of both directories, and the entries of both names with their inodes
abbrev pub IsFound : Tables → ℕ → List ℕ → ℕ → List ℕ → Found → Type 0
IsFound t parent name new_parent new_name f =
    (f.directory ≡ inode_at t parent) × (f.new_directory ≡ inode_at t new_parent) × (f.child ≡ child_named t parent name) × (f.replaced ≡ child_named t new_parent new_name)

-- the checks of both names and of what they name, in their order: those that a Rename makes whether an inode moves or not
abbrev pub both_checks : Tree → ℕ → List ℕ → ℕ → List ℕ → List (Option ℕ)
both_checks t parent name new_parent new_name =
    name_check name ∷ name_check new_name ∷ node_check (node_at t parent) ∷ directory_check (node_at t parent) ∷ node_check (node_at t new_parent) ∷ directory_check (node_at t new_parent)
    ∷ lock_check (node_at t parent) ∷ lock_check (node_at t new_parent) ∷ keep_check parent name ∷ keep_check new_parent new_name ∷ entry_check (entry_at t parent name) ∷ lock_check (child_at t parent name) ∷ []

-- and on rows
abbrev pub both_row_checks : ℕ → List ℕ → ℕ → List ℕ → Found → List (Option ℕ)
both_row_checks parent name new_parent new_name f =
    name_check name ∷ name_check new_name ∷ row_check f.directory ∷ directory_row_check f.directory ∷ row_check f.new_directory ∷ directory_row_check f.new_directory
    ∷ lock_row_check f.directory ∷ lock_row_check f.new_directory ∷ keep_check parent name ∷ keep_check new_parent new_name ∷ child_check f.child
    ∷ lock_row_check (option_map (λ (e : Content × Inode). e.1) f.child) ∷ []

-- what moves, where no such check fails, or the error of the first that does
abbrev pub IsMove : Tables → Tree → ℕ → List ℕ → ℕ → List ℕ → Result Move Errno → Type 0
IsMove t whole parent name new_parent new_name (Ok m) =
    (inode_at t parent ≡ Some m.old.directory) × (child_named t parent name ≡ Some (m.old.entry, m.old.child)) × (inode_at t new_parent ≡ Some m.directory)
    × (child_named t new_parent new_name ≡ m.replaced) × (first_failure (both_checks whole parent name new_parent new_name) ≡ None)
IsMove t whole parent name new_parent new_name (Err errno) = first_failure (both_checks whole parent name new_parent new_name) ≡ Some errno.0

-- ---- what is replaced

-- the entry that would be replaced names the inode that moves
abbrev pub is_itself : Move → Bool
is_itself m = elim m.replaced [ Some e ↦ e.0.inode == m.old.entry.inode | None ↦ false ]

-- it is a directory with entries
abbrev pub holds_entries : Tables → Inode → Bool
holds_entries t r = is_directory r.kind && nat_lt 0 (length (entries_listed t r.id [] 1))

-- the checks of what is replaced by an inode, in their order
abbrev pub over_checks : Tables → Inode → Option (Content × Inode) → List (Option ℕ)
over_checks t child None = []
over_checks t child (Some e) =
    lock_row_check (Some e.1) ∷ fails_with eisdir (not (is_directory child.kind) && is_directory e.1.kind)
    ∷ fails_with enotdir (is_directory child.kind && not (is_directory e.1.kind)) ∷ fails_with enotempty (holds_entries t e.1) ∷ []

-- ---- the batch

-- In place of another entry, or under the name that it had, or under another one; none where that is worn. n is the name row of
-- the entry that moves.
abbrev pub moved_changes : Tables → OpenHandles → Move → Name → Bool → List ℕ → ℕ → Option (List Change)
moved_changes t h m n same new_name now =
    elim m.replaced [
      | Some e ↦ Some (replacing (nat_lt 1 e.1.refcount || is_held h e.1.id) t m.old.directory m.directory m.old.child e.1 m.old.entry e.0 n now)
      | None ↦
          if same then Some (moving m.old.directory m.directory m.old.entry (same_name m.old.entry) m.old.child now)
          else option_map (λ more. moving m.old.directory m.directory m.old.entry (other_name n more) m.old.child now)
          (raised (tables_after (dropping m.old.directory m.old.entry n now) t) new_name)
    ]
