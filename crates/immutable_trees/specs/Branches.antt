-- How far a walk has come through a directory and all below it, whose entries go.
use Rattle.std.specs.Prelude.{◌≡◌, ℕ, ◌==◌, List, [], ◌∷◌, Bool, true, false, not, ◌&&◌, IsTrue, Option, None, Some, is_some}
use Rattle.std.specs.List.{list_all, list_any}
use Rattle.std.specs.Ordering.{is_lt}
use Rattle.plain_tree.specs.Below.{is_at_or_below}
use Rattle.plain_tree.specs.Entries as entries
use Rattle.plain_tree.specs.Entries.{is_folder}
use Rattle.plain_tree.specs.Tree.{Tree, node_at}
use Rattle.plain_tree.specs.WellFormed.{IsWellFormed}
use Rattle.s3_rows.specs.declared.change.Change.{Change}
use Rattle.s3_rows.specs.declared.lists.NamedEntry.{NamedEntry}
use Rattle.s3_rows.specs.Batches.{tables_after}
use Rattle.s3_rows.specs.Keyed.{row_at}
use Rattle.s3_rows.specs.Rows.{Content}
use Rattle.s3_rows.specs.Selections.{by_entry_name, bytes_cmp, entry_at, inode_at, named_entries}
use Rattle.s3_rows.specs.Tables.{Tables}
use Rattle.s3_rows.specs.Validity.{IsValid}
use Rattle.tree_rows.specs.Shapes.{Represents}
use Rattle.ref_counts.specs.Handles.{HasHandles, OpenHandles}
use Rattle.immutable_trees.specs.declared.uproot.Branch.{Branch}
use Rattle.immutable_trees.specs.RemovedRows.{AreGone, Gone, all_taken}

-- the entry of a directory in the told tables that has the name
abbrev pub named_at : Tables → ℕ → List ℕ → Option NamedEntry
named_at t directory name = row_at by_entry_name name (named_entries t directory)

-- an entry is there, and is gone
abbrev pub IsThere : Tables → Content → Type 0
IsThere t c = entry_at t c.parent c.name_id ≡ Some c

abbrev pub HasGone : Tables → Content → Type 0
HasGone t c = entry_at t c.parent c.name_id ≡ None

-- the walk is in the directory
abbrev pub is_in : List Branch → ℕ → Bool
is_in branches directory = list_any (λ b. b.level.directory == directory) branches

-- before all names of the first directory
abbrev pub first_branch : ℕ → Branch
first_branch top = record { level = record { directory = top; last = [] }; own = None }

-- behind a name
abbrev pub moved : Branch → List ℕ → Branch
moved b name = record { level = record { directory = b.level.directory; last = name }; own = b.own }

-- in the directory that an entry names
abbrev pub below_entry : NamedEntry → Branch
below_entry e = record { level = record { directory = e.row.inode; last = [] }; own = Some e.row }

-- In told tables, with those that the walk has come to: the directory is at or below the first one; its entries behind the last
-- name are there, and those up to it are gone, but for some.
pub record IsBranch (told : Tables) (whole : Tree) (top : ℕ) (t : Tables) (but : List ℕ → Type 0) (b : Branch) : Type 0 where
  pub inside : is_at_or_below whole top b.level.directory ≡ true
  pub folder : IsTrue (is_folder (node_at whole b.level.directory))
  pub later : (name : List ℕ) (e : NamedEntry) → named_at told b.level.directory name ≡ Some e → IsTrue (is_lt (bytes_cmp b.level.last name)) → IsThere t e.row
  pub earlier : (name : List ℕ) (e : NamedEntry) → named_at told b.level.directory name ≡ Some e → is_lt (bytes_cmp b.level.last name) ≡ false → (but name → ⊥) → HasGone t e.row

-- the last entry that the walk met in a directory names the one that it is in then
pub record Holds (told t : Tables) (child parent : Branch) : Type 0 where
  pub entry : NamedEntry
  pub named : named_at told parent.level.directory parent.level.last ≡ Some entry
  pub own : child.own ≡ Some entry.row
  pub names : entry.row.inode ≡ child.level.directory
  pub there : IsThere t entry.row

-- the directories above one, up to the first
abbrev pub AreAbove : Tables → Tree → ℕ → Tables → Branch → List Branch → Type 0
AreAbove told whole top t child [] = (child.level.directory ≡ top) × (child.own ≡ None)
AreAbove told whole top t child (b ∷ bs) =
    Holds told t child b × IsBranch told whole top t (λ name. name ≡ b.level.last) b × (is_in (b ∷ bs) child.level.directory ≡ false) × AreAbove told whole top t b bs

-- the directories that the walk is in, the last first
abbrev pub AreBranches : Tables → Tree → ℕ → Tables → List Branch → Type 0
AreBranches told whole top t [] = ⊥
AreBranches told whole top t (b ∷ bs) = IsBranch told whole top t (λ name. ⊥) b × AreAbove told whole top t b bs

-- The batch is that of entries below the first directory that went one after the other. A directory that the walk is not in has all
-- its entries, or has gone.
pub record HasTaken (told : Tables) (whole : Tree) (top now : ℕ) (batch : List Change) (branches : List Branch) : Type 0 where
  pub gone : List Gone
  pub is : batch ≡ all_taken now told gone
  pub are : AreGone now whole top told gone
  pub branches_are : AreBranches told whole top (tables_after batch told) branches
  pub whole_yet : (q : ℕ) (name : List ℕ) (e : NamedEntry) → is_at_or_below whole top q ≡ true → IsTrue (is_some (inode_at (tables_after batch told) q))
      → is_in branches q ≡ false → named_at told q name ≡ Some e → IsThere (tables_after batch told) e.row

-- the batch takes all entries below a directory
pub record IsTakenBelow (told : Tables) (whole : Tree) (top now : ℕ) (batch : List Change) : Type 0 where
  pub gone : List Gone
  pub is : batch ≡ all_taken now told gone
  pub are : AreGone now whole top told gone
  pub empty : IsTrue (list_all (λ x. not (x.parent == top)) (tables_after batch told).contents)

abbrev pub TakesBelow : Tables → Tree → ℕ → ℕ → Option (List Change) → Type 0
TakesBelow told whole top now None = ⊥
TakesBelow told whole top now (Some batch) = IsTakenBelow told whole top now batch

-- What a removal works on: valid tables without slots of a well-formed tree, its handles, and a directory that an entry names.
pub record CanRemove (told : Tables) (whole : Tree) (parent top : ℕ) (name : List ℕ) (handles : OpenHandles) : Type 0 where
  pub valid : IsValid told
  pub same : Represents told whole
  pub well : IsWellFormed whole
  pub names : entries.entry_at whole parent name ≡ Some top
  pub folder : IsTrue (is_folder (node_at whole top))
  pub slots : told.slots ≡ []
  pub held : HasHandles handles whole

-- the first directory has no entry left
abbrev pub is_end : Option NamedEntry → Branch → Bool
is_end next b = not (is_some next) && not (is_some b.own)
