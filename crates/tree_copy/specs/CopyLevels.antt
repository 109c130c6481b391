-- How far the walk of a copy has come through a directory and all below it.
use Rattle.std.specs.Prelude.{◌≡◌, ◌≢◌, ℕ, ◌==◌, List, [], ◌∷◌, ◌++◌, map, Bool, true, false, not, ◌&&◌, ◌||◌, IsTrue, Some, is_some, if◌then◌else◌}
use Rattle.std.specs.List.{list_any}
use Rattle.std.specs.Ordering.{is_lt}
use Rattle.plain_tree.specs.Below.{at_and_below, is_among, is_at_or_below}
use Rattle.plain_tree.specs.Entries.{entry_at}
use Rattle.plain_tree.specs.Subtrees.{copy_number}
use Rattle.plain_tree.specs.Tree.{Tree}
use Rattle.s3_rows.specs.declared.lists.NamedEntry.{NamedEntry}
use Rattle.s3_rows.specs.Keyed.{row_at, rows_past}
use Rattle.s3_rows.specs.Rows.{Inode}
use Rattle.s3_rows.specs.Selections.{by_entry_name, bytes_cmp, named_entries}
use Rattle.s3_rows.specs.Tables.{Tables}
use Rattle.s3_rows.specs.Validity.{differ, has_inode, is_directory}
use Rattle.tree_copy.specs.declared.walk.Level.{Level}
use Rattle.tree_copy.specs.CopiedRows.{AreVisits, Visit, all_seen, is_visited}
use Rattle.tree_copy.specs.WalkOrder.{walked}

-- before all entries of a directory
abbrev pub first_level : ℕ → ℕ → Level
first_level directory copy = record { directory = directory; copy = copy; last = [] }

-- behind an entry
abbrev pub level_behind : Level → List ℕ → Level
level_behind l name = record { directory = l.directory; copy = l.copy; last = name }

-- the visit of an entry from a level
abbrev pub visit_of : Level → NamedEntry → Inode → Visit
visit_of l e r = record { directory = l.directory; entry = e; child = r }

-- behind an entry, and before all entries of what it names, where that is a directory that is seen first; the last level comes first
abbrev pub levels_after : Level → NamedEntry → Inode → Bool → ℕ → List Level → List Level
levels_after l e r again copy levels =
    (if not again && is_directory r.kind then first_level r.id copy ∷ [] else []) ++ level_behind l e.name ∷ levels

-- what entries behind the last one name
abbrev pub inodes_behind : Tables → Level → List ℕ
inodes_behind told l = map (λ e. e.row.inode) (rows_past by_entry_name l.last (named_entries told l.directory))

-- what is seen once the walk has gone through these levels
abbrev pub seen_yet : Tables → Tree → List Level → List ℕ → List ℕ
seen_yet told whole [] seen = seen
seen_yet told whole (l ∷ levels) seen = seen_yet told whole levels (walked whole (inodes_behind told l) seen)

-- some level has yet to come to the entry
abbrev pub waits : List Level → ℕ → List ℕ → Bool
waits levels directory name = list_any (λ l. l.directory == directory && is_lt (bytes_cmp l.last name)) levels

-- a level is in a directory that was seen, and no entry behind its last one was visited
pub record IsLevel (told : Tables) (next : ℕ) (seen : List ℕ) (visits : List Visit) (l : Level) : Type 0 where
  pub seen_before : is_among seen l.directory ≡ true
  pub folder : IsTrue (has_inode is_directory told l.directory)
  pub copy : l.copy ≡ copy_number next seen l.directory
  pub behind : (name : List ℕ) → IsTrue (is_lt (bytes_cmp l.last name)) → is_visited visits l.directory name ≡ false

abbrev pub AreLevels : Tables → ℕ → List ℕ → List Visit → List Level → Type 0
AreLevels told next seen visits [] = Unit {0}
AreLevels told next seen visits (l ∷ levels) = IsLevel told next seen visits l × AreLevels told next seen visits levels

-- The visits so far, and the levels that are left, the last first: what the levels have yet to see makes all at and below the first
-- directory, in the order of the plain tree's walk; and each entry of a directory that was seen is visited, or waits in a level.
pub record HasCome (told : Tables) (whole : Tree) (top : ℕ) (visits : List Visit) (levels : List Level) : Type 0 where
  pub each : AreVisits told (top ∷ []) [] visits
  pub order : seen_yet told whole levels (all_seen (top ∷ []) visits) ≡ at_and_below whole top
  pub apart : IsTrue (differ (λ a b. b.directory == a.directory) levels)
  pub levels_are : AreLevels told whole.next_inode (all_seen (top ∷ []) visits) visits levels
  pub within : (x : ℕ) (name : List ℕ) → is_visited visits x name ≡ true → is_among (all_seen (top ∷ []) visits) x ≡ true
  pub all : (x : ℕ) (name : List ℕ) → is_among (all_seen (top ∷ []) visits) x ≡ true → IsTrue (has_inode is_directory told x)
      → IsTrue (is_some (row_at by_entry_name name (named_entries told x))) → (is_visited visits x name || waits levels x name) ≡ true
  pub named : (x : ℕ) → is_among (all_seen (top ∷ []) visits) x ≡ true → x ≢ top
      → (d : ℕ) × (name : List ℕ) × (is_visited visits d name ≡ true) × (entry_at whole d name ≡ Some x)
  pub below : (x : ℕ) → is_among (all_seen (top ∷ []) visits) x ≡ true → is_at_or_below whole top x ≡ true
