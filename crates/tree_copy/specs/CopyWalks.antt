-- How the walk of a copy goes on, and what it has made so far.
use Rattle.std.specs.Prelude.{◌≡◌, ℕ, zero, suc, ◌+◌, ◌^◌, ◌==◌, List, [], ◌∷◌, ◌++◌, length, find, Bool, true, false, not, ◌&&◌, ◌||◌, nat_lt, nat_le, IsTrue, Option, None, Some, is_some, option_and_then, if◌then◌else◌}
use Rattle.std.specs.BTreeMap.{get}
use Rattle.std.specs.Ordering.{nat_cmp}
use Rattle.plain_tree.specs.Below.{at_and_below, is_among}
use Rattle.plain_tree.specs.Subtrees.{copy_number}
use Rattle.plain_tree.specs.Tree.{Tree}
use Rattle.s3_rows.specs.declared.change.Change.{Change}
use Rattle.s3_rows.specs.declared.lists.NamedEntry.{NamedEntry}
use Rattle.s3_rows.specs.Batches.{tables_after}
use Rattle.s3_rows.specs.Keyed.{is_past}
use Rattle.s3_rows.specs.Rows.{Inode}
use Rattle.s3_rows.specs.Selections.{by_entry_name, inode_at, named_entries}
use Rattle.s3_rows.specs.Tables.{Tables}
use Rattle.s3_rows.specs.Validity.{is_directory}
use Rattle.ref_counts.specs.Names.{StaysUnique}
use Rattle.tree_copy.specs.declared.progress.Copied.{Copied}
use Rattle.tree_copy.specs.declared.entries.CopySpot.{CopySpot}
use Rattle.tree_copy.specs.declared.walk.Level.{Level}
use Rattle.tree_copy.specs.CopiedNames.{entry_may_come, may_draw, with_entry}
use Rattle.tree_copy.specs.CopiedRows.{AreVisitsOf, Visit, all_seen, child_copied, names_copied, names_fit, source_copied, source_fits}
use Rattle.tree_copy.specs.CopyLevels.{HasCome, first_level, levels_after, visit_of}
use Rattle.tree_copy.specs.CopySteps.{inodes_seen}

-- ---- the walk, which is one

-- what it has visited, and the levels that are left, the last first
pub record Walk : Type 0 where
  pub visits : List Visit
  pub levels : List Level

-- an entry of the last level is visited, with the inode that it names
abbrev pub walk_to : ℕ → ℕ → List Visit → Level → List Level → NamedEntry → Option Inode → Walk
walk_to next top visits l levels e None = record { visits = visits; levels = l ∷ levels }
walk_to next top visits l levels e (Some r) =
    let seen = all_seen (top ∷ []) visits in
    record { visits = visits ++ visit_of l e r ∷ []; levels = levels_after l e r (is_among seen r.id) (copy_number next seen r.id) levels }

-- the level is done where it has no further entry
abbrev pub walk_on : Tables → ℕ → ℕ → List Visit → Level → List Level → Option NamedEntry → Walk
walk_on told next top visits l levels None = record { visits = visits; levels = levels }
walk_on told next top visits l levels (Some e) = walk_to next top visits l levels e (inode_at told e.row.inode)

abbrev pub turned : Tables → ℕ → ℕ → List Visit → List Level → Walk
turned told next top visits [] = record { visits = visits; levels = [] }
turned told next top visits (l ∷ levels) = walk_on told next top visits l levels (find (is_past by_entry_name l.last) (named_entries told l.directory))

-- after so many turns
abbrev pub walk_after : ℕ → Tables → ℕ → ℕ → Walk
walk_after zero told next top = record { visits = []; levels = first_level top next ∷ [] }
walk_after (suc n) told next top = turned told next top (walk_after n told next top).visits (walk_after n told next top).levels

-- the visits of the whole walk
pub record AreWalked (told : Tables) (next top : ℕ) (visits : List Visit) : Type 0 where
  pub turns : ℕ
  pub is : walk_after turns told next top ≡ record { visits = visits; levels = [] }

-- ---- what it has made

-- the source's own part
abbrev pub source_batch : Tables → ℕ → ℕ → Inode → Inode → List ℕ → Option (List Change)
source_batch t next now top directory name = if may_draw t.params && source_fits t next now top name then Some (source_copied t next now top directory name) else None

abbrev pub is_id : ℕ → Bool
is_id n = nat_lt 0 n && nat_lt n (2 ^ 62)

-- a visit more
abbrev pub visit_batch : CopySpot → Inode → List ℕ → Tables → List Change → Option (List Change)
visit_batch spot r name t batch =
    if is_id spot.directory && is_id spot.copy && entry_may_come spot.again t spot.copy spot.now r name (tables_after batch t)
    then Some (batch ++ with_entry (child_copied spot.again t spot.copy spot.now r (tables_after batch t)) spot.directory name spot.copy (tables_after batch t))
    else None

-- where the copy of what an entry of a level names comes: under the number that it has, or under the next one
abbrev pub known_spot : Option ℕ → ℕ → ℕ → ℕ → CopySpot
known_spot (Some copy) directory next now = record { directory = directory; copy = copy; again = true; now = now }
known_spot None directory next now = record { directory = directory; copy = next; again = false; now = now }

abbrev pub spot_of : Copied → ℕ → Level → ℕ → ℕ → CopySpot
spot_of c next l inode now = known_spot (get nat_cmp c.numbers inode) l.copy (next + length c.seen.items) now

-- no other entry names what is no directory and counts one link, nor a directory
abbrev pub is_met_once : Inode → Bool
is_met_once r = is_directory r.kind || r.refcount == 1

-- its number is kept where it may be met again
abbrev pub is_kept : CopySpot → Inode → Bool
is_kept spot r = not spot.again && not (is_met_once r)

-- what a visit notes, beside the batch
pub record IsNoted (spot : CopySpot) (r : Inode) (before after : Copied) : Type 0 where
  pub names : after.names ≡ before.names
  pub seen : after.seen.items ≡ (if spot.again then before.seen.items else before.seen.items ++ r.id ∷ [])
  pub numbers : (x : ℕ) → get nat_cmp after.numbers x ≡ (if is_kept spot r && r.id == x then Some spot.copy else get nat_cmp before.numbers x)

-- what a visit makes of it
pub record IsVisited (t : Tables) (spot : CopySpot) (r : Inode) (name : List ℕ) (before after : Copied) : Type 0 where
  pub names : after.names ≡ option_and_then (visit_batch spot r name t) before.names
  pub unique : (cs : List Change) → after.names ≡ Some cs → StaysUnique cs t
  pub seen : after.seen.items ≡ (if spot.again then before.seen.items else before.seen.items ++ r.id ∷ [])
  pub numbers : (x : ℕ) → get nat_cmp after.numbers x ≡ (if is_kept spot r && r.id == x then Some spot.copy else get nat_cmp before.numbers x)

-- The batch of names so far, none where a name or a number is worn; the inodes seen, and the numbers of the copies of those that may be
-- met again.
pub record HasCopied (told : Tables) (next now : ℕ) (top directory : Inode) (name : List ℕ) (visits : List Visit) (c : Copied) : Type 0 where
  pub seen : c.seen.items ≡ inodes_seen top visits
  pub names : c.names ≡ (if names_fit told next now top directory name visits && nat_le (next + length (inodes_seen top visits)) (2 ^ 62)
      then Some (names_copied told next now top directory name visits) else None)
  pub unique : (cs : List Change) → c.names ≡ Some cs → StaysUnique cs told
  pub known : (x copy : ℕ) → get nat_cmp c.numbers x ≡ Some copy
      → (is_among (inodes_seen top visits) x ≡ true) × (copy ≡ copy_number next (inodes_seen top visits) x)
  pub kept : (x : ℕ) (r : Inode) → inode_at told x ≡ Some r → is_met_once r ≡ false → is_among (inodes_seen top visits) x ≡ true
      → IsTrue (is_some (get nat_cmp c.numbers x))

-- how far the walk has come, with what it has made
pub record GoesOn (told : Tables) (whole : Tree) (now : ℕ) (top directory : Inode) (name : List ℕ) (c : Copied) (levels : List Level) : Type 0 where
  pub visits : List Visit
  pub turns : ℕ
  pub walked : walk_after turns told whole.next_inode top.id ≡ record { visits = visits; levels = levels }
  pub come : HasCome told whole top.id visits levels
  pub made : HasCopied told whole.next_inode now top directory name visits c

-- what the whole walk has made; none where an entry names an inode that has no row
pub record IsCopiedWhole (told : Tables) (whole : Tree) (now : ℕ) (top directory : Inode) (name : List ℕ) (c : Copied) : Type 0 where
  pub visits : List Visit
  pub walked : AreWalked told whole.next_inode top.id visits
  pub are : AreVisitsOf told (at_and_below whole top.id) top.id visits
  pub made : HasCopied told whole.next_inode now top directory name visits c

abbrev pub IsWholeCopy : Tables → Tree → ℕ → Inode → Inode → List ℕ → Option Copied → Type 0
IsWholeCopy told whole now top directory name None = ⊥
IsWholeCopy told whole now top directory name (Some c) = IsCopiedWhole told whole now top directory name c
