-- What goes of rows where a directory is removed with all below it: the entries below it one after the other, each directory once
-- it is empty, and at last the directory's own entry.
use Rattle.std.specs.Prelude.{◌≡◌, ℕ, ◌-◌, ◌==◌, List, [], ◌∷◌, ◌++◌, Bool, true, not, ◌||◌, nat_lt, IsTrue, Some, if◌then◌else◌}
use Rattle.std.specs.List.{list_all}
use Rattle.plain_tree.specs.Below.{is_at_or_below}
use Rattle.plain_tree.specs.Entries.{is_open}
use Rattle.plain_tree.specs.Tree.{Tree}
use Rattle.s3_rows.specs.declared.change.Change.{Change}
use Rattle.s3_rows.specs.declared.change.Change.TheVariants as changes
use Rattle.s3_rows.specs.Batches.{tables_after}
use Rattle.s3_rows.specs.Rows.{Content, Inode, Name}
use Rattle.s3_rows.specs.Selections.{entry_at, inode_at, name_at, target_at}
use Rattle.s3_rows.specs.Tables.{Tables}
use Rattle.s3_rows.specs.Validity.{is_directory}
use Rattle.ref_counts.specs.Links.{places_from, places_of_gone}
use Rattle.ref_counts.specs.Names.{lowered}
use Rattle.ref_counts.specs.Removals.{attrs_of, removal}
use Rattle.row_steps.specs.RowChanges.{counted_row, dropping}

-- an entry that goes, its name, and the inode that it names; whether another entry or a handle keeps that
pub record Gone : Type 0 where
  pub entry : Content
  pub name : Name
  pub child : Inode
  pub kept : Bool

-- the entry is deleted, and its name used once less
abbrev pub taking : Content → Name → List Change
taking c n = changes.DeleteContent c.parent c.name_id ∷ lowered n

-- The entry of what is no directory. Its inode counts one link less, and is stamped, where it is kept; else it goes, its places
-- before all else.
abbrev pub file_taken : Bool → ℕ → Tables → Content → Name → Inode → List Change
file_taken kept now t c n r =
    places_of_gone kept t r.id ++ taking c n
    ++ (if kept then changes.PutInode (counted_row (r.refcount - 1) now r) ∷ [] else removal t r.id (tables_after (places_of_gone kept t r.id ++ taking c n) t))

-- the entry of a directory, which goes
abbrev pub folder_taken : Tables → Content → Name → Inode → List Change
folder_taken t c n r = taking c n ++ removal t r.id (tables_after (taking c n) t)

abbrev pub taken : ℕ → Tables → Gone → List Change
taken now t g = if is_directory g.child.kind then folder_taken t g.entry g.name g.child else file_taken g.kept now t g.entry g.name g.child

-- one entry after the other
abbrev pub all_taken : ℕ → Tables → List Gone → List Change
all_taken now t [] = []
all_taken now t (g ∷ gs) = taken now t g ++ all_taken now (tables_after (taken now t g) t) gs

-- The rows of an entry in a directory at or below the first one. A directory that goes is empty, and no slot is of what goes.
pub record IsGone (whole : Tree) (top : ℕ) (t : Tables) (g : Gone) : Type 0 where
  pub entry : entry_at t g.entry.parent g.entry.name_id ≡ Some g.entry
  pub name : name_at t g.entry.name_id ≡ Some g.name
  pub child : inode_at t g.entry.inode ≡ Some g.child
  pub inside : is_at_or_below whole top g.entry.parent ≡ true
  pub kept : g.kept ≡ (nat_lt 1 g.child.refcount || is_open whole g.child.id)
  pub empty : IsTrue (is_directory g.child.kind) → IsTrue (list_all (λ x. not (x.parent == g.child.id)) t.contents)
  pub slots : IsTrue (list_all (λ x. not (x.inode == g.child.id)) t.slots)

-- each of them is one of the tables that those before it leave
abbrev pub AreGone : ℕ → Tree → ℕ → Tables → List Gone → Type 0
AreGone now whole top t [] = Unit {0}
AreGone now whole top t (g ∷ gs) = IsGone whole top t g × AreGone now whole top (tables_after (taken now t g) t) gs

-- the entry of a directory that goes, where the one that it is in is touched
abbrev pub uprooted : ℕ → Tables → Inode → Inode → Content → Name → List Change
uprooted now t directory top c n = dropping directory c n now ++ removal t top.id (tables_after (dropping directory c n now) t)

-- and that of the first directory at last
abbrev pub uprooting : ℕ → Tables → List Gone → Inode → Inode → Content → Name → List Change
uprooting now t gone directory top c n = all_taken now t gone ++ uprooted now (tables_after (all_taken now t gone) t) directory top c n

-- what is an inode's own is in the told tables as it is by now
pub record HasOwn (told t : Tables) (x : ℕ) : Type 0 where
  pub attrs : attrs_of t x ≡ attrs_of told x
  pub target : target_at t x ≡ target_at told x
  pub places : places_from t x 0 ≡ places_from told x 0
