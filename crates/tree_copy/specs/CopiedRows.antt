-- What comes of rows where a directory is copied with all below it: its own node and entry, and then one entry after the other.
use Rattle.std.specs.Prelude.{◌≡◌, ℕ, ◌+◌, ◌==◌, List, [], ◌∷◌, ◌++◌, Bool, true, false, ◌&&◌, is_some, IsTrue, Option, None, Some, if◌then◌else◌}
use Rattle.std.specs.List.{list_any}
use Rattle.std.specs.Ordering.{is_eq}
use Rattle.plain_tree.specs.Below.{is_among}
use Rattle.plain_tree.specs.Subtrees.{copy_number}
use Rattle.s3_rows.specs.declared.change.Change.{Change}
use Rattle.s3_rows.specs.declared.change.Change.TheVariants as changes
use Rattle.s3_rows.specs.declared.lists.NamedAttr.{NamedAttr}
use Rattle.s3_rows.specs.declared.lists.NamedEntry.{NamedEntry}
use Rattle.s3_rows.specs.Batches.{tables_after}
use Rattle.s3_rows.specs.Keyed.{row_at}
use Rattle.s3_rows.specs.Rows.{Inode, Parameters, Target}
use Rattle.s3_rows.specs.Selections.{by_entry_name, bytes_cmp, inode_at, named_attrs, named_entries, target_at}
use Rattle.s3_rows.specs.Tables.{Tables}
use Rattle.s3_rows.specs.Validity.{has_inode, is_directory}
use Rattle.ref_counts.specs.Names.{Raised, raised}
use Rattle.row_steps.specs.RowChanges.{drawn, touched_row}

-- the row of a copy, which one entry names
abbrev pub copied_row : ℕ → ℕ → Inode → Inode
copied_row id now r = record r { id = id; ctime = now; refcount = 1; locked = false }

-- a name is used once more, by rows that have its id; nothing comes where it cannot be used
abbrev pub with_use : Option Raised → (ℕ → List Change) → List Change
with_use None rows = []
with_use (Some more) rows = more.changes ++ rows more.id

-- the next inode number is drawn
abbrev pub drawing : Option Parameters → List Change
drawing None = []
drawing (Some p) = changes.SetParams (drawn p) ∷ []

-- the target of a symbolic link comes with the copy
abbrev pub target_copied : ℕ → Option Target → List Change
target_copied id None = []
target_copied id (Some x) = changes.PutTarget (record { inode = id; target = x.target }) ∷ []

-- a number is drawn, and the row comes under it, with its target
abbrev pub row_copied : Tables → ℕ → ℕ → Inode → Tables → List Change
row_copied told id now r t = drawing t.params ++ target_copied id (target_at told r.id) ++ changes.PutInode (copied_row id now r) ∷ []

-- an attribute comes, and uses its name
abbrev pub attr_copied : ℕ → NamedAttr → Tables → List Change
attr_copied id a t = with_use (raised t a.name) (λ name_id. changes.PutAttr (record { inode = id; name_id = name_id; value = a.row.value }) ∷ [])

abbrev pub attrs_copied : ℕ → List NamedAttr → Tables → List Change
attrs_copied id [] t = []
attrs_copied id (a ∷ attrs) t = attr_copied id a t ++ attrs_copied id attrs (tables_after (attr_copied id a t) t)

-- a node with all that is its own, but for its entries and places
abbrev pub node_copied : Tables → ℕ → ℕ → Inode → Tables → List Change
node_copied told id now r t = row_copied told id now r t ++ attrs_copied id (named_attrs told r.id) (tables_after (row_copied told id now r t) t)

-- one link more of an inode
abbrev pub link_counted : Option Inode → List Change
link_counted None = []
link_counted (Some r) = changes.PutInode (record r { refcount = r.refcount + 1 }) ∷ []

-- what an entry names: a node more at the first visit, and a link more at a later one
abbrev pub child_copied : Bool → Tables → ℕ → ℕ → Inode → Tables → List Change
child_copied again told id now r t = if again then link_counted (inode_at t id) else node_copied told id now r t

-- an entry comes, and uses its name
abbrev pub entry_copied : ℕ → List ℕ → ℕ → Tables → List Change
entry_copied directory name id t = with_use (raised t name) (λ name_id. changes.PutContent (record { parent = directory; name_id = name_id; inode = id }) ∷ [])

-- ---- the walk

-- an entry of a directory that has a copy, and the inode that it names
pub record Visit : Type 0 where
  pub directory : ℕ
  pub entry : NamedEntry
  pub child : Inode

-- the inodes seen so far in the order of their first visits, and those seen after another one
abbrev pub seen_after : List ℕ → Visit → List ℕ
seen_after seen v = if is_among seen v.child.id then seen else seen ++ v.child.id ∷ []

abbrev pub all_seen : List ℕ → List Visit → List ℕ
all_seen seen [] = seen
all_seen seen (v ∷ visits) = all_seen (seen_after seen v) visits

-- the entry of a directory under a name is visited
abbrev pub is_visited : List Visit → ℕ → List ℕ → Bool
is_visited visits directory name = list_any (λ v. directory == v.directory && is_eq (bytes_cmp name v.entry.name)) visits

-- what the entry names comes
abbrev pub child_of_visit : Tables → ℕ → ℕ → List ℕ → Visit → Tables → List Change
child_of_visit told next now seen v t = child_copied (is_among seen v.child.id) told (copy_number next seen v.child.id) now v.child t

-- and then the entry itself
abbrev pub visit_copied : Tables → ℕ → ℕ → List ℕ → Visit → Tables → List Change
visit_copied told next now seen v t =
    child_of_visit told next now seen v t
    ++ entry_copied (copy_number next seen v.directory) v.entry.name (copy_number next seen v.child.id) (tables_after (child_of_visit told next now seen v t) t)

-- one entry after the other
abbrev pub visits_copied : Tables → ℕ → ℕ → List ℕ → List Visit → Tables → List Change
visits_copied told next now seen [] t = []
visits_copied told next now seen (v ∷ visits) t =
    visit_copied told next now seen v t ++ visits_copied told next now (seen_after seen v) visits (tables_after (visit_copied told next now seen v t) t)

-- the source comes first, with its entry in a directory, which is touched
abbrev pub source_copied : Tables → ℕ → ℕ → Inode → Inode → List ℕ → List Change
source_copied told next now source directory name =
    node_copied told next now source told ++ entry_copied directory.id name next (tables_after (node_copied told next now source told) told)
    ++ changes.PutInode (touched_row now directory) ∷ []

-- the names of a copy: the source, and then what is visited
abbrev pub names_copied : Tables → ℕ → ℕ → Inode → Inode → List ℕ → List Visit → List Change
names_copied told next now source directory name visits =
    source_copied told next now source directory name
    ++ visits_copied told next now (source.id ∷ []) visits (tables_after (source_copied told next now source directory name) told)

-- ---- whether all names may be used

abbrev pub attrs_fit : ℕ → List NamedAttr → Tables → Bool
attrs_fit id [] t = true
attrs_fit id (a ∷ attrs) t = is_some (raised t a.name) && attrs_fit id attrs (tables_after (attr_copied id a t) t)

abbrev pub node_fits : Tables → ℕ → ℕ → Inode → Tables → Bool
node_fits told id now r t = attrs_fit id (named_attrs told r.id) (tables_after (row_copied told id now r t) t)

abbrev pub child_fits : Bool → Tables → ℕ → ℕ → Inode → Tables → Bool
child_fits again told id now r t = if again then true else node_fits told id now r t

abbrev pub visit_fits : Tables → ℕ → ℕ → List ℕ → Visit → Tables → Bool
visit_fits told next now seen v t =
    child_fits (is_among seen v.child.id) told (copy_number next seen v.child.id) now v.child t
    && is_some (raised (tables_after (child_of_visit told next now seen v t) t) v.entry.name)

abbrev pub visits_fit : Tables → ℕ → ℕ → List ℕ → List Visit → Tables → Bool
visits_fit told next now seen [] t = true
visits_fit told next now seen (v ∷ visits) t =
    visit_fits told next now seen v t && visits_fit told next now (seen_after seen v) visits (tables_after (visit_copied told next now seen v t) t)

abbrev pub source_fits : Tables → ℕ → ℕ → Inode → List ℕ → Bool
source_fits told next now source name = node_fits told next now source told && is_some (raised (tables_after (node_copied told next now source told) told) name)

abbrev pub names_fit : Tables → ℕ → ℕ → Inode → Inode → List ℕ → List Visit → Bool
names_fit told next now source directory name visits =
    source_fits told next now source name
    && visits_fit told next now (source.id ∷ []) visits (tables_after (source_copied told next now source directory name) told)

-- ---- what visits are of

-- an entry of the told tables, in a directory that was seen, which was not visited before
pub record IsVisit (told : Tables) (seen : List ℕ) (v : Visit) : Type 0 where
  pub seen_before : is_among seen v.directory ≡ true
  pub folder : IsTrue (has_inode is_directory told v.directory)
  pub named : row_at by_entry_name v.entry.name (named_entries told v.directory) ≡ Some v.entry
  pub child : inode_at told v.entry.row.inode ≡ Some v.child

-- each of them is, after those before it
abbrev pub AreVisits : Tables → List ℕ → List Visit → List Visit → Type 0
AreVisits told seen done [] = Unit {0}
AreVisits told seen done (v ∷ visits) =
    IsVisit told seen v × (is_visited done v.directory v.entry.name ≡ false) × AreVisits told (seen_after seen v) (done ++ v ∷ []) visits

-- every entry of a directory that was seen is visited
abbrev pub AreComplete : Tables → List ℕ → List Visit → Type 0
AreComplete told seen visits =
    (x : ℕ) (name : List ℕ) → is_among seen x ≡ true → IsTrue (has_inode is_directory told x) → IsTrue (is_some (row_at by_entry_name name (named_entries told x)))
    → is_visited visits x name ≡ true

-- The visits of a copy of a directory: they are made in the order of the plain tree's walk, and every entry is visited.
pub record AreVisitsOf (told : Tables) (order : List ℕ) (source : ℕ) (visits : List Visit) : Type 0 where
  pub each : AreVisits told (source ∷ []) [] visits
  pub order_is : all_seen (source ∷ []) visits ≡ order
  pub complete : AreComplete told order visits
