-- The changes of rows that operations are made of.
use Rattle.std.specs.Prelude.{ℕ, ◌+◌, ◌-◌, List, [], ◌∷◌, ◌++◌, length, Bool, false, if◌then◌else◌}
use Rattle.s3_base.specs.declared.node_kind.Kind.TheVariants as kinds
use Rattle.s3_rows.specs.declared.change.Change.{Change}
use Rattle.s3_rows.specs.declared.change.Change.TheVariants as changes
use Rattle.s3_rows.specs.Rows.{Inode, Name, Content, Attr, Parameters}
use Rattle.s3_rows.specs.Tables.{Tables}
use Rattle.s3_rows.specs.Batches.{after_change, tables_after}
use Rattle.ref_counts.specs.Names.{Raised, lowered}
use Rattle.ref_counts.specs.Links.{places_dropped, places_of, places_of_gone}
use Rattle.ref_counts.specs.Removals.{removal, removals}

-- both times set
abbrev pub touched_row : ℕ → Inode → Inode
touched_row now r = record r { mtime = now; ctime = now }

-- only the time of the last change of state set
abbrev pub stamped_row : ℕ → Inode → Inode
stamped_row now r = record r { ctime = now }

-- the next inode number is drawn
abbrev pub drawn : Parameters → Parameters
drawn p = record p { next_inode = p.next_inode + 1 }

abbrev pub with_drawn : Parameters → Tables → Tables
with_drawn p t = after_change (changes.SetParams (drawn p)) t

-- the row of an empty file that one entry names: its number, mode, owner and time
abbrev pub new_file_row : ℕ → ℕ → ℕ → ℕ → ℕ → Inode
new_file_row id mode uid gid now = record {
  id = id;
  kind = kinds.Regular;
  mode = mode;
  uid = uid;
  gid = gid;
  mtime = now;
  ctime = now;
  refcount = 1;
  size = 0;
  locked = false;
}

-- and of an empty directory
abbrev pub new_directory_row : ℕ → ℕ → ℕ → ℕ → ℕ → Inode
new_directory_row id mode uid gid now = record (new_file_row id mode uid gid now) { kind = kinds.Directory }

-- and of a symbolic link, with all permissions and the length of its target
abbrev pub new_link_row : ℕ → List ℕ → ℕ → ℕ → ℕ → Inode
new_link_row id target uid gid now = record (new_file_row id 511 uid gid now) { kind = kinds.Link; size = length target }

-- A number is drawn and the name used once more; the entry names the new inode, and the directory is touched.
abbrev pub creation : Parameters → Inode → Raised → Inode → ℕ → List Change
creation p directory more new now =
    changes.SetParams (drawn p) ∷ more.changes
    ++ changes.PutContent (record { parent = directory.id; name_id = more.id; inode = new.id }) ∷ changes.PutInode new ∷ changes.PutInode (touched_row now directory) ∷ []

-- a new symbolic link, and its target
abbrev pub link_creation : Parameters → Inode → Raised → List ℕ → ℕ → ℕ → ℕ → List Change
link_creation p directory more target uid gid now =
    creation p directory more (new_link_row p.next_inode target uid gid now) now
    ++ changes.PutTarget (record { inode = p.next_inode; target = target }) ∷ []

-- an entry that goes is deleted, its directory touched, and its name used once less
abbrev pub dropping : Inode → Content → Name → ℕ → List Change
dropping directory c n now = changes.DeleteContent c.parent c.name_id ∷ changes.PutInode (touched_row now directory) ∷ lowered n

-- an entry that comes: its name is used once more, it is put, and its directory touched
abbrev pub entering : Inode → Raised → ℕ → ℕ → List Change
entering directory more inode now =
    more.changes ++ changes.PutContent (record { parent = directory.id; name_id = more.id; inode = inode }) ∷ changes.PutInode (touched_row now directory) ∷ []

-- an attribute that goes is deleted, and its name used once less
abbrev pub dropping_attr : Attr → Name → List Change
dropping_attr a n = changes.DeleteAttr a.inode a.name_id ∷ lowered n

-- the row of an inode with another count, at a time
abbrev pub counted_row : ℕ → ℕ → Inode → Inode
counted_row count now r = record r { ctime = now; refcount = count }

-- An entry that goes, and its inode, which counts one link less where another entry or a handle keeps it, and goes where none does.
-- The places of a file that goes name no block any more, before all else.
abbrev pub unlinking : Bool → Tables → Inode → Inode → Content → Name → ℕ → List Change
unlinking kept t directory r c n now =
    places_of_gone kept t r.id ++ dropping directory c n now
    ++ (if kept then changes.PutInode (counted_row (r.refcount - 1) now r) ∷ []
    else removal t r.id (tables_after (places_of_gone kept t r.id ++ dropping directory c n now) t))

-- an inode that goes where nothing keeps it, after its places
abbrev pub settling : Bool → Tables → ℕ → List Change
settling kept t inode = places_of_gone kept t inode ++ (if kept then [] else removal t inode (tables_after (places_of_gone kept t inode) t))

-- inodes that go one after the other, after the places of all of them
abbrev pub leaving : Tables → List ℕ → List Change
leaving t inodes = places_dropped (places_of t inodes) t ++ removals t inodes (tables_after (places_dropped (places_of t inodes) t) t)

-- An entry moves: the old one is deleted, and its directory touched; where the name changes, the uses of names do; the new entry
-- is put, in place of another or not, and its directory touched; and the inode that both name is stamped.
abbrev pub moving : Inode → Inode → Content → Raised → Inode → ℕ → List Change
moving directory new_directory c more r now =
    changes.DeleteContent c.parent c.name_id ∷ changes.PutInode (touched_row now directory) ∷ more.changes
    ++ changes.PutContent (record { parent = new_directory.id; name_id = more.id; inode = r.id }) ∷ changes.PutInode (touched_row now new_directory)
    ∷ changes.PutInode (stamped_row now r) ∷ []

-- the name of an entry that moves goes with it
abbrev pub same_name : Content → Raised
same_name c = record { id = c.name_id; changes = [] }

-- or it is used once less, and the new one once more
abbrev pub other_name : Name → Raised → Raised
other_name n more = record { id = more.id; changes = lowered n ++ more.changes }

-- or only that, since the entry that is replaced has the new name
abbrev pub name_of_replaced : Name → Content → Raised
name_of_replaced n replaced = record { id = replaced.name_id; changes = lowered n }

-- an attribute of an inode is put, and the inode stamped
abbrev pub setting_attr : Inode → ℕ → List ℕ → ℕ → List Change
setting_attr r name_id value now = changes.PutAttr (record { inode = r.id; name_id = name_id; value = value }) ∷ changes.PutInode (stamped_row now r) ∷ []

-- a new one: its name is used once more first
abbrev pub adding_attr : Inode → Raised → List ℕ → ℕ → List Change
adding_attr r more value now = more.changes ++ setting_attr r more.id value now

-- one that is removed is deleted, its inode stamped, and its name used once less
abbrev pub removing_attr : Inode → Attr → Name → ℕ → List Change
removing_attr r a n now = changes.DeleteAttr a.inode a.name_id ∷ changes.PutInode (stamped_row now r) ∷ lowered n

-- An entry that moves to the place of another, whose inode counts one link less where another entry or a handle keeps it, and goes
-- where none does, its places before all else.
abbrev pub replacing : Bool → Tables → Inode → Inode → Inode → Inode → Content → Content → Name → ℕ → List Change
replacing kept t directory new_directory r replaced c old n now =
    places_of_gone kept t replaced.id ++ moving directory new_directory c (name_of_replaced n old) r now
    ++ (if kept then changes.PutInode (counted_row (replaced.refcount - 1) now replaced) ∷ []
    else removal t replaced.id (tables_after (places_of_gone kept t replaced.id ++ moving directory new_directory c (name_of_replaced n old) r now) t))

-- an inode counts one link more, and the entry that is it comes
abbrev pub linking : Inode → Inode → Raised → ℕ → List Change
linking directory r more now = changes.PutInode (counted_row (r.refcount + 1) now r) ∷ entering directory more r.id now
