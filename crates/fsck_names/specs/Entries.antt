-- The steps on entries: which of them go, and how an inode is moved to lost+found.
use Rattle.std.specs.Prelude.{ℕ, zero, suc, ◌+◌, ◌==◌, List, [], ◌∷◌, ◌++◌, length, Bool, false, not, ◌&&◌, ◌||◌, nat_lt, nat_le, Option, None, Some, option_map, map, filter, find, codes, if◌then◌else◌}
use Rattle.std.specs.Fmt.{decimal}
use Rattle.std.specs.List.{list_all, list_any}
use Rattle.std.specs.Option.{option_and_then}
use Rattle.std.specs.Ordering.{is_eq}
use Rattle.s3_base.specs.Names.{is_forbidden_name}
use Rattle.s3_base.specs.Numbers.{root}
use Rattle.s3_rows.specs.declared.change.Change.{Change}
use Rattle.s3_rows.specs.declared.change.Change.TheVariants as changes
use Rattle.s3_rows.specs.Rows.{Content}
use Rattle.s3_rows.specs.Keyed.{is_past}
use Rattle.s3_rows.specs.Tables.{Tables}
use Rattle.s3_rows.specs.Selections.{name_at, name_of_bytes, bytes_cmp, bytes_of_name, by_parent_and_bytes, inode_at}
use Rattle.s3_rows.specs.Validity.{is_directory, has_inode, finds_of_entry, have_one_name, is_lost_and_found, lost_and_found, parent_of, counts_inode, finds_target}
use Rattle.fsck_findings.specs.declared.finding.Finding.{Finding}
use Rattle.fsck_findings.specs.declared.finding.Finding.TheVariants as findings
use Rattle.fsck_names.specs.Made.{Made, nothing, changing, finding, ◌then◌}
use Rattle.fsck_names.specs.Numbers.{next_name}
use Rattle.fsck_names.specs.declared.numbers.Free.{Free}

-- ---- entries that go

abbrev pub delete_entry : Content → Change
delete_entry r = changes.DeleteContent r.parent r.name_id

-- the finding of an entry that goes; it has no name where its name has no row
abbrev pub dropped : Tables → Content → Finding
dropped t r = findings.EntryDropped r.parent (option_map (λ n. n.name) (name_at t r.name_id))

-- all entries that pass a test go, in the order of their keys
abbrev pub drop_entries : (Tables → Content → Bool) → Tables → Option Made
drop_entries test t =
    let gone = filter (test t) t.contents in
    Some (record { batch = map delete_entry gone; found = map (dropped t) gone })

-- all entries that pass a test go, which is no finding
abbrev pub delete_entries : (Tables → Content → Bool) → Tables → Option Made
delete_entries test t = Some (changing (map delete_entry (filter (test t) t.contents)))

-- its directory, its name or its inode is not there, its name is no legal one, or it names the root
abbrev pub is_out_of_place : Tables → Content → Bool
is_out_of_place t r = not (finds_of_entry t r) || is_forbidden_name (bytes_of_name t r.name_id) || r.inode == root

-- an entry of the same directory has the same bytes and a lesser name id
abbrev pub repeats_a_name : Tables → Content → Bool
repeats_a_name t r = list_any (λ s. have_one_name t s r && nat_lt s.name_id r.name_id) t.contents

-- the entry lost+found of the root names no directory
abbrev pub is_no_lost_and_found : Tables → Content → Bool
is_no_lost_and_found t r =
    r.parent == root && is_eq (bytes_cmp (bytes_of_name t r.name_id) lost_and_found) && not (has_inode is_directory t r.inode)

-- it names a directory that an entry names which is less by its parent and the bytes of its name
abbrev pub names_directory_again : Tables → Content → Bool
names_directory_again t r =
    has_inode is_directory t r.inode
    && list_any (λ s. s.inode == r.inode && is_past (by_parent_and_bytes t) (s.parent, bytes_of_name t s.name_id) r) t.contents

-- the directories above an inode, nearest first, at most so many
abbrev pub above : ℕ → Tables → ℕ → List ℕ
above zero t id = []
above (suc steps) t id = elim (parent_of t id) [ Some parent ↦ parent ∷ above steps t parent | None ↦ [] ]

-- it names the least directory of a loop
abbrev pub closes_loop : Tables → Content → Bool
closes_loop t r =
    let directories = above (length t.inodes) t r.inode in
    list_any (λ d. d == r.inode) directories && list_all (nat_le r.inode) directories

-- it names a symbolic link without target
abbrev pub names_empty_link : Tables → Content → Bool
names_empty_link t r = elim (inode_at t r.inode) [ Some i ↦ not (finds_target t i) | None ↦ false ]

-- ---- entries that come

-- an entry of this name; where no name row has the bytes, the name gets one
abbrev pub enter : Free → ℕ → List ℕ → ℕ → Tables → Option Made
enter free parent bytes inode t =
    elim (name_of_bytes t bytes) [
      | Some n ↦ Some (changing (changes.PutContent (record { parent = parent; name_id = n.id; inode = inode }) ∷ []))
      | None ↦ option_and_then (λ p. option_map (λ id. changing (
          changes.PutName (record { id = id; refcount = 1; name = bytes })
          ∷ changes.SetParams (record p { next_name = id + 1 })
          ∷ changes.PutContent (record { parent = parent; name_id = id; inode = inode }) ∷ [])) (next_name free t)) t.params
    ]

-- the directory lost+found
abbrev pub lost_and_found_of : Tables → Option ℕ
lost_and_found_of t = option_map (λ r. r.inode) (find (is_lost_and_found t) t.contents)

-- the directory has an entry of this name
abbrev pub is_taken : Tables → ℕ → List ℕ → Bool
is_taken t parent bytes = list_any (λ r. r.parent == parent && is_eq (bytes_cmp (bytes_of_name t r.name_id) bytes)) t.contents

-- the name of a moved inode: inode-I, and inode-I-k for each k from 1 on
abbrev pub moved_name : ℕ → ℕ → List ℕ
moved_name inode zero = codes "inode-" ++ decimal inode
moved_name inode (suc k) = codes "inode-" ++ (decimal inode ++ (codes "-" ++ decimal (suc k)))

-- the first k from a number on whose name is free, of so many
abbrev pub free_from : ℕ → Tables → ℕ → ℕ → ℕ → ℕ
free_from zero t parent inode k = k
free_from (suc more) t parent inode k = if is_taken t parent (moved_name inode k) then free_from more t parent inode (k + 1) else k

-- the first of these names that is free; of one more than there are entries, one is
abbrev pub free_name : Tables → ℕ → ℕ → List ℕ
free_name t parent inode = moved_name inode (free_from (length t.contents) t parent inode 0)

-- a count that is the listed one grows with a new entry
abbrev pub count_entry : ℕ → Tables → Option Made
count_entry inode t =
    elim (inode_at t inode) [
      | Some r ↦ Some (if counts_inode t r then changing (changes.PutInode (record r { refcount = r.refcount + 1 }) ∷ []) else nothing)
      | None ↦ Some nothing
    ]

-- the inode gets an entry in lost+found
abbrev pub move : Free → ℕ → Tables → Option Made
move free inode t =
    option_and_then
    (λ parent. (finding (findings.Moved inode) then count_entry inode then enter free parent (free_name t parent inode) inode) t)
    (lost_and_found_of t)
