-- Whole subtrees: renamed, copied, locked and removed.
use Rattle.std.specs.Prelude.{ℕ, ◌+◌, ◌==◌, List, [], ◌∷◌, ◌++◌, length, map, filter, Bool, true, false, not, ◌&&◌, Option, None, Some, if◌then◌else◌}
use Rattle.std.specs.List.{filter_map}
use Rattle.plain_tree.specs.Tree.{Content, Regular, Directory, Link, Node, Tree, node_at, change_node, stamped}
use Rattle.plain_tree.specs.Entries.{is_directory, entry_at, add_entry, drop_entry, lives, settled}
use Rattle.plain_tree.specs.Below.{is_among, at_and_below}

-- ---- rename

-- two entries name one inode
abbrev pub is_same : Option ℕ → Option ℕ → Bool
is_same (Some a) (Some b) = a == b
is_same (Some a) None = false
is_same None b = false

-- the node that an entry names is stamped, and goes where nothing keeps it
abbrev pub dropped : ℕ → Option ℕ → Tree → Tree
dropped now None t = t
dropped now (Some inode) t = settled inode (change_node inode (stamped now) t)

-- the old entry goes, and the new one names its node, whose entry it was before; the parents are touched
abbrev pub moved_entry : ℕ → List ℕ → ℕ → List ℕ → ℕ → Option ℕ → Tree → Tree
moved_entry parent name new_parent new_name now None t = t
moved_entry parent name new_parent new_name now (Some inode) t =
    dropped now (entry_at t new_parent new_name)
    (change_node inode (stamped now) (add_entry new_parent new_name inode now (drop_entry new_parent new_name now (drop_entry parent name now t))))

-- ---- copy

-- the place of a number in a list, or the list's length
abbrev pub place_of : ℕ → List ℕ → ℕ
place_of inode [] = 0
place_of inode (i ∷ is) = if i == inode then 0 else place_of inode is + 1

-- the number of the copy of an inode: one after the other, in the order of the walk
abbrev pub copy_number : ℕ → List ℕ → ℕ → ℕ
copy_number next order inode = next + place_of inode order

-- entries that name the copies
abbrev pub copied_content : ℕ → List ℕ → Content → Content
copied_content next order (Directory entries) = Directory (map (λ e. (e.0, copy_number next order e.1)) entries)
copied_content next order (Regular bytes) = Regular bytes
copied_content next order (Link target) = Link target

-- a copy is not locked, and its time of the last change of state is that of the copying
abbrev pub copied_node : ℕ → List ℕ → ℕ → Node → Node
copied_node next order now node = record node { ctime = now; locked = false; content = copied_content next order node.content }

-- the copies of the nodes in the order of the walk
abbrev pub copies : Tree → List ℕ → ℕ → List ℕ → List (ℕ × Node)
copies t order now [] = []
copies t order now (inode ∷ inodes) =
    elim (node_at t inode) [
      | Some node ↦ (copy_number t.next_inode order inode, copied_node t.next_inode order now node) ∷ copies t order now inodes
      | None ↦ copies t order now inodes
    ]

-- with a copy of all at and below a directory, under the next inode numbers, named in a directory
abbrev pub with_copy : ℕ → ℕ → List ℕ → ℕ → Tree → Tree
with_copy source parent name now t =
    let order = at_and_below t source in
    add_entry parent name t.next_inode now (record t { next_inode = t.next_inode + length order; nodes = t.nodes ++ copies t order now order })

-- ---- lock

-- with all at and below a node locked
abbrev pub with_lock : ℕ → Tree → Tree
with_lock inode t =
    let below = at_and_below t inode in
    record t { nodes = map (λ e. if is_among below e.0 then (e.0, record e.1 { locked = true }) else e) t.nodes }

-- ---- remove

-- what is left of a node at or below a directory that is removed: a directory goes, and another node stays, stamped, where
-- an entry or a handle still names it
abbrev pub left_over : Tree → List ℕ → ℕ → ℕ × Node → Option (ℕ × Node)
left_over without below now e =
    if is_among below e.0 then (if lives without e.0 && not (is_directory e.1.content) then Some (e.0, stamped now e.1) else None)
    else Some e

-- without the directories at and below one, so without the entries in them
abbrev pub without_directories : List ℕ → Tree → Tree
without_directories below t = record t { nodes = filter (λ e. not (is_among below e.0 && is_directory e.1.content)) t.nodes }

-- without an entry and all at and below the directory that it names
abbrev pub without_tree : ℕ → List ℕ → ℕ → Option ℕ → Tree → Tree
without_tree parent name now None t = t
without_tree parent name now (Some inode) t =
    let below = at_and_below t inode in
    let unlinked = drop_entry parent name now t in
    record unlinked { nodes = filter_map (left_over (without_directories below unlinked) below now) unlinked.nodes }

-- ---- leave

-- without the handles of a pass, and without the files that only these kept
abbrev pub without_pass : ℕ → Tree → Tree
without_pass pass t =
    let closed = record t { handles = filter (λ h. not (h.1.pass == pass)) t.handles } in
    record closed { nodes = filter (λ e. lives closed e.0) closed.nodes }
