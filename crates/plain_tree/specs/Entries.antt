-- Entries of directories, and what they keep.
use Rattle.std.specs.Prelude.{ℕ, ◌==◌, List, [], Bool, false, true, ◌||◌, Option, None, Some, option_and_then, if◌then◌else◌}
use Rattle.std.specs.List.{list_any}
use Rattle.std.specs.Map.{remove_entry}
use Rattle.std.specs.Ordering.{nat_cmp}
use Rattle.std.specs.BTreeMap.{is_at}
use Rattle.std.specs.Cmp.Lexicographic.{slice_cmp}
use Rattle.s3_base.specs.Numbers.{root}
use Rattle.plain_tree.specs.Tree.{Content, Regular, Directory, Link, Node, Tree, node_at, entry_of, without_node, change_node, named, touched}

-- the entries of a directory, in the order of their names
abbrev pub entries_of : Content → List (List ℕ × ℕ)
entries_of (Directory entries) = entries
entries_of (Regular bytes) = []
entries_of (Link target) = []

abbrev pub is_directory : Content → Bool
is_directory (Directory entries) = true
is_directory (Regular bytes) = false
is_directory (Link target) = false

-- the inode that an entry of a node names, and its node
abbrev pub entry_at : Tree → ℕ → List ℕ → Option ℕ
entry_at t parent name = option_and_then (λ node. entry_of node.content name) (node_at t parent)

abbrev pub child_at : Tree → ℕ → List ℕ → Option Node
child_at t parent name = option_and_then (node_at t) (entry_at t parent name)

-- it is a directory that is there
abbrev pub is_folder : Option Node → Bool
is_folder None = false
is_folder (Some node) = is_directory node.content

-- with one entry less
abbrev pub unnamed : List ℕ → Content → Content
unnamed name (Directory entries) = Directory (remove_entry (is_at (slice_cmp nat_cmp name)) entries)
unnamed name (Regular bytes) = Regular bytes
unnamed name (Link target) = Link target

-- an entry is made, or goes, and the parent is touched
abbrev pub add_entry : ℕ → List ℕ → ℕ → ℕ → Tree → Tree
add_entry parent name inode now t = change_node parent (λ node. touched now (record node { content = named name inode node.content })) t

abbrev pub drop_entry : ℕ → List ℕ → ℕ → Tree → Tree
drop_entry parent name now t = change_node parent (λ node. touched now (record node { content = unnamed name node.content })) t

-- some entry names the inode
abbrev pub is_named : Tree → ℕ → Bool
is_named t inode = list_any (λ e. list_any (λ entry. entry.1 == inode) (entries_of e.1.content)) t.nodes

-- some handle is open on the inode
abbrev pub is_open : Tree → ℕ → Bool
is_open t inode = list_any (λ h. h.1.inode == inode) t.handles

-- what keeps a node: it is the root, or an entry or a handle names it
abbrev pub lives : Tree → ℕ → Bool
lives t inode = inode == root || is_named t inode || is_open t inode

-- a node that nothing keeps goes, with its attributes
abbrev pub settled : ℕ → Tree → Tree
settled inode t = if lives t inode then t else without_node inode t
