-- A tree with the lengths of files in place of their bytes, and the one that tables have.
use Rattle.std.specs.Prelude.{◌≡◌, ℕ, List, [], length, map, Bool, option_map, unwrap_or}
use Rattle.s3_base.specs.declared.node_kind.Kind.TheVariants as kinds
use Rattle.plain_tree.specs.Tree as tree
use Rattle.s3_rows.specs.Rows.{Inode}
use Rattle.s3_rows.specs.Tables.{Tables}
use Rattle.s3_rows.specs.Selections.{target_at, named_entries, named_attrs}

-- the length of a regular file, the entries of a directory in the order of their names, or the target of a symbolic link
pub data ContentShape : Type 0 where
  Regular : (size : ℕ) → ContentShape
  Directory : (entries : List (List ℕ × ℕ)) → ContentShape
  Link : (target : List ℕ) → ContentShape

pub record NodeShape : Type 0 where
  pub mode : ℕ
  pub uid : ℕ
  pub gid : ℕ
  pub mtime : ℕ
  pub ctime : ℕ
  pub locked : Bool
  pub attributes : List (List ℕ × List ℕ)
  pub content : ContentShape

pub record TreeShape : Type 0 where
  pub block_size : ℕ
  pub next_inode : ℕ
  pub nodes : List (ℕ × NodeShape)

-- ---- of a tree

abbrev pub shape_of_content : tree.Content → ContentShape
shape_of_content (tree.Regular bytes) = Regular (length bytes)
shape_of_content (tree.Directory entries) = Directory entries
shape_of_content (tree.Link target) = Link target

abbrev pub shape_of_node : tree.Node → NodeShape
shape_of_node node = record {
  mode = node.mode;
  uid = node.uid;
  gid = node.gid;
  mtime = node.mtime;
  ctime = node.ctime;
  locked = node.locked;
  attributes = node.attributes;
  content = shape_of_content node.content;
}

abbrev pub shape_of_tree : tree.Tree → TreeShape
shape_of_tree t = record { block_size = t.block_size; next_inode = t.next_inode; nodes = map (λ e. (e.0, shape_of_node e.1)) t.nodes }

-- ---- of tables

-- the entries of a directory: name and inode
abbrev pub entries_in : Tables → ℕ → List (List ℕ × ℕ)
entries_in t id = map (λ e. (e.name, e.row.inode)) (named_entries t id)

-- the attributes of an inode: name and value
abbrev pub attributes_in : Tables → ℕ → List (List ℕ × List ℕ)
attributes_in t id = map (λ a. (a.name, a.row.value)) (named_attrs t id)

-- the target of a symbolic link
abbrev pub target_in : Tables → ℕ → List ℕ
target_in t id = unwrap_or (option_map (λ r. r.target) (target_at t id)) []

abbrev pub content_of_row : Tables → Inode → ContentShape
content_of_row t r =
    elim r.kind [ kinds.Directory ↦ Directory (entries_in t r.id) | kinds.Regular ↦ Regular r.size | kinds.Link ↦ Link (target_in t r.id) ]

abbrev pub node_of_row : Tables → Inode → NodeShape
node_of_row t r = record {
  mode = r.mode;
  uid = r.uid;
  gid = r.gid;
  mtime = r.mtime;
  ctime = r.ctime;
  locked = r.locked;
  attributes = attributes_in t r.id;
  content = content_of_row t r;
}

-- the shape that tables have
abbrev pub shape_of_tables : Tables → TreeShape
shape_of_tables t = record {
  block_size = unwrap_or (option_map (λ p. p.block_size) t.params) 0;
  next_inode = unwrap_or (option_map (λ p. p.next_inode) t.params) 0;
  nodes = map (λ r. (r.id, node_of_row t r)) t.inodes;
}

-- the tables have the nodes, entries, targets, attributes and lengths of the tree, and its next inode number
abbrev pub Represents : Tables → tree.Tree → Type 0
Represents t whole = shape_of_tables t ≡ shape_of_tree whole
