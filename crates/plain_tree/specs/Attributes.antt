-- The attributes of a node.
use Rattle.std.specs.Prelude.{ℕ, ◌-◌, ◌^◌, ◌==◌, min, length, sum_by, count_by, if◌then◌else◌}
use Rattle.op_frames.specs.declared.reply.Attr.{Attr}
use Rattle.s3_base.specs.declared.node_kind.Kind.{Kind}
use Rattle.s3_base.specs.declared.node_kind.Kind.TheVariants as kinds
use Rattle.s3_base.specs.Numbers.{root}
use Rattle.plain_tree.specs.Tree.{Content, Regular, Directory, Link, Node, Tree}

abbrev pub kind_of : Content → Kind
kind_of (Regular bytes) = kinds.Regular
kind_of (Directory entries) = kinds.Directory
kind_of (Link target) = kinds.Link

-- the length of a file or of a target; a directory has size 0
abbrev pub size_of : Content → ℕ
size_of (Regular bytes) = length bytes
size_of (Directory entries) = 0
size_of (Link target) = length target

-- how many entries of a directory name the inode
abbrev pub names_in : ℕ → Content → ℕ
names_in inode (Directory entries) = count_by (λ e. e.1 == inode) entries
names_in inode (Regular bytes) = 0
names_in inode (Link target) = 0

-- how many entries name the inode; the root counts 1, and the count stands still at the end of its type
abbrev pub link_count : Tree → ℕ → ℕ
link_count t inode = if inode == root then 1 else min (sum_by (λ e. names_in inode e.1.content) t.nodes) (2 ^ 64 - 1)

abbrev pub attr_of : Tree → ℕ → Node → Attr
attr_of t inode node = record {
  inode = inode;
  kind = kind_of node.content;
  mode = node.mode;
  uid = node.uid;
  gid = node.gid;
  links = link_count t inode;
  size = size_of node.content;
  mtime = node.mtime;
  ctime = node.ctime;
  locked = node.locked;
}

abbrev pub entries_in : Content → ℕ
entries_in (Directory entries) = length entries
entries_in (Regular bytes) = 0
entries_in (Link target) = 0

abbrev pub bytes_in : Content → ℕ
bytes_in (Regular bytes) = length bytes
bytes_in (Directory entries) = 0
bytes_in (Link target) = 0

-- a number, as far as its field holds it
abbrev pub at_most_u64 : ℕ → ℕ
at_most_u64 n = min n (2 ^ 64 - 1)

-- how many entries all directories have
abbrev pub entry_count : Tree → ℕ
entry_count t = sum_by (λ e. entries_in e.1.content) t.nodes

-- how many bytes all regular files have
abbrev pub byte_count : Tree → ℕ
byte_count t = sum_by (λ e. bytes_in e.1.content) t.nodes
