-- The bytes of files, from the blocks that rows name.
use Rattle.std.specs.Prelude.{◌≡◌, ℕ, zero, suc, ◌+◌, ◌-◌, ◌/◌, List, [], ◌∷◌, ◌++◌, length, take, map, Option, Some, option_and_then, option_map, unwrap_or}
use Rattle.std.specs.Map.{lookup}
use Rattle.std.specs.Ordering.{nat_cmp}
use Rattle.std.specs.BTreeMap.{is_at}
use Rattle.std.specs.Cmp.Lexicographic.{slice_cmp}
use Rattle.s3_base.specs.declared.node_kind.Kind.TheVariants as kinds
use Rattle.plain_tree.specs.Tree as tree
use Rattle.block_math.specs.Changes.{padded}
use Rattle.s3_rows.specs.Rows.{Inode, Block}
use Rattle.s3_rows.specs.Tables.{Tables}
use Rattle.tree_rows.specs.Shapes.{entries_in, attributes_in, target_in}
use Rattle.tree_rows.specs.Spots.{form_at}

-- what blocks hold: digests, each with the bytes that have it
abbrev pub Contents : Type 0
Contents = List (List ℕ × List ℕ)

-- the bytes of a digest
abbrev pub bytes_of : Contents → List ℕ → Option (List ℕ)
bytes_of contents digest = lookup (is_at (slice_cmp nat_cmp digest)) contents

-- each digest is that of its bytes
abbrev pub AreDigests : (List ℕ → List ℕ) → Contents → Type 0
AreDigests digest_of [] = Unit {0}
AreDigests digest_of (c ∷ contents) = (digest_of c.1 ≡ c.0) × AreDigests digest_of contents

-- the digest of each block has bytes, as many as the block's size
abbrev pub HaveBytes : Contents → List Block → Type 0
HaveBytes contents [] = Unit {0}
HaveBytes contents (r ∷ rs) = (option_map length (bytes_of contents r.digest.0) ≡ Some r.size) × HaveBytes contents rs

abbrev pub Fits : (List ℕ → List ℕ) → Contents → Tables → Type 0
Fits digest_of contents t = AreDigests digest_of contents × HaveBytes contents t.blocks

-- the stored form of a block of a file; nothing where no row names one
abbrev pub stored_at : Contents → Tables → ℕ → ℕ → List ℕ
stored_at contents t inode blockno = unwrap_or (option_and_then (λ form. bytes_of contents form.0) (form_at t inode blockno)) []

-- so many blocks of a file, from one on
abbrev pub blocks_from : Contents → Tables → ℕ → ℕ → ℕ → ℕ → List ℕ
blocks_from contents t block_size inode zero blockno = []
blocks_from contents t block_size inode (suc count) blockno =
    padded block_size (stored_at contents t inode blockno) ++ blocks_from contents t block_size inode count (blockno + 1)

-- the bytes of a file: its blocks, cut at its length
abbrev pub bytes_in : Contents → Tables → ℕ → Inode → List ℕ
bytes_in contents t block_size r = take r.size (blocks_from contents t block_size r.id ((r.size + block_size - 1) / block_size) 0)

abbrev pub content_in : Contents → Tables → ℕ → Inode → tree.Content
content_in contents t block_size r =
    elim r.kind [
      | kinds.Directory ↦ tree.Directory (entries_in t r.id)
      | kinds.Regular ↦ tree.Regular (bytes_in contents t block_size r)
      | kinds.Link ↦ tree.Link (target_in t r.id)
    ]

abbrev pub node_in : Contents → Tables → ℕ → Inode → tree.Node
node_in contents t block_size r = record {
  mode = r.mode;
  uid = r.uid;
  gid = r.gid;
  mtime = r.mtime;
  ctime = r.ctime;
  locked = r.locked;
  attributes = attributes_in t r.id;
  content = content_in contents t block_size r;
}

-- the tree that tables and contents stand for, without handles
abbrev pub tree_of : Contents → Tables → tree.Tree
tree_of contents t =
    let block_size = unwrap_or (option_map (λ p. p.block_size) t.params) 0 in
    record {
      block_size = block_size;
      next_inode = unwrap_or (option_map (λ p. p.next_inode) t.params) 0;
      nodes = map (λ r. (r.id, node_in contents t block_size r)) t.inodes;
      next_handle = 1;
      handles = [];
    }
