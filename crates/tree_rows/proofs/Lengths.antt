-- The files of the tree that tables stand for are as long as their rows say.
use Rattle.std.proofs.Common.{◌≡◌, ◌≤◌, ◌<◌, ℕ, zero, suc, ◌+◌, ◌-◌, ◌*◌, ◌/◌, List, [], ◌∷◌, length, refl, sym, ap, ◌∙◌, arith, length-append}
use Rattle.std.specs.Prelude.{map, option_map, unwrap_or}
use Rattle.std.proofs.lemmas.List.{length-take}
use Rattle.std.proofs.Math.Nat.{mod-lt, suc-mul, zero-mul}
use Rattle.std.proofs.lemmas.Nat.{div-add-mod'}
use Rattle.s3_base.specs.declared.node_kind.Kind.{Kind}
use Rattle.s3_base.specs.declared.node_kind.Kind.TheVariants as kinds
use Rattle.plain_tree.specs.Tree as tree
use Rattle.s3_rows.specs.Rows.{Inode}
use Rattle.s3_rows.specs.Tables.{Tables}
use Rattle.tree_rows.specs.Shapes.{ContentShape, Regular, Directory, Link, NodeShape, shape_of_content, shape_of_node, shape_of_tables, entries_in, target_in, node_of_row, Represents}
use Rattle.block_math.specs.Changes.{padded}
use Rattle.block_math.proofs.LengthLemmas.{le-padded}
use Rattle.tree_rows.specs.Contents.{Contents, stored_at, blocks_from, bytes_in, node_in, tree_of}

-- so many blocks have so many bytes at least
long_enough : (contents : Contents) (t : Tables) (size inode count blockno : ℕ) → count * size ≤ length (blocks_from contents t size inode count blockno)
long_enough contents t size inode zero blockno = rw (zero-mul size) (omega arith)
long_enough contents t size inode (suc count) blockno =
    let block : List ℕ = padded size (stored_at contents t inode blockno) in
    let others : List ℕ = blocks_from contents t size inode count (blockno + 1) in
    omega (arith, suc-mul count size, length-append block others, le-padded size (stored_at contents t inode blockno), long_enough contents t size inode count (blockno + 1))

-- the blocks of a file reach to its end
reach : (size block_size : ℕ) → 0 < block_size → size ≤ (size + block_size - 1) / block_size * block_size
reach size block_size some =
    omega (arith, div-add-mod' (size + block_size - 1) block_size, mod-lt (size + block_size - 1) some)

file_length : (contents : Contents) (t : Tables) (block_size : ℕ) (r : Inode) → 0 < block_size → length (bytes_in contents t block_size r) ≡ r.size
file_length contents t block_size r some =
    let count : ℕ = (r.size + block_size - 1) / block_size in
    omega (arith, length-take r.size (blocks_from contents t block_size r.id count 0), long_enough contents t block_size r.id count 0, reach r.size block_size some)

-- ---- shapes

content_alike : (contents : Contents) (t : Tables) (block_size : ℕ) (r : Inode) → 0 < block_size → (kind : Kind)
    → shape_of_content (elim kind [ kinds.Directory ↦ tree.Directory (entries_in t r.id) | kinds.Regular ↦ tree.Regular (bytes_in contents t block_size r) | kinds.Link ↦ tree.Link (target_in t r.id) ])
    ≡ elim kind [ kinds.Directory ↦ Directory (entries_in t r.id) | kinds.Regular ↦ Regular r.size | kinds.Link ↦ Link (target_in t r.id) ]
content_alike contents t block_size r some kinds.Directory = refl
content_alike contents t block_size r some kinds.Regular = ap Regular (file_length contents t block_size r some)
content_alike contents t block_size r some kinds.Link = refl

node_alike : (contents : Contents) (t : Tables) (block_size : ℕ) (r : Inode) → 0 < block_size → shape_of_node (node_in contents t block_size r) ≡ node_of_row t r
node_alike contents t block_size r some = ap (λ (content : ContentShape). record (node_of_row t r) { content = content }) (content_alike contents t block_size r some r.kind)

-- a node with its number, its shape, and the shape of its row
abbrev numbered : Contents → Tables → ℕ → Inode → ℕ × tree.Node
numbered contents t block_size r = (r.id, node_in contents t block_size r)

abbrev shaped : ℕ × tree.Node → ℕ × NodeShape
shaped e = (e.0, shape_of_node e.1)

abbrev row_shape : Tables → Inode → ℕ × NodeShape
row_shape t r = (r.id, node_of_row t r)

rows_alike : (contents : Contents) (t : Tables) (block_size : ℕ) (rows : List Inode) → 0 < block_size → map shaped (map (numbered contents t block_size) rows) ≡ map (row_shape t) rows
rows_alike contents t block_size [] some = refl
rows_alike contents t block_size (r ∷ rs) some =
    ap (λ (s : NodeShape). (r.id, s) ∷ map shaped (map (numbered contents t block_size) rs)) (node_alike contents t block_size r some)
    ∙ ap (λ (es : List (ℕ × NodeShape)). row_shape t r ∷ es) (rows_alike contents t block_size rs some)

pub stands_for : (contents : Contents) (t : Tables) → 0 < unwrap_or (option_map (λ p. p.block_size) t.params) 0 → Represents t (tree_of contents t)
stands_for contents t some =
    ap (λ (nodes : List (ℕ × NodeShape)). record (shape_of_tables t) { nodes = nodes }) (sym (rows_alike contents t (unwrap_or (option_map (λ p. p.block_size) t.params) 0) t.inodes some))
