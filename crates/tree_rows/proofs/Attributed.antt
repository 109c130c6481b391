-- The attributes of a node are those of its row.
use Rattle.std.proofs.Common.{◌≡◌, ◌<◌, ◌^◌, ◌-◌, ℕ, [], Bool, true, false, cond, Option, None, Some, refl, sym, ap, ◌∙◌, arith, eqb-true}
use Rattle.std.specs.Prelude.{IsTrue, ◌==◌, min, length, option_map, unwrap_or}
use Rattle.s3_base.specs.declared.node_kind.Kind.{Kind}
use Rattle.s3_base.specs.declared.node_kind.Kind.TheVariants as kinds
use Rattle.op_frames.specs.declared.reply.Reply.{Reply}
use Rattle.op_frames.specs.declared.reply.Reply.TheVariants as replies
use Rattle.plain_tree.specs.Tree as tree
use Rattle.s3_base.specs.Numbers.{root}
use Rattle.plain_tree.specs.Tree.{Node, Tree, node_at}
use Rattle.plain_tree.specs.Attributes.{kind_of, size_of, link_count, attr_of}
use Rattle.plain_tree.specs.Operations.{attr_reply}
use Rattle.plain_tree.specs.WellFormed.{entries_naming}
use Rattle.s3_rows.specs.Rows.{Inode, Target}
use Rattle.s3_rows.specs.Keyed.{has_key}
use Rattle.s3_rows.specs.Tables.{Tables, by_inode}
use Rattle.s3_rows.specs.Selections.{inode_at, target_at}
use Rattle.s3_rows.specs.Validity.{IsValid, has_its_size, is_number}
use Rattle.row_lemmas.proofs.Tests.{find_passes_all}
use Rattle.tree_rows.specs.Attrs.{attr_of_row}
use Rattle.tree_rows.specs.Shapes.{ContentShape, Regular, Directory, Link, NodeShape, shape_of_content, shape_of_node, node_of_row, Represents}
use Rattle.tree_rows.proofs.Replaced.{node_of}
use Rattle.tree_rows.proofs.Rooted.{link_count_is, stored_count}
use Rattle.tree_rows.proofs.Shaped.{found_alike}
use Rattle.tree_rows.proofs.Whole.{content_of_kind, number_of}

-- ---- of shapes

kind_of_shape : ContentShape → Kind
kind_of_shape (Directory entries) = kinds.Directory
kind_of_shape (Regular size) = kinds.Regular
kind_of_shape (Link target) = kinds.Link

size_of_shape : ContentShape → ℕ
size_of_shape (Directory entries) = 0
size_of_shape (Regular size) = size
size_of_shape (Link target) = length target

kind_alike : (content : tree.Content) → kind_of content ≡ kind_of_shape (shape_of_content content)
unfolding kind_of_shape
kind_alike (tree.Regular bytes) = refl
kind_alike (tree.Directory entries) = refl
kind_alike (tree.Link target) = refl

size_alike : (content : tree.Content) → size_of content ≡ size_of_shape (shape_of_content content)
unfolding size_of_shape
size_alike (tree.Regular bytes) = refl
size_alike (tree.Directory entries) = refl
size_alike (tree.Link target) = refl

kind_of_row : (t : Tables) (r : Inode) (kind : Kind) → kind_of_shape (content_of_kind t r kind) ≡ kind
unfolding kind_of_shape
kind_of_row t r kinds.Directory = refl
kind_of_row t r kinds.Regular = refl
kind_of_row t r kinds.Link = refl

target_length : (size : ℕ) (found : Option Target) → IsTrue (is_number size (option_map (λ x. length x.target) found)) → length (unwrap_or (option_map (λ x. x.target) found) []) ≡ size
target_length size None is = absurd (cc is)
target_length size (Some x) is = sym (eqb-true size (length x.target) is)

size_of_row : (t : Tables) (r : Inode) (kind : Kind)
    → IsTrue (elim kind [ kinds.Directory ↦ r.size == 0 | kinds.Regular ↦ true | kinds.Link ↦ is_number r.size (option_map (λ (x : Target). length x.target) (target_at t r.id)) ])
    → size_of_shape (content_of_kind t r kind) ≡ r.size
unfolding size_of_shape
size_of_row t r kinds.Directory is = sym (eqb-true r.size 0 is)
size_of_row t r kinds.Regular is = refl
size_of_row t r kinds.Link is = target_length r.size (target_at t r.id) is

-- the kind of a node that a row stands for
pub kind_there : (t : Tables) (r : Inode) (node : Node) → shape_of_node node ≡ node_of_row t r → kind_of node.content ≡ r.kind
kind_there t r node shape =
    let content : shape_of_content node.content ≡ content_of_kind t r r.kind = ap (λ (s : NodeShape). s.content) shape in
    kind_alike node.content ∙ ap kind_of_shape content ∙ kind_of_row t r r.kind

-- ---- of valid tables

links_of : (t : Tables) (whole : Tree) (x : ℕ) (r : Inode) → IsValid t → Represents t whole → inode_at t x ≡ Some r → r.refcount < 2 ^ 62 → link_count whole x ≡ r.refcount
links_of t whole x r v same is below = by_case (x == root) refl
  where
    by_case : (b : Bool) → (x == root) ≡ b → cond b 1 (min (entries_naming whole x) (2 ^ 64 - 1)) ≡ r.refcount
    by_case true here =
        let first : inode_at t root ≡ Some r = ap (inode_at t) (sym (eqb-true x root here)) ∙ is in
        sym (stored_count t root r v first)
    by_case false here =
        let count : r.refcount ≡ entries_naming whole x = link_count_is t whole x r v same is (λ equal. not_here equal) in
        omega (arith, count, below)
      where
        not_here : x ≡ root → ⊥
        not_here equal =
            let clash : true ≡ false = sym (ap (λ y. y == root) equal) ∙ here in
            cc clash

pub attr_alike : (t : Tables) (whole : Tree) (x : ℕ) (r : Inode) (node : Node) → IsValid t → Represents t whole → inode_at t x ≡ Some r → r.refcount < 2 ^ 62 → shape_of_node node ≡ node_of_row t r
    → attr_of whole x node ≡ attr_of_row r
attr_alike t whole x r node v same is below shape =
    let content : shape_of_content node.content ≡ content_of_kind t r r.kind = ap (λ (s : NodeShape). s.content) shape in
    let size_test : IsTrue (has_its_size t r) = find_passes_all (has_key by_inode x) (has_its_size t) t.inodes r v.sizes.inodes is in
    let kind : kind_of node.content ≡ r.kind = kind_there t r node shape in
    let size : size_of node.content ≡ r.size = size_alike node.content ∙ ap size_of_shape content ∙ size_of_row t r r.kind size_test in
    let links : link_count whole x ≡ r.refcount = links_of t whole x r v same is below in
    λ i. record {
      inode = number_of t x r is i;
      kind = kind i;
      mode = (ap (λ (s : NodeShape). s.mode) shape) i;
      uid = (ap (λ (s : NodeShape). s.uid) shape) i;
      gid = (ap (λ (s : NodeShape). s.gid) shape) i;
      links = links i;
      size = size i;
      mtime = (ap (λ (s : NodeShape). s.mtime) shape) i;
      ctime = (ap (λ (s : NodeShape). s.ctime) shape) i;
      locked = (ap (λ (s : NodeShape). s.locked) shape) i;
    }

pub attr_is : (t : Tables) (whole : Tree) (x : ℕ) (r : Inode) → IsValid t → Represents t whole → inode_at t x ≡ Some r → r.refcount < 2 ^ 62 → attr_reply whole x ≡ replies.Attr (attr_of_row r)
attr_is t whole x r v same is below =
    let found = node_of (node_at whole x) (node_of_row t r) (found_alike t whole same x ∙ ap (option_map (node_of_row t)) is) in
    ap (λ (n : Option Node). let reply : Reply = elim n [ Some node ↦ replies.Attr (attr_of whole x node) | None ↦ replies.Done ] in reply) found.1
    ∙ ap replies.Attr (attr_alike t whole x r found.0 v same is below found.2)
