-- A node comes with all that is its own, but for its entries.
use Rattle.std.proofs.Common.{◌≡◌, ℕ, List, [], ◌∷◌, Some, refl, sym, ap, subst}
use Rattle.std.specs.Map.{keys_of}
use Rattle.std.specs.Prelude.{IsTrue, nat_lt}
use Rattle.s3_base.specs.Numbers.{root}
use Rattle.plain_tree.specs.Names.{NamesInOrder, Rise}
use Rattle.plain_tree.specs.Numbers.{InOrder}
use Rattle.plain_tree.specs.Tree.{Node, Tree}
use Rattle.s3_rows.specs.declared.change.Change.{Change}
use Rattle.s3_rows.specs.Rows.{Inode, Parameters}
use Rattle.s3_rows.specs.Keyed.{put}
use Rattle.s3_rows.specs.Tables.{Tables, by_inode}
use Rattle.s3_rows.specs.Batches.{tables_after}
use Rattle.s3_rows.specs.Selections.{inode_at, named_attrs}
use Rattle.row_lemmas.proofs.Tables.{tables_after-tables_after}
use Rattle.tree_rows.specs.Shapes.{NodeShape, node_of_row, shape_of_node}
use Rattle.row_steps.specs.Owed.{Owes}
use Rattle.tree_copy.specs.CopiedRows.{attrs_copied, copied_row, node_copied, node_fits, row_copied}
use Rattle.tree_copy.specs.PartialCopies.{HasMore, begun, without_entries}
use Rattle.tree_copy.proofs.CopiedAttrs.{IsAttributed, all_attributes, pairs}
use Rattle.tree_copy.proofs.NewCopies.{Stands-row, after_is, more_row, row_there}
use Rattle.tree_copy.proofs.Stands.{Stands, next_is}

-- tables after a node came under a number, whose link is owed
pub record NodeComes (told u w : Tables) (t : Tree) (id now : ℕ) (r : Inode) (copy : Node) : Type 0 where
  pub tree : Tree
  pub stands : Stands told w tree (id ∷ [])
  pub more : HasMore t tree copy
  pub inodes : w.inodes ≡ put by_inode (copied_row id now r) u.inodes

module _ (told u : Tables) (t : Tree) (q : Parameters) (owes : Owes told q [] []) (r : Inode) (node : Node) (now : ℕ) (there : inode_at told r.id ≡ Some r)
    (shape : shape_of_node node ≡ node_of_row told r) (s : Stands told u t []) (ordered : InOrder t) (names : NamesInOrder t)
    (above : IsTrue (nat_lt root s.p.next_inode)) (rise : Rise (keys_of node.attributes)) where
  abbrev id : ℕ
  id = s.p.next_inode

  abbrev with_row : Tables
  with_row = tables_after (row_copied told s.p.next_inode now r u) u

  abbrev base : Node
  base = begun now (without_entries node.content) node

  abbrev rows : List Inode
  rows = put by_inode (copied_row s.p.next_inode now r) u.inodes

  own : s.p.next_inode ≡ t.next_inode
  own = next_is told u t [] s

  abbrev Has : Tables → List (List ℕ × List ℕ) → Type 0
  Has w xs = IsAttributed told t (put by_inode (copied_row s.p.next_inode now r) u.inodes) (copied_row s.p.next_inode now r) (begun now (without_entries node.content) node) now own w xs

  start : Has with_row []
  start =
      subst (λ (w : Tables). Has w []) (sym (after_is told u t q owes r node now there shape s ordered names above))
      (record {
        tree = _;
        stands = Stands-row told u t q owes r node now there shape s ordered names above;
        more = more_row told u t q owes r node now there shape s ordered names above;
        found = row_there told u t q owes r node now there shape s ordered names above;
        inodes = refl;
      })

  listed : node.attributes ≡ pairs (named_attrs told r.id)
  listed = ap (λ (x : NodeShape). x.attributes) shape

  pub node_comes : IsTrue (node_fits told s.p.next_inode now r u)
      → NodeComes told u (tables_after (node_copied told s.p.next_inode now r u) u) t s.p.next_inode now r (begun now (without_entries node.content) node)
  node_comes fits =
      let rest : List Change = attrs_copied s.p.next_inode (named_attrs told r.id) with_row in
      let all : Has (tables_after rest with_row) (pairs (named_attrs told r.id)) =
      all_attributes told t rows (copied_row s.p.next_inode now r) base now own (named_attrs told r.id) with_row [] start
      (subst (λ (xs : List (List ℕ × List ℕ)). Rise (keys_of xs)) listed rise) fits in
      subst (λ (w : Tables). NodeComes told u w t s.p.next_inode now r base) (tables_after-tables_after (row_copied told s.p.next_inode now r u) rest u)
      (record {
        tree = all.tree;
        stands = all.stands;
        more = subst (λ (xs : List (List ℕ × List ℕ)). HasMore t all.tree (record base { attributes = xs })) (sym listed) all.more;
        inodes = all.inodes;
      })
