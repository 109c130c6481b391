-- A directory from which an entry goes that it does not have is only touched.
use Rattle.std.proofs.Common.{◌≡◌, ℕ, List, [], ◌∷◌, Bool, true, false, cond, Option, None, Some, refl, sym, ap, ◌∙◌}
use Rattle.std.specs.Prelude.{IsTrue, option_map, option_and_then}
use Rattle.std.specs.BTreeMap.{is_at}
use Rattle.std.specs.Cmp.Lexicographic.{slice_cmp}
use Rattle.std.specs.Map.{lookup, remove_entry}
use Rattle.std.specs.Ordering.{nat_cmp}
use Rattle.plain_tree.specs.Tree as tree
use Rattle.plain_tree.specs.Tree.{Node, Tree, touched}
use Rattle.plain_tree.specs.Entries.{drop_entry, entry_at, unnamed}
use Rattle.s3_rows.specs.Rows.{Inode}
use Rattle.s3_rows.specs.Keyed.{put, rises}
use Rattle.s3_rows.specs.Tables.{Tables, by_inode}
use Rattle.s3_rows.specs.Selections.{inode_at}
use Rattle.tree_rows.specs.Shapes.{ContentShape, Directory, NodeShape, shape_of_content, shape_of_node, content_of_row, node_of_row, Represents}
use Rattle.tree_rows.proofs.Replaced.{replaced_represents}
use Rattle.tree_rows.proofs.Shaped.{entry_of_shape, entry_there}
use Rattle.row_steps.specs.RowChanges.{touched_row}

remove_entry_none : {K X : Type 0} (test : K → Bool) (es : List (K × X)) → lookup test es ≡ None → remove_entry test es ≡ es
remove_entry_none test [] none = refl
remove_entry_none test (e ∷ es) none = by_case (remove_entry_none test es) (test e.0) none
  where
    by_case : (lookup test es ≡ None → remove_entry test es ≡ es) → (b : Bool) → cond b (Some e.1) (lookup test es) ≡ None → cond b es (e ∷ remove_entry test es) ≡ e ∷ es
    by_case others true is = absurd (cc is)
    by_case others false is = ap (λ xs. e ∷ xs) (others is)

unnamed_none : (content : tree.Content) (shape : ContentShape) (name : List ℕ) → shape_of_content content ≡ shape → entry_of_shape shape name ≡ None
    → shape_of_content (unnamed name content) ≡ shape
unnamed_none (tree.Directory own) shape name is none =
    ap Directory (remove_entry_none (is_at (slice_cmp nat_cmp name)) own (ap (λ s. entry_of_shape s name) is ∙ none)) ∙ is
unnamed_none (tree.Regular bytes) shape name is none = is
unnamed_none (tree.Link target) shape name is none = is

pub Represents-touch_unlisted : (u : Tables) (whole : Tree) (e : Inode) (name : List ℕ) (now : ℕ) → IsTrue (rises by_inode u.inodes) → Represents u whole
    → inode_at u e.id ≡ Some e → entry_at whole e.id name ≡ None
    → Represents (record u { inodes = put by_inode (touched_row now e) u.inodes }) (drop_entry e.id name now whole)
Represents-touch_unlisted u whole e name now rise same there absent =
    replaced_represents u whole e (touched_row now e) (λ node. touched now (record node { content = unnamed name node.content })) rise same there alike
  where
    none : entry_of_shape (content_of_row u e) name ≡ None
    none =
        sym (ap (λ (found : Option Inode). option_and_then (λ (node : NodeShape). entry_of_shape node.content name) (option_map (node_of_row u) found)) there)
        ∙ sym (entry_there u whole same e.id name) ∙ absent

    alike : (node : Node) → shape_of_node node ≡ node_of_row u e
        → shape_of_node (touched now (record node { content = unnamed name node.content })) ≡ node_of_row u (touched_row now e)
    alike node shape =
        let content : shape_of_content (unnamed name node.content) ≡ content_of_row u e =
        unnamed_none node.content (content_of_row u e) name (ap (λ (s : NodeShape). s.content) shape) none in
        λ i. record {
          mode = (ap (λ (s : NodeShape). s.mode) shape) i;
          uid = (ap (λ (s : NodeShape). s.uid) shape) i;
          gid = (ap (λ (s : NodeShape). s.gid) shape) i;
          mtime = now;
          ctime = now;
          locked = (ap (λ (s : NodeShape). s.locked) shape) i;
          attributes = (ap (λ (s : NodeShape). s.attributes) shape) i;
          content = content i;
        }
