-- What a tree and its shape say alike.
use Rattle.std.proofs.Common.{◌≡◌, ℕ, List, [], ◌∷◌, Bool, true, false, cond, Option, None, Some, refl, sym, ap, ◌∙◌}
use Rattle.std.specs.Prelude.{◌==◌, count_by, sum_by, map, option_map, option_and_then, find}
use Rattle.std.specs.Map.{lookup}
use Rattle.std.proofs.lemmas.Map.Made.{lookup-map_values}
use Rattle.std.specs.Ordering.{nat_cmp}
use Rattle.std.specs.BTreeMap.{is_at}
use Rattle.std.specs.Cmp.Lexicographic.{slice_cmp}
use Rattle.plain_tree.specs.Tree as tree
use Rattle.plain_tree.specs.Tree.{Node, Tree, node_at, entry_of}
use Rattle.plain_tree.specs.Attributes.{names_in}
use Rattle.plain_tree.specs.Entries.{is_folder, entry_at}
use Rattle.plain_tree.specs.WellFormed.{entries_naming}
use Rattle.s3_rows.specs.Rows.{Inode}
use Rattle.s3_rows.specs.Tables.{Tables}
use Rattle.s3_rows.specs.Selections.{inode_at}
use Rattle.row_lemmas.proofs.Sums.{sum_by-map}
use Rattle.tree_rows.specs.Shapes.{ContentShape, Regular, Directory, Link, NodeShape, TreeShape, shape_of_content, shape_of_node, node_of_row, Represents}

-- ---- of shapes

abbrev pub entry_of_shape : ContentShape → List ℕ → Option ℕ
entry_of_shape (Directory entries) name = lookup (is_at (slice_cmp nat_cmp name)) entries
entry_of_shape (Regular size) name = None
entry_of_shape (Link target) name = None

abbrev pub names_in_shape : ℕ → ContentShape → ℕ
names_in_shape inode (Directory entries) = count_by (λ e. e.1 == inode) entries
names_in_shape inode (Regular size) = 0
names_in_shape inode (Link target) = 0

abbrev pub is_folder_content : ContentShape → Bool
is_folder_content (Directory entries) = true
is_folder_content (Regular size) = false
is_folder_content (Link target) = false

abbrev pub is_folder_shape : Option NodeShape → Bool
is_folder_shape None = false
is_folder_shape (Some node) = is_folder_content node.content

-- ---- of a tree and its shape

entry_alike : (content : tree.Content) (name : List ℕ) → entry_of content name ≡ entry_of_shape (shape_of_content content) name
entry_alike (tree.Regular bytes) name = refl
entry_alike (tree.Directory entries) name = refl
entry_alike (tree.Link target) name = refl

names_alike : (inode : ℕ) (content : tree.Content) → names_in inode content ≡ names_in_shape inode (shape_of_content content)
names_alike inode (tree.Regular bytes) = refl
names_alike inode (tree.Directory entries) = refl
names_alike inode (tree.Link target) = refl

folder_of_node : (node : Node) (content : tree.Content) → node.content ≡ content → is_folder (Some node) ≡ is_folder_content (shape_of_content content)
folder_of_node node (tree.Regular bytes) is = ap (λ c. is_folder (Some (record node { content = c }))) is
folder_of_node node (tree.Directory entries) is = ap (λ c. is_folder (Some (record node { content = c }))) is
folder_of_node node (tree.Link target) is = ap (λ c. is_folder (Some (record node { content = c }))) is

folder_alike : (found : Option Node) → is_folder found ≡ is_folder_shape (option_map shape_of_node found)
folder_alike None = refl
folder_alike (Some node) = folder_of_node node node.content refl

entries_alike : (found : Option Node) (name : List ℕ)
    → option_and_then (λ node. entry_of node.content name) found ≡ option_and_then (λ node. entry_of_shape node.content name) (option_map shape_of_node found)
entries_alike None name = refl
entries_alike (Some node) name = entry_alike node.content name

naming_alike : (inode : ℕ) (nodes : List (ℕ × Node))
    → sum_by (λ e. names_in inode e.1.content) nodes ≡ sum_by (λ (e : ℕ × NodeShape). names_in_shape inode e.1.content) (map (λ e. (e.0, shape_of_node e.1)) nodes)
naming_alike inode nodes =
    let named : ℕ × NodeShape → ℕ = λ e. names_in_shape inode e.1.content in
    let shaped : ℕ × Node → ℕ × NodeShape = λ e. (e.0, shape_of_node e.1) in
    let of_node : ℕ × Node → ℕ = λ e. names_in inode e.1.content in
    let of_shape : ℕ × Node → ℕ = λ e. names_in_shape inode (shape_of_content e.1.content) in
    let alike : of_node ≡ of_shape = λ i e. names_alike inode e.1.content i in
    ap (λ (f : ℕ × Node → ℕ). sum_by f nodes) alike ∙ sym (sum_by-map named shaped nodes)

-- a look-up over rows with what is made of them
pub lookup_made : {K X R : Type 0} (key : R → K) (make : R → X) (test : K → Bool) (rows : List R) → lookup test (map (λ r. (key r, make r)) rows) ≡ option_map make (find (λ r. test (key r)) rows)
lookup_made key make test [] = refl
lookup_made key make test (r ∷ rs) = by_case (lookup_made key make test rs) (test (key r))
  where
    by_case : lookup test (map (λ r. (key r, make r)) rs) ≡ option_map make (find (λ r. test (key r)) rs) → (b : Bool)
        → cond b (Some (make r)) (lookup test (map (λ r. (key r, make r)) rs)) ≡ option_map make (cond b (Some r) (find (λ r. test (key r)) rs))
    by_case others true = refl
    by_case others false = others

-- ---- of a tree and tables that represent it

module _ (t : Tables) (whole : Tree) (same : Represents t whole) where
  pub found_alike : (x : ℕ) → option_map shape_of_node (node_at whole x) ≡ option_map (node_of_row t) (inode_at t x)
  found_alike x =
      sym (lookup-map_values shape_of_node (is_at (nat_cmp x)) whole.nodes) ∙ ap (λ (s : TreeShape). lookup (is_at (nat_cmp x)) s.nodes) (sym same)
      ∙ lookup_made (λ (r : Inode). r.id) (node_of_row t) (is_at (nat_cmp x)) t.inodes

  pub is_folder_there : (x : ℕ) → is_folder (node_at whole x) ≡ is_folder_shape (option_map (node_of_row t) (inode_at t x))
  is_folder_there x = folder_alike (node_at whole x) ∙ ap is_folder_shape (found_alike x)

  pub entry_there : (parent : ℕ) (name : List ℕ) → entry_at whole parent name ≡ option_and_then (λ node. entry_of_shape node.content name) (option_map (node_of_row t) (inode_at t parent))
  entry_there parent name = entries_alike (node_at whole parent) name ∙ ap (option_and_then (λ (node : NodeShape). entry_of_shape node.content name)) (found_alike parent)

  pub naming_there : (inode : ℕ) → entries_naming whole inode ≡ sum_by (λ r. names_in_shape inode (node_of_row t r).content) t.inodes
  naming_there inode =
      let named : ℕ × NodeShape → ℕ = λ e. names_in_shape inode e.1.content in
      let made : Inode → ℕ × NodeShape = λ r. (r.id, node_of_row t r) in
      naming_alike inode whole.nodes ∙ ap (λ (s : TreeShape). sum_by named s.nodes) (sym same) ∙ sum_by-map named made t.inodes
