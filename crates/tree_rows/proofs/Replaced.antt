-- What a new row of an inode that is there does to the tree that tables represent.
use Rattle.std.proofs.Common.{◌≡◌, ℕ, List, [], ◌∷◌, Bool, true, false, cond, Option, None, Some, refl, sym, ap, ◌∙◌}
use Rattle.std.specs.Prelude.{IsTrue, map, option_map}
use Rattle.std.specs.Map.{set_value}
use Rattle.std.specs.Cmp.{nat_cmp_total}
use Rattle.std.specs.FinMap.{nat_cmp-IsAntisymmetric}
use Rattle.std.specs.declared.cmp.Ordering.{Ordering}
use Rattle.std.specs.declared.cmp.Ordering.TheVariants.{Less, Equal, Greater}
use Rattle.std.specs.Ordering.{nat_cmp, is_eq}
use Rattle.std.specs.BTreeMap.{is_at}
use Rattle.plain_tree.specs.Tree.{Node, Tree, node_at, changed_by, change_node}
use Rattle.s3_rows.specs.declared.change.Change.TheVariants as changes
use Rattle.s3_rows.specs.Rows.{Inode}
use Rattle.s3_rows.specs.Keyed.{rises, put, row_at}
use Rattle.s3_rows.specs.Tables.{Tables, by_inode}
use Rattle.s3_rows.specs.Batches.{after_change}
use Rattle.s3_rows.specs.Selections.{inode_at}
use Rattle.row_lemmas.proofs.Keyed.Rises.{rises_head, rises_tail, list_all-is_past_trans}
use Rattle.row_lemmas.proofs.Keyed.RowAt.{row_at_none_found}
use Rattle.tree_rows.specs.Shapes.{NodeShape, TreeShape, shape_of_node, shape_of_tree, shape_of_tables, node_of_row, Represents}
use Rattle.tree_rows.proofs.Shaped.{found_alike}

-- a node with its number, in shape, and the shape of a row
abbrev shaped : ℕ × Node → ℕ × NodeShape
shaped e = (e.0, shape_of_node e.1)

abbrev row_shape : Tables → Inode → ℕ × NodeShape
row_shape t r = (r.id, node_of_row t r)

-- a new value for a key, before and after what is made of the values
pub shaped-set : (test : ℕ → Bool) (es : List (ℕ × Node)) (w : Node) → map shaped (set_value test es w) ≡ set_value test (map shaped es) (shape_of_node w)
shaped-set test [] w = refl
shaped-set test (e ∷ es) w = by_case (shaped-set test es w) (test e.0)
  where
    by_case : map shaped (set_value test es w) ≡ set_value test (map shaped es) (shape_of_node w) → (b : Bool)
        → map shaped (cond b ((e.0, w) ∷ es) (e ∷ set_value test es w)) ≡ cond b ((e.0, shape_of_node w) ∷ map shaped es) (shaped e ∷ set_value test (map shaped es) (shape_of_node w))
    by_case others true = refl
    by_case others false = ap (λ xs. shaped e ∷ xs) others

-- a put of a row that was there sets the value of its key
put-set : (t : Tables) (new old : Inode) (rows : List Inode) → IsTrue (rises by_inode rows) → row_at by_inode new.id rows ≡ Some old
    → map (row_shape t) (put by_inode new rows) ≡ set_value (is_at (nat_cmp new.id)) (map (row_shape t) rows) (node_of_row t new)
put-set t new old [] rise there = absurd (cc there)
put-set t new old (x ∷ xs) rise there = by_case (put-set t new old xs (rises_tail by_inode x xs rise)) (nat_cmp new.id x.id) refl there
  where
    by_case : (row_at by_inode new.id xs ≡ Some old → map (row_shape t) (put by_inode new xs) ≡ set_value (is_at (nat_cmp new.id)) (map (row_shape t) xs) (node_of_row t new))
        → (c : Ordering) → nat_cmp new.id x.id ≡ c → cond (is_eq c) (Some x) (row_at by_inode new.id xs) ≡ Some old
        → map (row_shape t) (elim c [ Less ↦ new ∷ x ∷ xs | Equal ↦ new ∷ xs | Greater ↦ x ∷ put by_inode new xs ])
        ≡ cond (is_eq c) ((x.id, node_of_row t new) ∷ map (row_shape t) xs) (row_shape t x ∷ set_value (is_at (nat_cmp new.id)) (map (row_shape t) xs) (node_of_row t new))
    by_case others Less is found =
        row_at_none_found by_inode new.id xs old (list_all-is_past_trans by_inode nat_cmp_total new.id x.id xs is (rises_head by_inode x xs rise)) found
    by_case others Equal is found = ap (λ id. (id, node_of_row t new) ∷ map (row_shape t) xs) (nat_cmp-IsAntisymmetric new.id x.id is)
    by_case others Greater is found = ap (λ es. row_shape t x ∷ es) (others found)

-- the node that has a row's shape
pub node_of : (found : Option Node) (s : NodeShape) → option_map shape_of_node found ≡ Some s → (node : Node) × (found ≡ Some node) × (shape_of_node node ≡ s)
node_of None s is = absurd (cc is)
node_of (Some node) s is =
    let same : shape_of_node node ≡ s = cc is in
    (node, refl, same)

-- where a change of a node gives the shape of a new row, the tables with that row represent the changed tree
pub replaced_represents : (t : Tables) (whole : Tree) (r new : Inode) (f : Node → Node) → IsTrue (rises by_inode t.inodes) → Represents t whole → inode_at t new.id ≡ Some r
    → ((node : Node) → shape_of_node node ≡ node_of_row t r → shape_of_node (f node) ≡ node_of_row t new) → Represents (after_change (changes.PutInode new) t) (change_node new.id f whole)
replaced_represents t whole r new f rise same there alike =
    let found = node_of (node_at whole new.id) (node_of_row t r) (found_alike t whole same new.id ∙ ap (option_map (node_of_row t)) there) in
    let node : Node = found.0 in
    let test : ℕ → Bool = is_at (nat_cmp new.id) in
    let nodes : map (row_shape t) (put by_inode new t.inodes) ≡ map shaped (set_value test whole.nodes (f node)) =
    put-set t new r t.inodes rise there
    ∙ ap (λ (s : TreeShape). set_value test s.nodes (node_of_row t new)) same
    ∙ ap (set_value test (map shaped whole.nodes)) (sym (alike node found.2))
    ∙ sym (shaped-set test whole.nodes (f node)) in
    let changed : Tree = record whole { nodes = set_value test whole.nodes (f node) } in
    let shape : shape_of_tables (after_change (changes.PutInode new) t) ≡ shape_of_tree changed =
    ap (λ (es : List (ℕ × NodeShape)). record (shape_of_tables t) { nodes = es }) nodes
    ∙ ap (λ (s : TreeShape). record s { nodes = map shaped (set_value test whole.nodes (f node)) }) same in
    shape ∙ ap (λ (x : Option Node). shape_of_tree (changed_by f x new.id whole)) (sym found.1)
