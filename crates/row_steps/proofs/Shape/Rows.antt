-- One row more of the table of inodes, and one changed row, where other tables may change too.
use Rattle.std.proofs.Common.{◌≡◌, ℕ, ◌+◌, List, [], ◌∷◌, map, Bool, false, cond, Option, Some, refl, sym, ap, ◌∙◌}
use Rattle.std.specs.Prelude.{IsTrue, option_map, unwrap_or}
use Rattle.std.specs.List.{list_all}
use Rattle.std.specs.Map.{set_value}
use Rattle.std.specs.Cmp.{nat_cmp_total}
use Rattle.std.specs.FinMap.{nat_cmp-IsAntisymmetric}
use Rattle.std.specs.declared.cmp.Ordering.{Ordering}
use Rattle.std.specs.declared.cmp.Ordering.TheVariants.{Less, Equal, Greater}
use Rattle.std.specs.Ordering.{nat_cmp, is_eq, is_lt}
use Rattle.std.specs.BTreeMap.{insert_entry, is_at}
use Rattle.std.proofs.lemmas.Bool.{and_parts}
use Rattle.plain_tree.specs.Tree.{Node, Tree, node_at, changed_by, change_node, with_node}
use Rattle.s3_rows.specs.Rows.{Inode, Parameters}
use Rattle.s3_rows.specs.Keyed.{is_past, rises, put, row_at}
use Rattle.s3_rows.specs.Tables.{Tables, by_inode}
use Rattle.s3_rows.specs.Selections.{inode_at}
use Rattle.row_lemmas.proofs.Tests.{list_all_weaker}
use Rattle.row_lemmas.proofs.Keyed.Rises.{is_past_trans, is_past_same}
use Rattle.row_lemmas.proofs.Keyed.RowAt.{row_at_none_found}
use Rattle.row_lemmas.proofs.Keyed.Put.{map-put_entry, map-insert_entry}
use Rattle.tree_rows.specs.Shapes.{NodeShape, TreeShape, shape_of_node, shape_of_tree, shape_of_tables, node_of_row, Represents}
use Rattle.tree_rows.proofs.Shaped.{found_alike}
use Rattle.tree_rows.proofs.Replaced.{node_of, shaped-set}

-- a node with its number, in shape, and the shape of a row
abbrev pub shaped : ℕ × Node → ℕ × NodeShape
shaped e = (e.0, shape_of_node e.1)

abbrev pub row_shape : Tables → Inode → ℕ × NodeShape
row_shape t r = (r.id, node_of_row t r)

-- ---- one row more

-- the parameters with the next number
abbrev pub drawn_from : Parameters → Parameters → Type 0
drawn_from p q = (q.block_size ≡ p.block_size) × (q.next_inode ≡ p.next_inode + 1)

-- tables with one more row represent the tree with its node, under the next number
pub added_represents : (t : Tables) (whole : Tree) (p q : Parameters) (new : Inode) (node : Node) → Represents t whole → t.params ≡ Some p → drawn_from p q → new.id ≡ p.next_inode
    → shape_of_node node ≡ node_of_row t new → Represents (record t { params = Some q; inodes = put by_inode new t.inodes }) (with_node node whole)
added_represents t whole p q new node same made draws number shape =
    let next : p.next_inode ≡ whole.next_inode = sym (ap (λ (x : Option Parameters). unwrap_or (option_map (λ y. y.next_inode) x) 0) made) ∙ ap (λ (s : TreeShape). s.next_inode) same in
    let size : p.block_size ≡ whole.block_size = sym (ap (λ (x : Option Parameters). unwrap_or (option_map (λ y. y.block_size) x) 0) made) ∙ ap (λ (s : TreeShape). s.block_size) same in
    let nodes : map (row_shape t) (put by_inode new t.inodes) ≡ map shaped (insert_entry nat_cmp whole.nodes whole.next_inode node) =
    map-put_entry by_inode nat_cmp-IsAntisymmetric (node_of_row t) new t.inodes
    ∙ ap (λ (s : TreeShape). insert_entry nat_cmp s.nodes new.id (node_of_row t new)) same
    ∙ (λ i. insert_entry nat_cmp (map shaped whole.nodes) ((number ∙ next) i) ((sym shape) i))
    ∙ sym (map-insert_entry nat_cmp shape_of_node whole.nodes whole.next_inode node) in
    λ i. record { block_size = (draws.0 ∙ size) i; next_inode = (draws.1 ∙ ap (λ n. n + 1) next) i; nodes = nodes i }

-- ---- one row changed

module _ (t u : Tables) (new : Inode) (same : (x : Inode) → is_eq (nat_cmp new.id x.id) ≡ false → node_of_row u x ≡ node_of_row t x) where
  same_all : (rows : List Inode) → IsTrue (list_all (is_past by_inode new.id) rows) → map (row_shape u) rows ≡ map (row_shape t) rows
  same_all [] past = refl
  same_all (x ∷ xs) past = λ i. (x.id, same x (apart (nat_cmp new.id x.id) (and_parts (is_past by_inode new.id x) (list_all (is_past by_inode new.id) xs) past).0) i) ∷ same_all xs (and_parts (is_past by_inode new.id x) (list_all (is_past by_inode new.id) xs) past).1 i
    where
      apart : (c : Ordering) → IsTrue (is_lt c) → is_eq c ≡ false
      apart Less is = refl
      apart Equal is = absurd (cc is)
      apart Greater is = absurd (cc is)

  -- a put of a row that was there sets the value of its key
  put-set : (old : Inode) (rows : List Inode) → IsTrue (rises by_inode rows) → row_at by_inode new.id rows ≡ Some old
      → map (row_shape u) (put by_inode new rows) ≡ set_value (is_at (nat_cmp new.id)) (map (row_shape t) rows) (node_of_row u new)
  put-set old [] rise there = absurd (cc there)
  put-set old (x ∷ xs) rise there = by_case (put-set old xs (and_parts (list_all (is_past by_inode x.id) xs) (rises by_inode xs) rise).1) (nat_cmp new.id x.id) refl there
    where
      later : IsTrue (list_all (is_past by_inode x.id) xs)
      later = (and_parts (list_all (is_past by_inode x.id) xs) (rises by_inode xs) rise).0

      by_case : (row_at by_inode new.id xs ≡ Some old → map (row_shape u) (put by_inode new xs) ≡ set_value (is_at (nat_cmp new.id)) (map (row_shape t) xs) (node_of_row u new))
          → (c : Ordering) → nat_cmp new.id x.id ≡ c → cond (is_eq c) (Some x) (row_at by_inode new.id xs) ≡ Some old
          → map (row_shape u) (elim c [ Less ↦ new ∷ x ∷ xs | Equal ↦ new ∷ xs | Greater ↦ x ∷ put by_inode new xs ])
          ≡ cond (is_eq c) ((x.id, node_of_row u new) ∷ map (row_shape t) xs) (row_shape t x ∷ set_value (is_at (nat_cmp new.id)) (map (row_shape t) xs) (node_of_row u new))
      by_case others Less is found =
          row_at_none_found by_inode new.id xs old (list_all_weaker (is_past by_inode x.id) (is_past by_inode new.id) (λ y. is_past_trans by_inode nat_cmp_total new.id x.id y is) xs later) found
      by_case others Equal is found =
          let rest : map (row_shape u) xs ≡ map (row_shape t) xs = same_all xs (list_all_weaker (is_past by_inode x.id) (is_past by_inode new.id) (λ y. is_past_same by_inode nat_cmp_total new.id x.id y is) xs later) in
          λ i. (nat_cmp-IsAntisymmetric new.id x.id is i, node_of_row u new) ∷ rest i
      by_case others Greater is found = λ i. (x.id, same x (ap is_eq is) i) ∷ others found i

-- Where a change of a node gives the shape of a new row, and other rows keep theirs, the tables with that row represent the
-- changed tree.
pub changed_represents : (t u : Tables) (whole : Tree) (r new : Inode) (f : Node → Node) → u.params ≡ t.params → u.inodes ≡ put by_inode new t.inodes → IsTrue (rises by_inode t.inodes)
    → Represents t whole → inode_at t new.id ≡ Some r → ((x : Inode) → is_eq (nat_cmp new.id x.id) ≡ false → node_of_row u x ≡ node_of_row t x)
    → ((node : Node) → shape_of_node node ≡ node_of_row t r → shape_of_node (f node) ≡ node_of_row u new) → Represents u (change_node new.id f whole)
changed_represents t u whole r new f params rows rise same there others alike =
    let found = node_of (node_at whole new.id) (node_of_row t r) (found_alike t whole same new.id ∙ ap (option_map (node_of_row t)) there) in
    let node : Node = found.0 in
    let test : ℕ → Bool = is_at (nat_cmp new.id) in
    let nodes : map (row_shape u) u.inodes ≡ map shaped (set_value test whole.nodes (f node)) =
    ap (map (row_shape u)) rows
    ∙ put-set t u new others r t.inodes rise there
    ∙ ap (λ (s : TreeShape). set_value test s.nodes (node_of_row u new)) same
    ∙ ap (set_value test (map shaped whole.nodes)) (sym (alike node found.2))
    ∙ sym (shaped-set test whole.nodes (f node)) in
    let changed : Tree = record whole { nodes = set_value test whole.nodes (f node) } in
    let shape : shape_of_tables u ≡ shape_of_tree changed =
    λ i. record {
      block_size = (ap (λ (x : Option Parameters). unwrap_or (option_map (λ p. p.block_size) x) 0) params ∙ ap (λ (s : TreeShape). s.block_size) same) i;
      next_inode = (ap (λ (x : Option Parameters). unwrap_or (option_map (λ p. p.next_inode) x) 0) params ∙ ap (λ (s : TreeShape). s.next_inode) same) i;
      nodes = nodes i;
    } in
    shape ∙ ap (λ (x : Option Node). shape_of_tree (changed_by f x new.id whole)) (sym found.1)
