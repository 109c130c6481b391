-- A name counts the entries and attributes that have it.
use Rattle.std.proofs.Common.{◌≡◌, ℕ, ◌+◌, List, [], ◌∷◌, Bool, true, false, cond, Option, None, Some, refl, sym, ap, ◌∙◌, eqb-true, eq-eqb, zero-add}
use Rattle.std.specs.Prelude.{IsTrue, not, ◌==◌, ◌&&◌, is_some, count_by, sum_by, filter, map, nat_le, option_and_then, option_map, unwrap_or}
use Rattle.std.specs.List.{list_all, AllByRecursion, filter_map}
use Rattle.std.specs.BTreeMap.{is_at}
use Rattle.std.specs.Cmp.{IsTotalOrder, nat_cmp_total, tied_itself}
use Rattle.std.specs.FinMap.{nat_cmp-IsAntisymmetric, slice_cmp-IsAntisymmetric}
use Rattle.std.specs.Ordering.{nat_cmp, is_eq, ordering_then}
use Rattle.std.specs.declared.cmp.Ordering.{Ordering}
use Rattle.std.specs.declared.cmp.Ordering.TheVariants.{Less, Equal, Greater}
use Rattle.std.proofs.lemmas.Bool.{and_parts}
use Rattle.std.proofs.lemmas.Cmp.{nat_list_cmp_total}
use Rattle.std.proofs.lemmas.List.Sums.{sum_by-cons}
use Rattle.s3_base.specs.declared.node_kind.Kind.{Kind}
use Rattle.s3_base.specs.declared.node_kind.Kind.TheVariants as kinds
use Rattle.plain_tree.specs.Tree as tree
use Rattle.plain_tree.specs.Tree.{Node, Tree}
use Rattle.s3_rows.specs.declared.lists.NamedAttr.{NamedAttr}
use Rattle.s3_rows.specs.declared.lists.NamedEntry.{NamedEntry}
use Rattle.s3_rows.specs.Rows.{Attr, Content, Inode, Name}
use Rattle.s3_rows.specs.Keyed.{Order, has_key, pair_cmp, rises, row_at, sorted_by}
use Rattle.s3_rows.specs.Tables.{Tables, by_attr, by_inode, by_name}
use Rattle.s3_rows.specs.Counts.{listed_name_count}
use Rattle.s3_rows.specs.Selections.{attr_at, bytes_cmp, bytes_of_name, by_attr_name, by_entry_name, inode_at, name_at, named_attrs, named_entries, with_attr_name}
use Rattle.s3_rows.specs.Validity.{IsValid, HasUniqueNames, any_kind, counts_name, finds_of_attr, finds_of_entry, has_inode, is_directory}
use Rattle.row_lemmas.proofs.Sums.{count_by_none, sum_by-map, sum_by_agree, sum_by_comm}
use Rattle.row_lemmas.proofs.Tables.{pair_cmp_total}
use Rattle.row_lemmas.proofs.Tests.{is_eq-nat_cmp, is_some-option_map, list_all_from_find, list_all_weaker}
use Rattle.row_lemmas.proofs.Keyed.Count.{count_by-has_key_there}
use Rattle.row_lemmas.proofs.Keyed.RowAt.{row_at_own, row_at_passes}
use Rattle.row_lemmas.proofs.Keyed.Sorted.{count_by-sorted_by, rises-sorted_by}
use Rattle.tree_rows.specs.NamedAttrs.{attr_of_name}
use Rattle.tree_rows.specs.Shapes as shapes
use Rattle.tree_rows.specs.Shapes.{ContentShape, NodeShape, Represents, attributes_in, node_of_row, shape_of_content, shape_of_node}
use Rattle.tree_rows.proofs.Listed.{named, is_in, filter_map-with_entry_name, differ-named, name_there}
use Rattle.tree_rows.proofs.NamedAttrs.{attribute_in, name_of_bytes-named, one_id}
use Rattle.tree_rows.proofs.Shaped.{lookup_made}
use Rattle.tree_rows.proofs.Whole.{content_of_kind}
use Rattle.inode_ops.specs.Uses.{entries_named, name_uses}
use Rattle.inode_ops.proofs.Sums.{no_parent, over_nodes, over_rows}

-- ---- words

and_true : (b : Bool) → (b && true) ≡ b
and_true true = refl
and_true false = refl

and_false : (b : Bool) → (b && false) ≡ false
and_false true = refl
and_false false = refl

-- as many as have the key: one or none
count_of_key : {K R : Type 0} (o : Order K R) → IsTotalOrder o.compare → (k : K) (rows : List R) → IsTrue (rises o rows) → count_by (has_key o k) rows ≡ cond (is_some (row_at o k rows)) 1 0
count_of_key {K} {R} o total k rows up = by_row (row_at o k rows) refl
  where
    by_row : (found : Option R) → row_at o k rows ≡ found → count_by (has_key o k) rows ≡ cond (is_some found) 1 0
    by_row None none = count_by_none (has_key o k) rows (list_all_from_find (has_key o k) rows none)
    by_row (Some r) there = count_by-has_key_there o total k rows up (ap is_some there)

-- a key of two parts
has_pair : (x y a b : ℕ) → is_eq (pair_cmp (x, y) (a, b)) ≡ ((a == x) && (b == y))
has_pair x y a b = by_first (nat_cmp x a) refl
  where
    turned : (m n : ℕ) → is_eq (nat_cmp m n) ≡ (n == m)
    turned m n = is_eq-nat_cmp m n ∙ by_tests (m == n) (n == m) refl refl
      where
        by_tests : (c d : Bool) → (m == n) ≡ c → (n == m) ≡ d → c ≡ d
        by_tests true true one two = refl
        by_tests false false one two = refl
        by_tests true false one two =
            let clash : true ≡ false = sym (eq-eqb n m (sym (eqb-true m n one))) ∙ two in
            absurd (cc clash)
        by_tests false true one two =
            let clash : true ≡ false = sym (eq-eqb m n (sym (eqb-true n m two))) ∙ one in
            absurd (cc clash)

    by_first : (c : Ordering) → nat_cmp x a ≡ c → is_eq (ordering_then c (nat_cmp y b)) ≡ ((a == x) && (b == y))
    by_first Less is = ap (λ t. t && (b == y)) (sym (ap is_eq is) ∙ turned x a)
    by_first Greater is = ap (λ t. t && (b == y)) (sym (ap is_eq is) ∙ turned x a)
    by_first Equal is = turned y b ∙ ap (λ t. t && (b == y)) (sym (ap is_eq is) ∙ turned x a)

-- ---- rows of inodes

-- rows of a name, by the inodes that have them, are all rows of the name where each is of an inode that is there
module _ {R : Type 0} (owner name : R → ℕ) (k : ℕ) (inodes : List Inode) (rise : IsTrue (rises by_inode inodes)) where
  abbrev has_owner : R → Bool
  has_owner x = is_some (row_at by_inode (owner x) inodes)

  once : (x : R) → IsTrue (has_owner x) → sum_by (λ (r : Inode). cond (owner x == r.id && (name x == k)) 1 0) inodes ≡ cond (name x == k) 1 0
  once x there = by_name_test (name x == k)
    where
      own : sum_by (λ (r : Inode). cond (owner x == r.id) 1 0) inodes ≡ 1
      own =
          let below : Inode → Bool = λ r. owner x == r.id in
          let has : Inode → Bool = λ r. is_eq (nat_cmp (owner x) r.id) in
          let alike : below ≡ has = λ i r. sym (is_eq-nat_cmp (owner x) r.id) i in
          ap (λ (p : Inode → Bool). count_by p inodes) alike ∙ count_by-has_key_there by_inode nat_cmp_total (owner x) inodes rise there

      by_name_test : (b : Bool) → sum_by (λ (r : Inode). cond (owner x == r.id && b) 1 0) inodes ≡ cond b 1 0
      by_name_test true =
          let with_test : Inode → ℕ = λ r. cond (owner x == r.id && true) 1 0 in
          let plain : Inode → ℕ = λ r. cond (owner x == r.id) 1 0 in
          let alike : with_test ≡ plain = λ i r. cond (and_true (owner x == r.id) i) 1 0 in
          ap (λ (h : Inode → ℕ). sum_by h inodes) alike ∙ own
      by_name_test false =
          let never : Inode → Bool = λ r. owner x == r.id && false in
          count_by_none never inodes (none inodes)
        where
          none : (rs : List Inode) → IsTrue (list_all (λ (r : Inode). not (owner x == r.id && false)) rs)
          none [] = refl
          none (r ∷ rs) = ap (λ b. not b && list_all (λ (y : Inode). not (owner x == y.id && false)) rs) (and_false (owner x == r.id)) ∙ none rs

  each_once : (xs : List R) → IsTrue (list_all has_owner xs) → AllByRecursion (λ x. sum_by (λ (r : Inode). cond (owner x == r.id && (name x == k)) 1 0) inodes ≡ cond (name x == k) 1 0) xs
  each_once [] all = tt
  each_once (x ∷ xs) all = (once x (and_parts (has_owner x) (list_all has_owner xs) all).0, each_once xs (and_parts (has_owner x) (list_all has_owner xs) all).1)

  over_owners : (xs : List R) → IsTrue (list_all has_owner xs) → sum_by (λ (r : Inode). count_by (λ x. owner x == r.id && (name x == k)) xs) inodes ≡ count_by (λ x. name x == k) xs
  over_owners xs all =
      let one : Inode → R → ℕ = λ r x. cond (owner x == r.id && (name x == k)) 1 0 in
      let in_all : R → ℕ = λ x. sum_by (λ (r : Inode). cond (owner x == r.id && (name x == k)) 1 0) inodes in
      let own : R → ℕ = λ x. cond (name x == k) 1 0 in
      sum_by_comm one inodes xs ∙ sum_by_agree in_all own xs (each_once xs all)

-- ---- shapes

abbrev entries_of_shape : List ℕ → ContentShape → ℕ
entries_of_shape name (shapes.Directory entries) = count_by (λ e. is_eq (bytes_cmp name e.0)) entries
entries_of_shape name (shapes.Regular size) = 0
entries_of_shape name (shapes.Link target) = 0

entries_alike : (name : List ℕ) (content : tree.Content) → entries_named name content ≡ entries_of_shape name (shape_of_content content)
entries_alike name (tree.Regular bytes) = refl
entries_alike name (tree.Directory entries) = refl
entries_alike name (tree.Link target) = refl

abbrev attrs_of_shape : List ℕ → NodeShape → ℕ
attrs_of_shape name s = count_by (λ a. is_eq (bytes_cmp name a.0)) s.attributes

has_row : (found : Option Inode) (kind : Kind → Bool) → IsTrue (elim found [ Some r ↦ kind r.kind | None ↦ false ]) → IsTrue (is_some found)
has_row None kind is = absurd (cc is)
has_row (Some r) kind is = refl

module _ (t : Tables) (v : IsValid t) (unique : HasUniqueNames t) (n : Name) (there : name_at t n.id ≡ Some n) where
  -- a name that is there has these bytes exactly where it is this one
  text_test : (k : ℕ) → IsTrue (is_some (name_at t k)) → is_eq (bytes_cmp n.name (bytes_of_name t k)) ≡ (k == n.id)
  text_test k has = by_row (name_at t k) refl has
    where
      of_name : (m : Name) → name_at t k ≡ Some m → is_eq (bytes_cmp n.name m.name) ≡ (k == n.id)
      of_name m is = by_tests (is_eq (bytes_cmp n.name m.name)) (k == n.id) refl refl
        where
          equal_from : (c : Ordering) → IsTrue (is_eq c) → c ≡ Equal
          equal_from Less passes = absurd (cc passes)
          equal_from Equal passes = refl
          equal_from Greater passes = absurd (cc passes)

          by_tests : (c d : Bool) → is_eq (bytes_cmp n.name m.name) ≡ c → (k == n.id) ≡ d → c ≡ d
          by_tests true true one two = refl
          by_tests false false one two = refl
          by_tests true false one two =
              let text : n.name ≡ m.name = slice_cmp-IsAntisymmetric nat_cmp-IsAntisymmetric n.name m.name (equal_from (bytes_cmp n.name m.name) one) in
              let clash : true ≡ false = sym (eq-eqb k n.id (one_id t unique k n.id m n is there (sym text))) ∙ two in
              absurd (cc clash)
          by_tests false true one two =
              let rows : Some m ≡ Some n = sym is ∙ ap (name_at t) (eqb-true k n.id two) ∙ there in
              let row : m ≡ n = cc rows in
              let clash : true ≡ false = sym (ap is_eq (tied_itself nat_list_cmp_total n.name)) ∙ ap (λ (x : Name). is_eq (bytes_cmp n.name x.name)) (sym row) ∙ one in
              absurd (cc clash)

      by_row : (found : Option Name) → name_at t k ≡ found → IsTrue (is_some found) → is_eq (bytes_cmp n.name (unwrap_or (option_map (λ (r : Name). r.name) found) [])) ≡ (k == n.id)
      by_row None is some = absurd (cc some)
      by_row (Some m) is some = of_name m is

  -- ---- entries

  -- an entry of the directory with the name
  abbrev is_of : ℕ → Content → Bool
  is_of parent c = c.parent == parent && (c.name_id == n.id)

  listed : (parent : ℕ) (cs : List Content) → IsTrue (list_all (finds_of_entry t) cs)
      → count_by (λ (e : NamedEntry). is_eq (bytes_cmp n.name e.name)) (map (named t) (filter (is_in parent) cs)) ≡ count_by (is_of parent) cs
  listed parent [] finds = refl
  listed parent (c ∷ cs) finds =
      by_case (listed parent cs (and_parts (finds_of_entry t c) (list_all (finds_of_entry t) cs) finds).1)
      (text_test c.name_id (name_there t c (and_parts (finds_of_entry t c) (list_all (finds_of_entry t) cs) finds).0)) (is_in parent c) refl
    where
      of_entry : NamedEntry → ℕ
      of_entry e = cond (is_eq (bytes_cmp n.name e.name)) 1 0

      of_row : Content → ℕ
      of_row x = cond (is_of parent x) 1 0

      by_case : count_by (λ (e : NamedEntry). is_eq (bytes_cmp n.name e.name)) (map (named t) (filter (is_in parent) cs)) ≡ count_by (is_of parent) cs
          → is_eq (bytes_cmp n.name (bytes_of_name t c.name_id)) ≡ (c.name_id == n.id) → (b : Bool) → is_in parent c ≡ b
          → count_by (λ (e : NamedEntry). is_eq (bytes_cmp n.name e.name)) (map (named t) (cond b (c ∷ filter (is_in parent) cs) (filter (is_in parent) cs))) ≡ count_by (is_of parent) (c ∷ cs)
      by_case others text true is =
          sum_by-cons of_entry (named t c) (map (named t) (filter (is_in parent) cs)) ∙ ap (λ m. cond (is_eq (bytes_cmp n.name (bytes_of_name t c.name_id))) 1 0 + m) others
          ∙ ap (λ b. cond b 1 0 + count_by (is_of parent) cs) text
          ∙ ap (λ b. cond (b && (c.name_id == n.id)) 1 0 + count_by (is_of parent) cs) (sym is) ∙ sym (sum_by-cons of_row c cs)
      by_case others text false is =
          others ∙ sym (zero-add (count_by (is_of parent) cs)) ∙ ap (λ b. cond (b && (c.name_id == n.id)) 1 0 + count_by (is_of parent) cs) (sym is) ∙ sym (sum_by-cons of_row c cs)

  in_directory : (parent : ℕ) → count_by (λ (e : List ℕ × ℕ). is_eq (bytes_cmp n.name e.0)) (shapes.entries_in t parent) ≡ count_by (is_of parent) t.contents
  in_directory parent =
      let pair_of : NamedEntry → List ℕ × ℕ = λ e. (e.name, e.row.inode) in
      let one : List ℕ × ℕ → ℕ = λ e. cond (is_eq (bytes_cmp n.name e.0)) 1 0 in
      let has : NamedEntry → Bool = λ e. is_eq (bytes_cmp n.name e.name) in
      let found : List NamedEntry = map (named t) (filter (is_in parent) t.contents) in
      sum_by-map one pair_of (named_entries t parent) ∙ ap (λ es. count_by has (sorted_by by_entry_name es)) (filter_map-with_entry_name t parent t.contents v.rows.entries)
      ∙ count_by-sorted_by by_entry_name nat_list_cmp_total has found (differ-named t parent t.contents v.tree.unlike) ∙ listed parent t.contents v.rows.entries

  of_entries_row : (r : Inode) → inode_at t r.id ≡ Some r → entries_of_shape n.name (node_of_row t r).content ≡ count_by (is_of r.id) t.contents
  of_entries_row r here = by_kind r.kind refl
    where
      not_first : (a b : Bool) → IsTrue (not a) → IsTrue (not (a && b))
      not_first true b is = absurd (cc is)
      not_first false b is = refl

      none : IsTrue (not (is_directory r.kind)) → 0 ≡ count_by (is_of r.id) t.contents
      none other =
          sym (count_by_none (is_of r.id) t.contents (list_all_weaker (finds_of_entry t) (λ c. not (is_of r.id c))
          (λ c found. not_first (c.parent == r.id) (c.name_id == n.id) (no_parent t v.rows.entries v.tree.unlike v.ordered.inodes r here other c found)) t.contents v.rows.entries))

      by_kind : (kind : Kind) → r.kind ≡ kind → entries_of_shape n.name (content_of_kind t r kind) ≡ count_by (is_of r.id) t.contents
      by_kind kinds.Directory is = in_directory r.id
      by_kind kinds.Regular is = none (ap (λ k. not (is_directory k)) is)
      by_kind kinds.Link is = none (ap (λ k. not (is_directory k)) is)

  -- ---- attributes

  in_node : (id : ℕ) → count_by (λ (a : List ℕ × List ℕ). is_eq (bytes_cmp n.name a.0)) (attributes_in t id) ≡ count_by (λ (a : Attr). a.inode == id && (a.name_id == n.id)) t.attrs
  in_node id =
      sum_by-map one pair_of (named_attrs t id)
      ∙ count_of_key by_attr_name nat_list_cmp_total n.name (named_attrs t id) up
      ∙ ap (λ b. cond b 1 0) same_there
      ∙ sym (count_of_key by_attr pair_cmp_total (id, n.id) t.attrs v.ordered.attrs)
      ∙ ap (λ (p : Attr → Bool). count_by p t.attrs) alike
    where
      pair_of : NamedAttr → List ℕ × List ℕ
      pair_of e = (e.name, e.row.value)

      one : List ℕ × List ℕ → ℕ
      one a = cond (is_eq (bytes_cmp n.name a.0)) 1 0

      up : IsTrue (rises by_attr_name (named_attrs t id))
      up = rises-sorted_by by_attr_name nat_list_cmp_total (filter_map (with_attr_name t) (filter (λ (r : Attr). r.inode == id) t.attrs))

      alike : has_key by_attr (id, n.id) ≡ (λ (a : Attr). a.inode == id && (a.name_id == n.id))
      alike i a = has_pair id n.id a.inode a.name_id i

      -- the attribute is listed where it has a row
      same_there : is_some (row_at by_attr_name n.name (named_attrs t id)) ≡ is_some (attr_at t id n.id)
      same_there =
          let text : NamedAttr → List ℕ = λ e. e.name in
          let value : NamedAttr → List ℕ = λ e. e.row.value in
          sym (is_some-option_map value (row_at by_attr_name n.name (named_attrs t id)))
          ∙ ap is_some (sym (lookup_made text value (is_at (bytes_cmp n.name)) (named_attrs t id)) ∙ attribute_in t unique v.ordered.names v.ordered.attrs v.rows.attrs id n.name)
          ∙ is_some-option_map (λ (a : Attr). a.value) (attr_of_name t id n.name)
          ∙ ap (λ (found : Option Name). is_some (option_and_then (λ (m : Name). attr_at t id m.id) found)) (name_of_bytes-named t unique v.ordered.names n.id n there)

  -- ---- both

  each_entries : (rows : List Inode) → AllByRecursion (λ r. inode_at t r.id ≡ Some r) rows → AllByRecursion (λ r. entries_of_shape n.name (node_of_row t r).content ≡ count_by (is_of r.id) t.contents) rows
  each_entries [] own = tt
  each_entries (r ∷ rs) own = (of_entries_row r own.0, each_entries rs own.1)

  each_attrs : (rows : List Inode) → AllByRecursion (λ r. attrs_of_shape n.name (node_of_row t r) ≡ count_by (λ (a : Attr). a.inode == r.id && (a.name_id == n.id)) t.attrs) rows
  each_attrs [] = tt
  each_attrs (r ∷ rs) = (in_node r.id, each_attrs rs)

  of_entry : (c : Content) → IsTrue (finds_of_entry t c) → IsTrue (is_some (inode_at t c.parent))
  of_entry c found =
      has_row (inode_at t c.parent) is_directory (and_parts (has_inode is_directory t c.parent) _ (and_parts _ (has_inode any_kind t c.inode) found).0).0

  of_attr : (a : Attr) → IsTrue (finds_of_attr t a) → IsTrue (is_some (inode_at t a.inode))
  of_attr a found = has_row (inode_at t a.inode) any_kind (and_parts (has_inode any_kind t a.inode) (is_some (name_at t a.name_id)) found).0

  entries_counted : (whole : Tree) → Represents t whole → sum_by (λ (e : ℕ × Node). entries_named n.name e.1.content) whole.nodes ≡ count_by (λ (c : Content). c.name_id == n.id) t.contents
  entries_counted whole same =
      let by_shape : Inode → ℕ = λ r. entries_of_shape n.name (node_of_row t r).content in
      let by_rows : Inode → ℕ = λ r. count_by (is_of r.id) t.contents in
      over_rows t whole same (entries_named n.name) (entries_of_shape n.name) (entries_alike n.name)
      ∙ sum_by_agree by_shape by_rows t.inodes (each_entries t.inodes (row_at_own by_inode nat_cmp_total t.inodes v.ordered.inodes))
      ∙ over_owners (λ (c : Content). c.parent) (λ (c : Content). c.name_id) n.id t.inodes v.ordered.inodes t.contents
      (list_all_weaker (finds_of_entry t) (λ c. is_some (inode_at t c.parent)) of_entry t.contents v.rows.entries)

  attrs_counted : (whole : Tree) → Represents t whole
      → sum_by (λ (e : ℕ × Node). count_by (λ (a : List ℕ × List ℕ). is_eq (bytes_cmp n.name a.0)) e.1.attributes) whole.nodes ≡ count_by (λ (a : Attr). a.name_id == n.id) t.attrs
  attrs_counted whole same =
      let of_node : Node → ℕ = λ node. count_by (λ a. is_eq (bytes_cmp n.name a.0)) node.attributes in
      let by_shape : Inode → ℕ = λ r. attrs_of_shape n.name (node_of_row t r) in
      let by_rows : Inode → ℕ = λ r. count_by (λ (a : Attr). a.inode == r.id && (a.name_id == n.id)) t.attrs in
      over_nodes t whole same of_node (attrs_of_shape n.name) (λ node. refl)
      ∙ sum_by_agree by_shape by_rows t.inodes (each_attrs t.inodes)
      ∙ over_owners (λ (a : Attr). a.inode) (λ (a : Attr). a.name_id) n.id t.inodes v.ordered.inodes t.attrs
      (list_all_weaker (finds_of_attr t) (λ a. is_some (inode_at t a.inode)) of_attr t.attrs v.rows.attrs)

pub uses_counted : (t : Tables) (whole : Tree) (n : Name) → IsValid t → HasUniqueNames t → Represents t whole → name_at t n.id ≡ Some n → n.refcount ≡ name_uses whole n.name
uses_counted t whole n v unique same there =
    let count : n.refcount ≡ listed_name_count t n.id =
    eqb-true n.refcount (listed_name_count t n.id)
    (and_parts (n.refcount == listed_name_count t n.id) (nat_le 1 n.refcount) (row_at_passes by_name (counts_name t) n.id t.names n v.counts.names there)).0 in
    count ∙ (λ i. sym (entries_counted t v unique n there whole same) i + sym (attrs_counted t v unique n there whole same) i)
