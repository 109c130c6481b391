-- How often a tree with a copy uses a name.
use Rattle.std.proofs.Common.{◌≡◌, ℕ, ◌+◌, List, [], ◌∷◌, ◌++◌, length, Bool, true, false, cond, Option, None, Some, refl, sym, ap, ◌∙◌, arith}
use Rattle.std.specs.BTreeMap.{insert_entry, is_at}
use Rattle.std.specs.Cmp.Lexicographic.{slice_cmp}
use Rattle.std.specs.Map.{lookup, set_value}
use Rattle.std.specs.Ordering.{is_eq, match_ordering, nat_cmp}
use Rattle.std.specs.Prelude.{count_by, sum_by}
use Rattle.std.specs.declared.cmp.Ordering.{Ordering}
use Rattle.std.specs.declared.cmp.Ordering.TheVariants.{Less, Equal, Greater}
use Rattle.std.proofs.lemmas.List.Sums.{sum_by-append, sum_by-cons}
use Rattle.op_frames.specs.declared.operation.Op.TheVariants as ops
use Rattle.plain_tree.specs.Below.{at_and_below}
use Rattle.plain_tree.specs.Checks.{first_failure}
use Rattle.plain_tree.specs.Entries.{is_directory, is_folder}
use Rattle.plain_tree.specs.Operations.{checks}
use Rattle.plain_tree.specs.Subtrees.{copied_content, copied_node, copies, copy_number, with_copy}
use Rattle.plain_tree.specs.Tree.{Content, Regular, Directory, Link, Node, Tree, changed_by, entry_of, named, node_at, touched}
use Rattle.row_lemmas.proofs.Sums.{sum_by-map}
use Rattle.tree_laws.proofs.Node.Keys.{lookup-append_there}
use Rattle.tree_laws.proofs.Node.Kind.{entry_in, folder_is, free_is, is_a_folder, node_there}
use Rattle.tree_laws.proofs.Walk.Passed.{can_copy}
use Rattle.inode_ops.specs.Uses.{entries_named, name_uses}

-- ---- a sum over all nodes

module _ (t : Tree) (g : Node → ℕ) where
  abbrev of_node : ℕ × Node → ℕ
  of_node e = g e.1

  abbrev of_found : Option Node → ℕ
  of_found found = elim found [ Some node ↦ g node | None ↦ 0 ]

  -- a node that is found has more
  sum_by-set_value : (test : ℕ → Bool) (v w : Node) (k : ℕ) → g w ≡ g v + k → (es : List (ℕ × Node)) → lookup test es ≡ Some v
      → sum_by of_node (set_value test es w) ≡ sum_by of_node es + k
  sum_by-set_value test v w k more [] is = absurd (cc is)
  sum_by-set_value test v w k more (e ∷ es) is = by_test (sum_by-set_value test v w k more es) (test e.0) is
    where
      by_test : (lookup test es ≡ Some v → sum_by of_node (set_value test es w) ≡ sum_by of_node es + k) → (b : Bool) → cond b (Some e.1) (lookup test es) ≡ Some v
          → sum_by of_node (cond b ((e.0, w) ∷ es) (e ∷ set_value test es w)) ≡ sum_by of_node (e ∷ es) + k
      by_test rest true found =
          let one : e.1 ≡ v = cc found in
          let own : g e.1 ≡ g v = ap g one in
          omega (arith, sum_by-cons of_node (e.0, w) es, sum_by-cons of_node e es, own, more)
      by_test rest false found = omega (arith, sum_by-cons of_node e (set_value test es w), sum_by-cons of_node e es, rest found)

  module _ (now : ℕ) (copied : (order : List ℕ) (node : Node) → g (copied_node t.next_inode order now node) ≡ g node) where
    -- the copies have as much as what they are copies of
    sum_by-copies : (order inodes : List ℕ) → sum_by of_node (copies t order now inodes) ≡ sum_by (λ x. of_found (node_at t x)) inodes
    sum_by-copies order [] = refl
    sum_by-copies order (i ∷ is) = by_node (sum_by-copies order is) (node_at t i) refl
      where
        by_node : sum_by of_node (copies t order now is) ≡ sum_by (λ x. of_found (node_at t x)) is → (found : Option Node) → node_at t i ≡ found
            → sum_by of_node (elim found as (λ _. List (ℕ × Node)) [ Some node ↦ (copy_number t.next_inode order i, copied_node t.next_inode order now node) ∷ copies t order now is | None ↦ copies t order now is ])
            ≡ sum_by (λ x. of_found (node_at t x)) (i ∷ is)
        by_node rest (Some node) there =
            let own : of_found (node_at t i) ≡ g node = ap of_found there in
            omega (
              arith,
              sum_by-cons of_node (copy_number t.next_inode order i, copied_node t.next_inode order now node) (copies t order now is),
              sum_by-cons (λ (x : ℕ). of_found (node_at t x)) i is,
              own,
              copied order node,
              rest,
            )
        by_node rest None there =
            let own : of_found (node_at t i) ≡ 0 = ap of_found there in
            omega (arith, sum_by-cons (λ (x : ℕ). of_found (node_at t x)) i is, own, rest)

    -- and the directory that has the copy has so much more
    sum_by-with_copy : (source p : ℕ) (n : List ℕ) (k : ℕ) (node : Node) → node_at t p ≡ Some node
        → g (touched now (record node { content = named n t.next_inode node.content })) ≡ g node + k
        → sum_by of_node (with_copy source p n now t).nodes ≡ sum_by of_node t.nodes + sum_by (λ x. of_found (node_at t x)) (at_and_below t source) + k
    sum_by-with_copy source p n k node there more =
        let order : List ℕ = at_and_below t source in
        let all : Tree = record t { next_inode = t.next_inode + length order; nodes = t.nodes ++ copies t order now order } in
        let enter : Node → Node = λ y. touched now (record y { content = named n t.next_inode y.content }) in
        let at : node_at all p ≡ Some node = lookup-append_there (is_at (nat_cmp p)) t.nodes (copies t order now order) node there in
        let change : sum_by of_node (with_copy source p n now t).nodes ≡ sum_by of_node (changed_by enter (Some node) p all).nodes =
        ap (λ (found : Option Node). sum_by of_node (changed_by enter found p all).nodes) at in
        let entered : sum_by of_node (changed_by enter (Some node) p all).nodes ≡ sum_by of_node all.nodes + k =
        sum_by-set_value (is_at (nat_cmp p)) node (enter node) k more all.nodes at in
        let both : sum_by of_node all.nodes ≡ sum_by of_node t.nodes + sum_by of_node (copies t order now order) = sum_by-append of_node t.nodes (copies t order now order) in
        omega (arith, change, entered, both, sum_by-copies order order)

-- ---- the uses of a name

module _ (b : List ℕ) where
  abbrev one_entry : List ℕ × ℕ → ℕ
  one_entry e = cond (is_eq (slice_cmp nat_cmp b e.0)) 1 0

  -- whether it is this one
  abbrev pub is_own : List ℕ → ℕ
  is_own n = cond (is_eq (slice_cmp nat_cmp b n)) 1 0

  abbrev pub attributes_named : Node → ℕ
  attributes_named node = count_by (λ a. is_eq (slice_cmp nat_cmp b a.0)) node.attributes

  -- how many entries, and how many attributes, of an inode have the name
  abbrev pub entries_at : Tree → ℕ → ℕ
  entries_at t x = elim (node_at t x) [ Some node ↦ entries_named b node.content | None ↦ 0 ]

  abbrev pub attributes_at : Tree → ℕ → ℕ
  attributes_at t x = elim (node_at t x) [ Some node ↦ attributes_named node | None ↦ 0 ]

  count_by-insert_entry : (n : List ℕ) (inode : ℕ) (es : List (List ℕ × ℕ)) → lookup (is_at (slice_cmp nat_cmp n)) es ≡ None
      → sum_by one_entry (insert_entry (slice_cmp nat_cmp) es n inode) ≡ sum_by one_entry es + is_own n
  count_by-insert_entry n inode [] free = omega (arith, sum_by-cons one_entry (n, inode) [])
  count_by-insert_entry n inode (e ∷ es) free = by_order (count_by-insert_entry n inode es) (slice_cmp nat_cmp n e.0) free
    where
      by_order : (lookup (is_at (slice_cmp nat_cmp n)) es ≡ None → sum_by one_entry (insert_entry (slice_cmp nat_cmp) es n inode) ≡ sum_by one_entry es + is_own n)
          → (o : Ordering) → cond (is_eq o) (Some e.1) (lookup (is_at (slice_cmp nat_cmp n)) es) ≡ None
          → sum_by one_entry (match_ordering o ((n, inode) ∷ e ∷ es) ((e.0, inode) ∷ es) (e ∷ insert_entry (slice_cmp nat_cmp) es n inode)) ≡ sum_by one_entry (e ∷ es) + is_own n
      by_order rest Less none = omega (arith, sum_by-cons one_entry (n, inode) (e ∷ es))
      by_order rest Equal none = absurd (cc none)
      by_order rest Greater none = omega (arith, sum_by-cons one_entry e (insert_entry (slice_cmp nat_cmp) es n inode), sum_by-cons one_entry e es, rest none)

  entries_named-named : (n : List ℕ) (inode : ℕ) (content : Content) → is_directory content ≡ true → entry_of content n ≡ None
      → entries_named b (named n inode content) ≡ entries_named b content + is_own n
  entries_named-named n inode (Directory entries) folder free = count_by-insert_entry n inode entries free
  entries_named-named n inode (Regular bytes) folder free = absurd (cc folder)
  entries_named-named n inode (Link target) folder free = absurd (cc folder)

  entries_named-copied : (next : ℕ) (order : List ℕ) (content : Content) → entries_named b (copied_content next order content) ≡ entries_named b content
  entries_named-copied next order (Directory entries) =
      let with_number : List ℕ × ℕ → List ℕ × ℕ = λ e. (e.0, copy_number next order e.1) in
      sum_by-map one_entry with_number entries
  entries_named-copied next order (Regular bytes) = refl
  entries_named-copied next order (Link target) = refl

  pub name_uses-with_copy : (t : Tree) (pass source p : ℕ) (n : List ℕ) (now : ℕ) → first_failure (checks t pass (ops.CopyTree source p n)) ≡ None
      → name_uses (with_copy source p n now t) b
      ≡ name_uses t b + is_own n + sum_by (entries_at t) (at_and_below t source) + sum_by (attributes_at t) (at_and_below t source)
  name_uses-with_copy t pass source p n now passes =
      let can = can_copy t pass source p n passes in
      let node = node_there (node_at t p) can.there in
      let folder : is_directory node.0.content ≡ true = sym (ap is_folder node.1) ∙ is_a_folder (node_at t p) (folder_is (node_at t p) can.there can.folder) in
      let free : entry_of node.0.content n ≡ None = sym (ap (entry_in n) node.1) ∙ free_is (node_at t p) n can.free in
      let in_node : Node → ℕ = λ y. entries_named b y.content in
      let entries =
      sum_by-with_copy t in_node now (λ order y. entries_named-copied t.next_inode order y.content) source p n (is_own n) node.0 node.1
      (entries_named-named n t.next_inode node.0.content folder free) in
      let attributes = sum_by-with_copy t attributes_named now (λ order y. refl) source p n 0 node.0 node.1 (plus_zero (attributes_named node.0)) in
      omega (arith, entries, attributes)
    where
      plus_zero : (k : ℕ) → k ≡ k + 0
      plus_zero k = omega arith
