-- A partial copy that has all is the plain tree's own.
use Rattle.std.proofs.Common.{◌≡◌, ◌≤◌, ◌<◌, inl, inr, ℕ, List, Bool, true, false, cond, map, Option, None, Some, refl, sym, ap, ◌∙◌, subst, arith, ltb-false, ltb-true}
use Rattle.std.proofs.lemmas.Bool.{cases_eq}
use Rattle.std.proofs.lemmas.Map.Made.{keys_of-map_values, lookup-map_values}
use Rattle.std.specs.BTreeMap.{is_at}
use Rattle.std.specs.Cmp.Lexicographic.{slice_cmp}
use Rattle.std.specs.Map.{keys_of}
use Rattle.std.specs.Ordering.{nat_cmp}
use Rattle.std.specs.Prelude.{nat_lt, option_map}
use Rattle.plain_tree.specs.Below.{at_and_below, is_among}
use Rattle.plain_tree.specs.Entries.{entries_of, entry_at}
use Rattle.plain_tree.specs.Names.{NamesInOrder, Rise}
use Rattle.plain_tree.specs.Numbers.{Ascend, InOrder}
use Rattle.plain_tree.specs.Subtrees.{copied_content, copy_number, with_copy}
use Rattle.plain_tree.specs.Tree.{Content, Regular, Directory, Link, Node, Tree, entry_of, named, node_at, touched}
use Rattle.tree_laws.proofs.Copy.Nodes.{new_node, node_before, with_copies}
use Rattle.tree_laws.proofs.Name.Order.{rise-found}
use Rattle.tree_laws.proofs.Node.Kind.{entry_in}
use Rattle.tree_laws.proofs.Node.Reading.{node_at-change_node_other, node_at-change_node_same, node_at_none_next}
use Rattle.tree_copy.specs.PartialCopies.{HasCopy, IsContentOf, IsPartial, begun}
use Rattle.tree_copy.proofs.PartialSteps.{KeepsNumbers, KeepsNumbers-change_node}
use Rattle.tree_laws.proofs.Node.Same.{same_nodes}
use Rattle.tree_copy.proofs.SameEntries.{same_entries}

content_same : (next : ℕ) (order : List ℕ) (old content : Content) → IsContentOf old content → Rise (keys_of (entries_of content)) → Rise (keys_of (entries_of old))
    → ((m : List ℕ) → entry_of content m ≡ option_map (copy_number next order) (entry_of old m)) → content ≡ copied_content next order old
content_same next order (Directory entries) content is up down same =
    let new : List (List ℕ × ℕ) = is.0 in
    let renamed : List (List ℕ × ℕ) = map (λ e. (e.0, copy_number next order e.1)) entries in
    is.1
    ∙ ap Directory
    (same_entries new renamed (subst (λ c. Rise (keys_of (entries_of c))) is.1 up) (subst Rise (sym (keys_of-map_values (copy_number next order) entries)) down)
    (λ m. sym (ap (λ c. entry_of c m) is.1) ∙ same m ∙ sym (lookup-map_values (copy_number next order) (is_at (slice_cmp nat_cmp m)) entries)))
content_same next order (Regular bytes) content is up down same = is
content_same next order (Link target) content is up down same = is

module _ (whole t : Tree) (source parent now : ℕ) (name : List ℕ) (done : ℕ → List ℕ → Bool) (fits : parent < whole.next_inode)
    (partial : IsPartial whole t parent now name (at_and_below whole source) done) (ordered : InOrder whole) (names : NamesInOrder whole)
    (ordered_copy : InOrder (with_copy source parent name now whole))
    (complete : (x y : ℕ) (other : List ℕ) → is_among (at_and_below whole source) x ≡ true → entry_at whole x other ≡ Some y → done x other ≡ true) where
  abbrev order : List ℕ
  order = at_and_below whole source

  abbrev number : ℕ → ℕ
  number x = copy_number whole.next_inode order x

  abbrev copied : Tree
  copied = with_copies whole order now

  abbrev goal : Tree
  goal = with_copy source parent name now whole

  abbrev touch : Node → Node
  touch = λ node. touched now (record node { content = named name whole.next_inode node.content })

  all_entries : (x : ℕ) (other : List ℕ) → is_among order x ≡ true → entry_at t (number x) other ≡ option_map number (entry_at whole x other)
  all_entries x other among = partial.entries x other among ∙ by_found (entry_at whole x other) refl
    where
      by_found : (found : Option ℕ) → entry_at whole x other ≡ found → cond (done x other) (option_map number found) None ≡ option_map number found
      by_found None is = by_done (done x other)
        where
          by_done : (b : Bool) → cond {A = Option ℕ} b None None ≡ None
          by_done true = refl
          by_done false = refl
      by_found (Some y) is = ap (λ b. cond b (Some (number y)) None) (complete x y other among is)

  -- a node that was copied
  copy_found : (x : ℕ) → is_among order x ≡ true → node_at t (number x) ≡ node_at goal (number x)
  copy_found x among =
      let copy : HasCopy whole t now x (number x) = partial.copies x among in
      let content : copy.content ≡ copied_content whole.next_inode order copy.node.content =
      content_same whole.next_inode order copy.node.content copy.content copy.content_is
      (rise-found (is_at (nat_cmp (number x))) t.nodes (begun now copy.content copy.node) partial.names copy.is)
      (rise-found (is_at (nat_cmp x)) whole.nodes copy.node names copy.was)
      (λ m. ap (entry_in m) (sym copy.is) ∙ all_entries x m among ∙ ap (λ found. option_map number (entry_in m found)) copy.was) in
      copy.is ∙ ap (λ c. Some (begun now c copy.node)) content
      ∙ sym (node_at-change_node_other touch parent (number x) copied (λ same. omega (arith, same, fits)) ∙ new_node whole ordered order now x copy.node among copy.was)

  next_is : t.next_inode ≡ goal.next_inode
  next_is = partial.next_inode ∙ sym (KeepsNumbers-change_node touch parent copied).next_inode

  found : (z : ℕ) → node_at t z ≡ node_at goal z
  found z = by_range (nat_lt z whole.next_inode) refl (nat_lt z t.next_inode) refl
    where
      before : z < whole.next_inode → node_at t z ≡ node_at goal z
      before less =
          elim (cases_eq z parent) [
            | inl same ↦
                ap (node_at t) same ∙ partial.directory
                ∙ sym (ap (node_at goal) same ∙ node_at-change_node_same touch parent copied ∙ ap (option_map touch) (node_before whole source now parent fits))
            | inr apart ↦
                partial.old z less apart
                ∙ sym (node_at-change_node_other touch parent z copied apart ∙ node_before whole source now z less)
          ]

      by_range : (b : Bool) → nat_lt z whole.next_inode ≡ b → (c : Bool) → nat_lt z t.next_inode ≡ c → node_at t z ≡ node_at goal z
      by_range true less c is = before (ltb-true z whole.next_inode less)
      by_range false more true less =
          let from = partial.only z (ltb-false z whole.next_inode more) (ltb-true z t.next_inode less) in
          ap (node_at t) from.2 ∙ copy_found from.0 from.1 ∙ ap (node_at goal) (sym from.2)
      by_range false more false above =
          let least : t.next_inode ≤ z = ltb-false z t.next_inode above in
          node_at_none_next t partial.ordered z least ∙ sym (node_at_none_next goal ordered_copy z (subst (λ n. n ≤ z) next_is least))

  pub whole_copy : t ≡ with_copy source parent name now whole
  whole_copy =
      let kept : KeepsNumbers copied goal = KeepsNumbers-change_node touch parent copied in
      let nodes : t.nodes ≡ goal.nodes =
      same_nodes 0 t.nodes goal.nodes t.next_inode partial.ordered (subst (λ n. Ascend 0 (keys_of goal.nodes) n) (sym next_is) ordered_copy) found in
      λ i. record {
        block_size = (partial.block_size ∙ sym kept.block_size) i;
        next_inode = next_is i;
        nodes = nodes i;
        next_handle = (partial.next_handle ∙ sym kept.next_handle) i;
        handles = (partial.handles ∙ sym kept.handles) i;
      }
