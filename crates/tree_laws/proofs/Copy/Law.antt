-- What a CopyTree that is answered with attributes leaves.
use Rattle.std.proofs.Common.{◌≡◌, ◌<◌, ℕ, ◌+◌, List, [], ◌∷◌, true, false, cond, Option, None, Some, refl, sym, ap, ◌∙◌, inl, inr, arith}
use Rattle.std.proofs.lemmas.Map.Made.{lookup-map_values, keys_of-map_values}
use Rattle.std.specs.BTreeMap.{is_at, insert_entry}
use Rattle.std.specs.Cmp.Lexicographic.{slice_cmp}
use Rattle.std.specs.Map.{lookup}
use Rattle.std.specs.Option.{option_map}
use Rattle.std.specs.Ordering.{nat_cmp, match_ordering, is_eq}
use Rattle.std.specs.Prelude.{length}
use Rattle.std.specs.declared.cmp.Ordering.{Ordering}
use Rattle.std.specs.declared.cmp.Ordering.TheVariants.{Less, Equal, Greater}
use Rattle.op_frames.specs.declared.operation.Op.TheVariants as ops
use Rattle.op_frames.specs.declared.reply.Attr.{Attr}
use Rattle.op_frames.specs.declared.reply.Reply.TheVariants as replies
use Rattle.s3_base.specs.declared.node_kind.Kind.TheVariants as kinds
use Rattle.plain_tree.specs.Attributes.{kind_of}
use Rattle.plain_tree.specs.Below.{is_among, at_and_below}
use Rattle.plain_tree.specs.Checks.{first_failure}
use Rattle.plain_tree.specs.Entries.{entry_at}
use Rattle.plain_tree.specs.Names.{NamesInOrder}
use Rattle.plain_tree.specs.Numbers.{InOrder}
use Rattle.plain_tree.specs.Operations.{checks, reply_to, tree_after}
use Rattle.plain_tree.specs.Subtrees.{copy_number, copied_content, copied_node, with_copy}
use Rattle.plain_tree.specs.Tree.{Content, Regular, Directory, Link, Node, Tree, node_at, entry_of, named, touched}
use Rattle.plain_tree.specs.WellFormed.{HasOneTree}
use Rattle.plain_tree.proofs.Replies.{tree_at}
use Rattle.tree_laws.specs.Changes.{ChangesOneNode}
use Rattle.tree_laws.specs.Copies.{number_of, HasCopied, HasOneMore, LeavesTheRest, IsNew, IsAlike, IsCopied}
use Rattle.tree_laws.proofs.Copy.Nodes.{place_within, with_copies, node_before, new_node}
use Rattle.tree_laws.proofs.File.Alone.{changes_found}
use Rattle.tree_laws.proofs.Node.Kind.{kind_in, entry_in, none_some, some_node, kind_some, folder_entries, entry_copied, folder_is, free_is}
use Rattle.tree_laws.proofs.Node.Reading.{lookup_below_next, node_at_none_next, node_at-change_node_same, node_at-change_node_other}
use Rattle.tree_laws.proofs.Shape.Below.{below_shape}
use Rattle.tree_laws.proofs.Shape.Branch.{Copies}
use Rattle.tree_laws.proofs.Shape.Copy.{shape-with_copy}
use Rattle.tree_laws.proofs.Shape.Gain.{IsBelow}
use Rattle.tree_laws.proofs.Shape.Tree.{shape_of, Links, shape-add_entry}
use Rattle.tree_laws.proofs.Walk.Calls.{passes_by}
use Rattle.tree_laws.proofs.Walk.Passed.{can_copy}

-- ---- a copied node

copied_is : (next : ℕ) (order : List ℕ) (content : Content) → HasCopied (copy_number next order) content (copied_content next order content)
copied_is next order (Regular bytes) = refl
copied_is next order (Link target) = refl
copied_is next order (Directory entries) =
    (_, refl, keys_of-map_values (copy_number next order) entries, λ name. lookup-map_values (copy_number next order) (is_at (slice_cmp nat_cmp name)) entries)

-- ---- a new entry

longer_if : (n m : List ℕ) (x v : ℕ) (es inserted : List (List ℕ × ℕ)) (order : Ordering) → slice_cmp nat_cmp n m ≡ order → cond (is_at (slice_cmp nat_cmp n) m) (Some v) (lookup (is_at (slice_cmp nat_cmp n)) es) ≡ None
    → (lookup (is_at (slice_cmp nat_cmp n)) es ≡ None → length inserted ≡ length es + 1) → length (match_ordering order ((n, x) ∷ (m, v) ∷ es) ((m, x) ∷ es) ((m, v) ∷ inserted)) ≡ length ((m, v) ∷ es) + 1
longer_if n m x v es inserted Less is none rest = omega arith
longer_if n m x v es inserted Equal is none rest =
    let found : Some v ≡ None = sym (ap (λ b. cond b (Some v) (lookup (is_at (slice_cmp nat_cmp n)) es)) (ap is_eq is)) ∙ none in
    absurd (cc found)
longer_if n m x v es inserted Greater is none rest =
    let later : length inserted ≡ length es + 1 = rest (sym (ap (λ b. cond b (Some v) (lookup (is_at (slice_cmp nat_cmp n)) es)) (ap is_eq is)) ∙ none) in
    omega (arith, later)

longer : (n : List ℕ) (x : ℕ) (es : List (List ℕ × ℕ)) → lookup (is_at (slice_cmp nat_cmp n)) es ≡ None → length (insert_entry (slice_cmp nat_cmp) es n x) ≡ length es + 1
longer n x [] none = omega arith
longer n x (e ∷ es) none = longer_if n e.0 x e.1 es (insert_entry (slice_cmp nat_cmp) es n x) (slice_cmp nat_cmp n e.0) refl none (longer n x es)

-- ---- the copy

one_of : (f : ℕ → ℕ) (good : ℕ → Type 0) → ((x y : ℕ) → good x → good y → f x ≡ f y → x ≡ y) → (found other : Option ℕ) → ((y : ℕ) → found ≡ Some y → good y) → ((y : ℕ) → other ≡ Some y → good y)
    → option_map f found ≡ option_map f other → found ≡ other
one_of f good apart None None first second is = refl
one_of f good apart None (Some y) first second is = absurd (cc is)
one_of f good apart (Some x) None first second is = absurd (cc is)
one_of f good apart (Some x) (Some y) first second is =
    let same : f x ≡ f y = cc is in
    ap Some (apart x y (first x refl) (second y refl) same)

-- what a CopyTree asks of a tree
pub record CanBeCopied (t : Tree) (source p : ℕ) (n : List ℕ) : Type 0 where
  pub ordered : InOrder t
  pub names : NamesInOrder t
  pub tree : HasOneTree t
  pub folder : kind_in (node_at t source) ≡ Some kinds.Directory
  pub parent : kind_in (node_at t p) ≡ Some kinds.Directory
  pub outside : is_among (at_and_below t source) p ≡ false
  pub free : entry_at t p n ≡ None

-- a subtree that can be copied
module _ (t : Tree) (source p : ℕ) (n : List ℕ) (can : CanBeCopied t source p n) where
  -- what lies at or below the source is there
  pub node_below : (x : ℕ) → is_among (at_and_below t source) x ≡ true → (node : Node) × (node_at t x ≡ Some node)
  node_below x among =
      elim ((below_shape t can.names source).up x among) [
        | inl same ↦
            let node = kind_some (node_at t source) kinds.Directory can.folder in
            (node.0, ap (node_at t) same ∙ node.1)
        | inr from ↦ some_node (node_at t x) (can.tree.entries from.0 x from.1 from.3)
      ]

  parent_fits : p < t.next_inode
  parent_fits =
      let node = kind_some (node_at t p) kinds.Directory can.parent in
      lookup_below_next p 0 t.nodes t.next_inode node.0 can.ordered node.1

  shaped : (now : ℕ) → Copies (shape_of t) (shape_of (with_copy source p n now t)) p n source (is_among (at_and_below t source)) (copy_number t.next_inode (at_and_below t source))
  shaped now = shape-with_copy source p n now t can.ordered can.parent can.free (below_shape t can.names source).itself

  -- the copy of a node
  copy_there : (now : ℕ) → (x : ℕ) (node : Node) → is_among (at_and_below t source) x ≡ true → node_at t x ≡ Some node → node_at (with_copy source p n now t) (number_of t source x) ≡ Some (copied_node t.next_inode (at_and_below t source) now node)
  copy_there now x node among is =
      let order : List ℕ = at_and_below t source in
      let fits : p < t.next_inode = parent_fits in
      node_at-change_node_other _ p (number_of t source x) (with_copies t order now) (λ same. omega (arith, same, fits)) ∙ new_node t can.ordered order now x node among is

  copied_alike : (now : ℕ) → (x : ℕ) (name : List ℕ) → is_among (at_and_below t source) x ≡ true → entry_at (with_copy source p n now t) (number_of t source x) name ≡ option_map (number_of t source) (entry_at t x name)
  copied_alike now x name among =
      let order : List ℕ = at_and_below t source in
      let node = node_below x among in
      ap (entry_in name) (copy_there now x node.0 among node.1)
      ∙ entry_copied t.next_inode order node.0.content name
      ∙ ap (λ found. option_map (number_of t source) (entry_in name found)) (sym node.1)

  gains : (now : ℕ) → HasOneMore p n (number_of t source source) now t (with_copy source p n now t)
  gains now =
      let order : List ℕ = at_and_below t source in
      let more : Tree = with_copies t order now in
      let node = kind_some (node_at t p) kinds.Directory can.parent in
      let entries = folder_entries node.0.content node.2 in
      let old : node_at more p ≡ node_at t p = node_before t source now p (parent_fits) in
      let links : Links (shape_of more) (shape_of (with_copy source p n now t)) p n t.next_inode = shape-add_entry p n t.next_inode now more (ap kind_in old ∙ can.parent) in
      record {
        node = node.0;
        old = entries.0;
        new = insert_entry (slice_cmp nat_cmp) entries.0 n t.next_inode;
        was = node.1;
        was_folder = entries.1;
        is = node_at-change_node_same _ p more ∙ ap (option_map (λ node. touched now (record node { content = named n t.next_inode node.content }))) (old ∙ node.1)
            ∙ ap (λ c. Some (touched now (record node.0 { content = named n t.next_inode c }))) entries.1;
        size_is = longer n t.next_inode entries.0 (sym (ap (entry_in n) node.1 ∙ ap (λ c. entry_of c n) entries.1) ∙ can.free);
        free = can.free;
        entry = (shaped now).here;
        others = λ other apart. links.rest p other (λ place. apart place.1) ∙ ap (entry_in other) old;
      }

  leaves : (now : ℕ) → LeavesTheRest source p t (with_copy source p n now t)
  leaves now =
      let more : Tree = with_copies t (at_and_below t source) now in
      let f : Node → Node = λ node. touched now (record node { content = named n t.next_inode node.content }) in
      let only : ChangesOneNode p more (with_copy source p n now t) = changes_found f p more (node_at more p) refl in
      record {
        others = λ x less apart. only.others x apart ∙ node_before t source now x less;
        outside = can.outside;
        next_inode = only.next_inode;
        handles = only.handles;
        next_handle = only.next_handle;
        block_size = only.block_size;
      }

  first_number : (now : ℕ) → number_of t source source ≡ t.next_inode
  first_number now =
      let more : Tree = with_copies t (at_and_below t source) now in
      let old : node_at more p ≡ node_at t p = node_before t source now p (parent_fits) in
      let links : Links (shape_of more) (shape_of (with_copy source p n now t)) p n t.next_inode = shape-add_entry p n t.next_inode now more (ap kind_in old ∙ can.parent) in
      let both_ways : Some (number_of t source source) ≡ Some t.next_inode = sym (shaped now).here ∙ links.here in
      cc both_ways

  news : (now : ℕ) → IsNew source t (with_copy source p n now t)
  news now =
      let after : Tree = with_copy source p n now t in
      let copied : Copies (shape_of t) (shape_of after) p n source (is_among (at_and_below t source)) (copy_number t.next_inode (at_and_below t source)) = shaped now in
      let rest : LeavesTheRest source p t after = leaves now in
      record {
        only = λ z less there.
            let node = some_node (node_at after z) there in
            elim (copied.from_kind z (kind_of node.0.content) (ap kind_in node.1)) [
              | inl old ↦ absurd (none_some (kind_in (node_at t z)) (kind_of node.0.content) (ap kind_in (node_at_none_next t can.ordered z less)) old)
              | inr from ↦ (from.of, from.within, from.is)
            ];
        apart = copied.apart;
        from = λ x among. omega arith;
        up_to = λ x among. omega (arith, rest.next_inode, place_within (at_and_below t source) x among);
      }

  alike : (now : ℕ) → IsAlike source now t (with_copy source p n now t)
  alike now =
      let order : List ℕ = at_and_below t source in
      let after : Tree = with_copy source p n now t in
      let below : IsBelow (shape_of t) source (is_among order) = below_shape t can.names source in
      record {
        itself = below.itself;
        first = first_number now;
        down = λ x y name among is. below.down x y name among is;
        up = λ x among. below.up x among;
        copies = λ x among.
            let node = node_below x among in (
              node.0,
              copied_node t.next_inode order now node.0,
              node.1,
              copy_there now x node.0 among node.1,
              record {
                mode = refl;
                uid = refl;
                gid = refl;
                mtime = refl;
                ctime = refl;
                unlocked = refl;
                attributes = refl;
                content = copied_is t.next_inode order node.0.content;
              },
            );
        entries = λ x name among. copied_alike now x name among;
        shared = λ x y name other first second is.
            one_of (number_of t source) (λ k. is_among order k ≡ true) (shaped now).apart (entry_at t x name) (entry_at t y other)
            (λ k names. below.down x k name first names) (λ k names. below.down y k other second names)
            (sym (copied_alike now x name first) ∙ is ∙ copied_alike now y other second);
        share = λ x y name other first second is.
            copied_alike now x name first ∙ ap (option_map (number_of t source)) is ∙ sym (copied_alike now y other second);
      }

-- ---- the call

can_be_copied : (t : Tree) (pass source p : ℕ) (n : List ℕ) → first_failure (checks t pass (ops.CopyTree source p n)) ≡ None → InOrder t → NamesInOrder t → HasOneTree t → CanBeCopied t source p n
can_be_copied t pass source p n is ordered names tree =
    let can = can_copy t pass source p n is in
    record {
      ordered = ordered;
      names = names;
      tree = tree;
      folder = folder_is (node_at t source) can.source_there can.source_folder;
      parent = folder_is (node_at t p) can.there can.folder;
      outside = can.outside;
      free = free_is (node_at t p) n can.free;
    }

copied_passes : (t : Tree) (pass now source p : ℕ) (n : List ℕ) (attr : Attr) → reply_to t pass (ops.CopyTree source p n) now ≡ replies.Attr attr
    → first_failure (checks t pass (ops.CopyTree source p n)) ≡ None
copied_passes t pass now source p n attr replied =
    passes_by t pass now (ops.CopyTree source p n) (λ errno refused.
    let both : replies.Attr attr ≡ replies.Errno errno = sym replied ∙ refused in
    cc both)

-- where it is answered with attributes, no check fails
pub can_be : (t : Tree) (pass now source p : ℕ) (n : List ℕ) (attr : Attr) → InOrder t → NamesInOrder t → HasOneTree t → reply_to t pass (ops.CopyTree source p n) now ≡ replies.Attr attr
    → CanBeCopied t source p n
can_be t pass now source p n attr ordered names tree replied = can_be_copied t pass source p n (copied_passes t pass now source p n attr replied) ordered names tree

-- a CopyTree that is answered with attributes makes a copy
pub copy_done : (t : Tree) (pass now source p : ℕ) (n : List ℕ) (attr : Attr) → InOrder t → NamesInOrder t → HasOneTree t → reply_to t pass (ops.CopyTree source p n) now ≡ replies.Attr attr
    → IsCopied source p n now t (tree_after t pass (ops.CopyTree source p n) now)
copy_done t pass now source p n attr ordered names tree replied =
    let can : CanBeCopied t source p n = can_be t pass now source p n attr ordered names tree replied in
    rw (tree_at t pass now (ops.CopyTree source p n) None (copied_passes t pass now source p n attr replied))
    (record { gains = gains t source p n can now; rest = leaves t source p n can now; new = news t source p n can now; alike = alike t source p n can now })
