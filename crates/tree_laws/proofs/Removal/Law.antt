-- A RemoveTree removes what it names.
use Rattle.std.proofs.Common.{◌≡◌, ◌≢◌, ℕ, ◌+◌, List, [], ◌∷◌, Bool, true, false, cond, Option, None, Some, sym, ap, ◌∙◌, inl, inr, subst, arith}
use Rattle.std.proofs.lemmas.Bool.{eqb-true, or_left, or_right, or_cases, false_from_ne_true, both_ways}
use Rattle.std.specs.BTreeMap.{is_at}
use Rattle.std.specs.Cmp.Lexicographic.{slice_cmp}
use Rattle.std.specs.Map.{lookup, remove_entry}
use Rattle.std.specs.Option.{option_map}
use Rattle.std.specs.Ordering.{nat_cmp}
use Rattle.std.specs.Prelude.{◌==◌, ◌||◌, ◌&&◌, not, length, option_and_then}
use Rattle.op_frames.specs.Replay.{Request}
use Rattle.op_frames.specs.declared.operation.Op.TheVariants as ops
use Rattle.op_frames.specs.declared.reply.Reply.TheVariants as replies
use Rattle.s3_base.specs.declared.node_kind.Kind.TheVariants as kinds
use Rattle.plain_tree.specs.Below.{is_among, at_and_below}
use Rattle.plain_tree.specs.Calls.{tree_after_all}
use Rattle.plain_tree.specs.Checks.{first_failure, directory_check}
use Rattle.plain_tree.specs.Entries.{entries_of, is_directory, entry_at, is_named, is_open, lives, drop_entry, unnamed}
use Rattle.plain_tree.specs.Names.{NamesInOrder}
use Rattle.plain_tree.specs.Numbers.{InOrder}
use Rattle.plain_tree.specs.Operations.{checks, reply_to, tree_after}
use Rattle.plain_tree.specs.Subtrees.{left_over, without_directories, without_tree}
use Rattle.s3_base.specs.Numbers.{root}
use Rattle.plain_tree.specs.Tree.{Content, Regular, Directory, Link, Node, Tree, made_tree, node_at, entry_of, changed_by, touched}
use Rattle.plain_tree.specs.WellFormed.{HasOneTree, HasNoOrphans}
use Rattle.plain_tree.proofs.Replies.{tree_at}
use Rattle.tree_laws.specs.Changes.{ChangesOneNode}
use Rattle.tree_laws.specs.Removals.{IsRemoved}
use Rattle.tree_laws.proofs.Name.Order.{NamesRise-filter, NamesInOrder-drop_entry}
use Rattle.tree_laws.proofs.Node.Ascend.{Ascend-filter}
use Rattle.tree_laws.proofs.Node.Kind.{entry_there, folder_of, kind_in, entry_in, entry_some}
use Rattle.tree_laws.proofs.Node.Order.{InOrder-change_node}
use Rattle.tree_laws.proofs.Node.Reading.{changed_by-changes_one, node_at-change_node_same, node_at-change_node_other}
use Rattle.tree_laws.proofs.Node.Subtree.{outer_entry, outside_left, none_left, folder_part, held_part, outer_stays, outer_found, sifted_node, left_over_found, left_of}
use Rattle.tree_laws.proofs.Shape.Below.{below_shape}
use Rattle.tree_laws.proofs.Shape.Branch.{Uproots}
use Rattle.tree_laws.proofs.Shape.Definition.{Rooted, grown_of}
use Rattle.tree_laws.proofs.Shape.Gain.{IsBelow, root_inside, no_round}
use Rattle.tree_laws.proofs.Shape.Loss.{Unlinks}
use Rattle.tree_laws.proofs.Shape.Named.{is_named_by, names_it}
use Rattle.tree_laws.proofs.Shape.Steps.{Sound}
use Rattle.tree_laws.proofs.Shape.Subtree.{shape-without_tree}
use Rattle.tree_laws.proofs.Shape.Tree.{shape_of, shape-drop_entry}
use Rattle.tree_laws.proofs.Shape.Words.{NoneGoes, IsPlace, not_there}
use Rattle.tree_laws.proofs.Walk.Calls.{passes_if_done}
use Rattle.tree_laws.proofs.Walk.Passed.{can_uproot}
use Rattle.tree_laws.proofs.WellFormed.{reached_sound}

-- ---- one entry less

fewer_if : {K X : Type 0} (e : K × X) (es rest : List (K × X)) (v : X) (found : Option X) (test : Bool) → (found ≡ Some v → length rest + 1 ≡ length es) → cond test (Some e.1) found ≡ Some v
    → length (cond test es (e ∷ rest)) + 1 ≡ length (e ∷ es)
fewer_if e es rest v found true later is = omega arith
fewer_if e es rest v found false later is = omega (arith, later is)

fewer : {K X : Type 0} (test : K → Bool) (es : List (K × X)) (v : X) → lookup test es ≡ Some v → length (remove_entry test es) + 1 ≡ length es
fewer test [] v is = absurd (cc is)
fewer test (e ∷ es) v is = fewer_if e es (remove_entry test es) v (lookup test es) (test e.0) (fewer test es v) is

one_less : (name : List ℕ) (content : Content) (x : ℕ) → entry_of content name ≡ Some x → length (entries_of (unnamed name content)) + 1 ≡ length (entries_of content)
one_less name (Directory entries) x is = fewer (is_at (slice_cmp nat_cmp name)) entries x is
one_less name (Regular bytes) x is = absurd (cc is)
one_less name (Link target) x is = absurd (cc is)

-- ---- the tree without a subtree

-- a directory and all below it go
removed_whole : (p : ℕ) (n : List ℕ) (now x : ℕ) (t : Tree) → Rooted t → entry_at t p n ≡ Some x → kind_in (node_at t x) ≡ Some kinds.Directory
    → IsRemoved p n now t (without_tree p n now (Some x) t)
removed_whole p n now x t sound names folder =
    let below : List ℕ = at_and_below t x in
    let drop : Node → Node = λ node. touched now (record node { content = unnamed n node.content }) in
    let unlinked : Tree = drop_entry p n now t in
    let without : Tree = without_directories below unlinked in
    let after : Tree = without_tree p n now (Some x) t in
    let among : IsBelow (shape_of t) x (is_among below) = below_shape t sound.names x in
    let unlinks : Unlinks (shape_of t) (shape_of unlinked) p n = shape-drop_entry p n now t sound.names in
    let in_order : InOrder unlinked = InOrder-change_node _ p t sound.ordered in
    let rising : NamesInOrder unlinked = NamesInOrder-drop_entry p n now t sound.names in
    let shape : Uproots (shape_of t) (shape_of after) p n (is_among below) = shape-without_tree p n now x t sound.ordered sound.names sound.grown.rooted in
    let apart : is_among below p ≡ false =
    false_from_ne_true (is_among below p) (λ within. no_round NoneGoes (shape_of t) x (is_among below) among sound.grown (λ no. no) folder p n within names) in
    let found : (y : ℕ) → node_at after y ≡ left_of (left_over without below now) y (node_at unlinked y) =
    λ y. left_over_found below without now y 0 unlinked.nodes unlinked.next_inode in_order in
    let sifts : (q : ℕ) → node_at without q ≡ sifted_node (λ e. not (is_among below e.0 && is_directory e.1.content)) q (node_at unlinked q) =
    λ q. outer_found below q 0 unlinked.nodes unlinked.next_inode in_order in
    let inner : (y : ℕ) → is_among below y ≡ true → y ≢ p = λ y within same. both_ways (is_among below y) (ap (is_among below) same ∙ apart) within in
    let parent = entry_some n x (node_at t p) names in
    let changes : ChangesOneNode p t unlinked = subst (λ found. ChangesOneNode p t (changed_by drop found p t)) (sym parent.1) (changed_by-changes_one drop parent.0 p t parent.1) in
    record {
      top = x;
      was_named = names;
      is_unnamed = shape.gone;
      no_entries = λ y m within. shape.none y m within;
      held_stay = λ y node within is file held.
          let here : node_at unlinked y ≡ Some node = node_at-change_node_other drop p y t (inner y within) ∙ is in
          let alive : lives without y ≡ true = elim held [
            | inl other ↦
                or_left (y == root || is_named without y) (is_open without y)
                (or_right (y == root) (is_named without y)
                (is_named_by without y other.holder other.by
                (ap (entry_in other.by) (sifts other.holder ∙ outer_stays below other.holder (node_at unlinked other.holder) other.outside)
                ∙ unlinks.rest other.holder other.by other.other ∙ other.names)))
            | inr opened ↦ or_right (y == root || is_named without y) (is_open without y) (unlinks.opened y ∙ opened)
          ] in
          found y ∙ ap (left_of (left_over without below now) y) here ∙ held_part (is_among below y) (lives without y) (is_directory node.content) now y node within alive file;
      directories_go = λ y node within is directory.
          found y ∙ ap (left_of (left_over without below now) y) (node_at-change_node_other drop p y t (inner y within) ∙ is)
          ∙ folder_part (is_among below y) (lives without y) (is_directory node.content) now y node within directory;
      others_go = λ y within free.
          found y
          ∙ none_left below without now y (node_at unlinked y) within
          (false_from_ne_true (lives without y) (λ alive. free (elim (or_cases (y == root || is_named without y) (is_open without y) alive) [
            | inr opened ↦ inr (sym (unlinks.opened y) ∙ opened)
            | inl kept ↦ elim (or_cases (y == root) (is_named without y) kept) [
              | inl is_root ↦
                  absurd (sound.grown.top p n
                  (names ∙ ap Some (root_inside NoneGoes (shape_of t) x (is_among below) among sound.grown (ap (is_among below) (sym (eqb-true y root is_root)) ∙ within))))
              | inr named ↦
                  let from = names_it without
                  (Ascend-filter 0 (λ (e : ℕ × Node). not (is_among below e.0 && is_directory e.1.content)) unlinked.nodes unlinked.next_inode in_order)
                  (NamesRise-filter (λ (e : ℕ × Node). not (is_among below e.0 && is_directory e.1.content)) unlinked.nodes rising) y named in
                  let was = outer_entry below from.0 from.1 y (node_at unlinked from.0) (ap (entry_in from.1) (sym (sifts from.0)) ∙ from.2) in
                  let other : IsPlace p n from.0 from.1 → ⊥ = λ place. not_there (entry_at unlinked) p n from.0 from.1 y place unlinks.gone was.1 in
                  inl (record { holder = from.0; by = from.1; outside = was.0; other = other; names = sym (unlinks.rest from.0 from.1 other) ∙ was.1 })
            ]
          ])));
      parent_is_outside = apart;
      parent_node = parent.0;
      parent_was = parent.1;
      parent_is = found p ∙ outside_left below without now p (node_at unlinked p) apart ∙ node_at-change_node_same drop p t ∙ ap (option_map drop) parent.1;
      one_less = one_less n parent.0.content x parent.2;
      other_entries = λ m differs. shape.rest p m apart (λ place. differs place.1);
      outside_stays = λ y out differs. found y ∙ outside_left below without now y (node_at unlinked y) out ∙ node_at-change_node_other drop p y t differs;
      handles = changes.handles;
      next_inode = changes.next_inode;
      next_handle = changes.next_handle;
      block_size = changes.block_size;
    }

-- ---- the operation

-- where a RemoveTree is answered Done
removed_by : (t : Tree) → Rooted t → (pass now p : ℕ) (n : List ℕ) → reply_to t pass (ops.RemoveTree p n) now ≡ replies.Done → IsRemoved p n now t (tree_after t pass (ops.RemoveTree p n) now)
removed_by t sound pass now p n done =
    let passes : first_failure (checks t pass (ops.RemoveTree p n)) ≡ None = passes_if_done t pass now (ops.RemoveTree p n) done in
    let can = can_uproot t pass p n passes in
    let named = entry_there (entry_at t p n) can.drop.entry in
    let node = sound.grown.there p named.0 n named.1 in
    let folder : kind_in (node_at t named.0) ≡ Some kinds.Directory =
    folder_of (node_at t named.0) node.0 node.1 (ap (λ o. directory_check (option_and_then (node_at t) o)) (sym named.1) ∙ can.child_folder) in
    subst (IsRemoved p n now t) (sym (tree_at t pass now (ops.RemoveTree p n) None passes ∙ ap (λ o. without_tree p n now o t) named.1)) (removed_whole p n now named.0 t sound named.1 folder)

-- every tree that is well formed
pub removed_in : (t : Tree) → InOrder t → NamesInOrder t → HasOneTree t → HasNoOrphans t → (pass now parent : ℕ) (name : List ℕ) → reply_to t pass (ops.RemoveTree parent name) now ≡ replies.Done
    → IsRemoved parent name now t (tree_after t pass (ops.RemoveTree parent name) now)
removed_in t ordered names tree orphans pass now parent name done =
    removed_by t (record { ordered = ordered; names = names; grown = grown_of t ordered names tree orphans }) pass now parent name done

-- every tree that calls lead to
pub removed_after : (block_size time : ℕ) (calls : List Request) (pass now parent : ℕ) (name : List ℕ)
    → reply_to (tree_after_all (made_tree block_size time) calls) pass (ops.RemoveTree parent name) now ≡ replies.Done
    → IsRemoved parent name now (tree_after_all (made_tree block_size time) calls) (tree_after (tree_after_all (made_tree block_size time) calls) pass (ops.RemoveTree parent name) now)
removed_after block_size time calls pass now parent name done =
    let sound : Sound (tree_after_all (made_tree block_size time) calls) = reached_sound block_size time calls in
    removed_by (tree_after_all (made_tree block_size time) calls) (record { ordered = sound.ordered; names = sound.names; grown = sound.grown }) pass now parent name done
