-- A tree whose entries at and below a directory went one after the other, and at last the directory's own, is the one without it.
use Rattle.std.proofs.Common.{◌≡◌, ◌≢◌, ◌⊎◌, inl, inr, ℕ, List, Bool, true, false, Option, None, Some, refl, sym, ap, ◌∙◌, subst}
use Rattle.std.proofs.lemmas.Bool.{both_ways, cases_eq, false_from_ne_true}
use Rattle.std.specs.Map.{keys_of}
use Rattle.std.specs.Prelude.{not, option_map}
use Rattle.op_frames.specs.declared.operation.Op.TheVariants as ops
use Rattle.op_frames.specs.declared.reply.Reply.{Reply}
use Rattle.op_frames.specs.declared.reply.Reply.TheVariants as replies
use Rattle.s3_base.specs.declared.node_kind.Kind.{Kind}
use Rattle.s3_base.specs.declared.node_kind.Kind.TheVariants as kinds
use Rattle.s3_base.specs.Numbers.{root}
use Rattle.plain_tree.specs.Attributes.{kind_of}
use Rattle.plain_tree.specs.Below.{is_at_or_below}
use Rattle.plain_tree.specs.Checks.{first_failure}
use Rattle.plain_tree.specs.Entries.{entry_at, is_directory, is_folder, is_named, is_open}
use Rattle.plain_tree.specs.Numbers.{Ascend}
use Rattle.plain_tree.specs.Operations.{checks, effect, reply_to, success, tree_after}
use Rattle.plain_tree.specs.Tree.{Handle, Node, Tree, node_at, stamped}
use Rattle.plain_tree.specs.WellFormed.{IsWellFormed}
use Rattle.tree_laws.specs.Removals.{IsHeld, IsRemoved}
use Rattle.tree_laws.proofs.Node.Kind.{directory_kind, folder_kind, holds_kind, is_a_folder, kind_directory, kind_in, kind_some, none_from, none_some, one_some}
use Rattle.tree_laws.proofs.Node.Same.{same_nodes}
use Rattle.tree_laws.proofs.Removal.Law.{removed_in}
use Rattle.tree_laws.proofs.Shape.Below.{below_shape}
use Rattle.tree_laws.proofs.Shape.Definition.{grown_of}
use Rattle.tree_laws.proofs.Shape.Gain.{IsBelow}
use Rattle.tree_laws.proofs.Shape.Named.{names_it, unnamed_by}
use Rattle.tree_laws.proofs.Shape.Tree.{shape_of}
use Rattle.tree_laws.proofs.Shape.Words.{Grown, NoneGoes, not_there}
use Rattle.immutable_trees.proofs.LostEntry.{Loses, lose}
use Rattle.immutable_trees.proofs.Reached.{below_inside}
use Rattle.immutable_trees.proofs.ShrunkTree.{IsFile, LeavesOuter, Shrinks, Shrinks-more, kind_stamped}

-- ---- the plain tree's removal

done : (t : Tree) (pass now parent : ℕ) (name : List ℕ) → first_failure (checks t pass (ops.RemoveTree parent name)) ≡ None
    → reply_to t pass (ops.RemoveTree parent name) now ≡ replies.Done
unfolding reply_to
done t pass now parent name passes =
    ap (λ (found : Option ℕ). let reply : Reply = elim found [ Some errno ↦ replies.Errno (record { 0 = errno }) | None ↦ success t pass (ops.RemoveTree parent name) now ] in reply) passes

after_is : (t : Tree) (pass now parent : ℕ) (name : List ℕ) → first_failure (checks t pass (ops.RemoveTree parent name)) ≡ None
    → tree_after t pass (ops.RemoveTree parent name) now ≡ effect t pass (ops.RemoveTree parent name) now
unfolding tree_after
after_is t pass now parent name passes =
    ap (λ (found : Option ℕ). let after : Tree = elim found [ Some errno ↦ t | None ↦ effect t pass (ops.RemoveTree parent name) now ] in after) passes

-- ---- the end

-- the entries at and below top went one after the other, and at last top's own
module _ (before t after : Tree) (pass now parent top : ℕ) (name : List ℕ) (well : IsWellFormed before) (passes : first_failure (checks before pass (ops.RemoveTree parent name)) ≡ None)
    (shrinks : Shrinks before t now) (outer : LeavesOuter before t top) (names : entry_at t parent name ≡ Some top) (folder : kind_in (node_at before top) ≡ Some kinds.Directory)
    (loses : Loses t after now now now parent top name) (well_after : IsWellFormed after) where
  abbrev goal : Tree
  goal = effect before pass (ops.RemoveTree parent name) now

  removed : IsRemoved parent name now before goal
  removed =
      subst (IsRemoved parent name now before) (after_is before pass now parent name passes)
      (removed_in before well.nodes well.names well.tree well.orphans pass now parent name (done before pass now parent name passes))

  named_before : entry_at before parent name ≡ Some top
  named_before = shrinks.fewer parent top name names

  top_is : removed.top ≡ top
  top_is = one_some (entry_at before parent name) removed.top top removed.was_named named_before

  inside_is : (y : ℕ) → is_at_or_below before removed.top y ≡ is_at_or_below before top y
  inside_is y = ap (λ x. is_at_or_below before x y) top_is

  parent_outside : is_at_or_below before top parent ≡ false
  parent_outside = sym (inside_is parent) ∙ removed.parent_is_outside

  grown : Grown NoneGoes (shape_of before)
  grown = grown_of before well.nodes well.names well.tree well.orphans

  grown_after : Grown NoneGoes (shape_of after)
  grown_after = grown_of after well_after.nodes well_after.names well_after.tree well_after.orphans

  below : IsBelow (shape_of before) top (is_at_or_below before top)
  below = below_shape before well.names top

  all : Shrinks before after now
  all = Shrinks-more before t after now now now parent top name shrinks names loses well_after

  -- no directory at or below top is left
  no_folder : (y : ℕ) → is_at_or_below before top y ≡ true → not (is_folder (node_at after y)) ≡ true
  no_folder = below_inside before well.names (λ y. not (is_folder (node_at after y))) closed top (ap (λ (found : Option Node). not (is_folder found)) top_gone)
    where
      stays_folder : (kind : Kind) → kind_in (node_at t top) ≡ Some kind → kind_in (node_at t top) ≡ Some kinds.Directory
      stays_folder kind is = is ∙ ap Some (one_some (kind_in (node_at before top)) kind kinds.Directory (all_kind kind is) folder)
        where
          all_kind : (kind : Kind) → kind_in (node_at t top) ≡ Some kind → kind_in (node_at before top) ≡ Some kind
          all_kind kind is = shrinks.kind top kind is

      top_gone : node_at after top ≡ None
      top_gone =
          let there = (grown_of t shrinks.well.nodes shrinks.well.names shrinks.well.tree shrinks.well.orphans).there parent top name names in
          loses.folder (stays_folder there.0 there.1)

      no_file : (found : Option Node) → (kind_in found ≡ Some kinds.Directory → ⊥) → not (is_folder found) ≡ true
      no_file found file = ap not (false_from_ne_true (is_folder found) (λ is. file (folder_kind found is)))

      closed : (q y : ℕ) (by : List ℕ) → not (is_folder (node_at after q)) ≡ true → entry_at before q by ≡ Some y → not (is_folder (node_at after y)) ≡ true
      closed q y by none is =
          elim (all.removed q y by is (none_from (entry_at after q by) (λ z also.
          let clash : false ≡ true = sym (ap not (is_a_folder (node_at after q) (holds_kind (node_at after q) by z also))) ∙ none in
          absurd (cc clash)))) [
            | inl gone ↦ ap (λ (found : Option Node). not (is_folder found)) gone
            | inr marked ↦
                no_file (node_at after y) (λ is_too. marked.0 (sym (kind_stamped now (node_at before y)) ∙ ap kind_in (sym marked.1) ∙ is_too))
          ]

  no_directory : (y : ℕ) → is_at_or_below before top y ≡ true → kind_in (node_at after y) ≡ Some kinds.Directory → ⊥
  no_directory y inside is =
      let clash : false ≡ true = sym (ap not (is_a_folder (node_at after y) is)) ∙ no_folder y inside in
      cc clash

  no_entries : (q : ℕ) (by : List ℕ) → is_at_or_below before top q ≡ true → entry_at after q by ≡ None
  no_entries q by inside = none_from (entry_at after q by) (λ z is. no_directory q inside (holds_kind (node_at after q) by z is))

  -- ---- nodes inside

  inside_there : (y : ℕ) → is_at_or_below before top y ≡ true → (kind : Kind) × (kind_in (node_at before y) ≡ Some kind)
  inside_there y inside =
      elim (below.up y inside) [
        | inl same ↦ (kinds.Directory, ap (λ z. kind_in (node_at before z)) same ∙ folder)
        | inr from ↦ grown.there from.0 y from.1 from.3
      ]

  -- a file with another name, or open, is there
  held_there : (y : ℕ) → IsHeld parent removed.top name before y → (kind : Kind) × (kind_in (node_at after y) ≡ Some kind)
  held_there y held =
      elim held [
        | inl other ↦
            let out : is_at_or_below before top other.holder ≡ false = sym (inside_is other.holder) ∙ other.outside in
            grown_after.there other.holder y other.by (loses.rest other.holder other.by (λ place. other.other place) ∙ outer.entries other.holder other.by out ∙ other.names)
        | inr opened ↦
            (kinds.Regular, grown_after.handles y (ap (λ (handles : List (ℕ × Handle)). is_open (record after { handles = handles }) y) all.numbers.handles ∙ opened))
      ]

  -- and what is there has another name, or is open
  there_held : (y : ℕ) (kind : Kind) → is_at_or_below before top y ≡ true → kind_in (node_at after y) ≡ Some kind → IsHeld parent removed.top name before y
  there_held y kind inside is = by_named (is_named after y) refl
    where
      not_root : y ≢ root
      not_root same = no_directory y inside (ap (λ z. kind_in (node_at after z)) same ∙ grown_after.rooted)

      by_named : (b : Bool) → is_named after y ≡ b → IsHeld parent removed.top name before y
      by_named true named =
          let from = names_it after well_after.nodes well_after.names y named in
          inl (record {
            holder = from.0;
            by = from.1;
            outside =
                inside_is from.0
                ∙ false_from_ne_true (is_at_or_below before top from.0) (λ within. none_some (entry_at after from.0 from.1) y (no_entries from.0 from.1 within) from.2);
            other = λ place. not_there (entry_at after) parent name from.0 from.1 y place loses.gone from.2;
            names = all.fewer from.0 y from.1 from.2;
          })
      by_named false unnamed =
          let orphan = grown_after.orphans y kind (λ no. no) is not_root (unnamed_by after y unnamed) in
          inr (ap (λ (handles : List (ℕ × Handle)). is_open (record before { handles = handles }) y) (sym all.numbers.handles) ∙ orphan.1)

  inside_folder : (y : ℕ) (node : Node) → is_at_or_below before top y ≡ true → node_at before y ≡ Some node → is_directory node.content ≡ true → node_at after y ≡ node_at goal y
  inside_folder y node inside is own =
      none_from (node_at after y) (λ left found.
      let kind : kind_in (node_at after y) ≡ Some (kind_of left.content) = ap kind_in found in
      no_directory y inside (kind ∙ sym (all.kind y (kind_of left.content) kind) ∙ ap kind_in is ∙ ap Some (directory_kind node.content own)))
      ∙ sym (removed.directories_go y node (inside_is y ∙ inside) is own)

  -- a file lost an entry inside
  inside_file : (y : ℕ) (node : Node) → is_at_or_below before top y ≡ true → node_at before y ≡ Some node → is_directory node.content ≡ false → node_at after y ≡ node_at goal y
  inside_file y node inside is own =
      elim (below.up y inside) [
        | inl same ↦ absurd (file (ap (λ z. kind_in (node_at before z)) same ∙ folder))
        | inr from ↦ by_left (all.removed from.0 y from.1 from.3 (no_entries from.0 from.1 from.2))
      ]
    where
      within : is_at_or_below before removed.top y ≡ true
      within = inside_is y ∙ inside

      file : IsFile before y
      file folder_too =
          let same : kind_of node.content ≡ kinds.Directory = one_some (kind_in (node_at before y)) (kind_of node.content) kinds.Directory (ap kind_in is) folder_too in
          both_ways (is_directory node.content) own (kind_directory node.content same)

      by_left : (node_at after y ≡ None) ⊎ (IsFile before y × (node_at after y ≡ option_map (stamped now) (node_at before y))) → node_at after y ≡ node_at goal y
      by_left left =
          elim left [
            | inl gone ↦
                gone
                ∙ sym (removed.others_go y within (λ held.
                let there = held_there y held in
                none_some (kind_in (node_at after y)) there.0 (ap kind_in gone) there.1))
            | inr marked ↦
                let found : node_at after y ≡ Some (stamped now node) = marked.1 ∙ ap (option_map (stamped now)) is in
                found ∙ sym (removed.held_stay y node within is own (there_held y (kind_of node.content) inside (ap kind_in found)))
          ]

  by_content : (y : ℕ) (node : Node) → is_at_or_below before top y ≡ true → node_at before y ≡ Some node → (b : Bool) → is_directory node.content ≡ b → node_at after y ≡ node_at goal y
  by_content y node inside is true own = inside_folder y node inside is own
  by_content y node inside is false own = inside_file y node inside is own

  inside_node : (y : ℕ) → is_at_or_below before top y ≡ true → node_at after y ≡ node_at goal y
  inside_node y inside =
      let kind = inside_there y inside in
      let found = kind_some (node_at before y) kind.0 kind.1 in
      by_content y found.0 inside found.1 (is_directory found.0.content) refl

  -- ---- nodes outside

  outside_node : (y : ℕ) → is_at_or_below before top y ≡ false → node_at after y ≡ node_at goal y
  outside_node y out =
      elim (cases_eq y parent) [
        | inl same ↦
            ap (node_at after) same ∙ loses.parent ∙ ap (option_map (lose now now name)) (outer.nodes parent parent_outside ∙ removed.parent_was) ∙ sym removed.parent_is
            ∙ ap (node_at goal) (sym same)
        | inr differs ↦
            loses.others y differs (λ same. both_ways (is_at_or_below before top y) out (ap (is_at_or_below before top) same ∙ below.itself)) ∙ outer.nodes y out
            ∙ sym (removed.outside_stays y (inside_is y ∙ out) differs)
      ]

  node_is : (y : ℕ) → node_at after y ≡ node_at goal y
  node_is y = by_side (is_at_or_below before top y) refl
    where
      by_side : (b : Bool) → is_at_or_below before top y ≡ b → node_at after y ≡ node_at goal y
      by_side true inside = inside_node y inside
      by_side false out = outside_node y out

  pub removed_is : IsWellFormed goal → after ≡ goal
  removed_is well_goal =
      let next : after.next_inode ≡ goal.next_inode = all.numbers.next_inode ∙ sym removed.next_inode in
      let nodes : after.nodes ≡ goal.nodes =
      same_nodes 0 after.nodes goal.nodes after.next_inode well_after.nodes (subst (λ n. Ascend 0 (keys_of goal.nodes) n) (sym next) well_goal.nodes) node_is in
      λ i. record {
        block_size = (all.numbers.block_size ∙ sym removed.block_size) i;
        next_inode = next i;
        nodes = nodes i;
        next_handle = (all.numbers.next_handle ∙ sym removed.next_handle) i;
        handles = (all.numbers.handles ∙ sym removed.handles) i;
      }
