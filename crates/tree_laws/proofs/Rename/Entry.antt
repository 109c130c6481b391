-- What a Rename that is done leaves behind.
use Rattle.std.proofs.Common.{◌≡◌, ◌≢◌, ℕ, List, Bool, true, false, Option, None, Some, IsSome, refl, sym, ap, ◌∙◌, inl, inr, subst, zero, suc}
use Rattle.std.proofs.lemmas.Bool.{cond-false, eqb-true, both_ways}
use Rattle.std.specs.Option.{option_map}
use Rattle.std.specs.Prelude.{◌&&◌}
use Rattle.op_frames.specs.Replay.{Request}
use Rattle.op_frames.specs.declared.operation.Op.TheVariants as ops
use Rattle.op_frames.specs.declared.reply.Reply.TheVariants as replies
use Rattle.s3_base.specs.declared.node_kind.Kind.TheVariants as kinds
use Rattle.plain_tree.specs.Below.{is_among, at_and_below, is_at_or_below}
use Rattle.plain_tree.specs.Calls.{tree_after_all}
use Rattle.plain_tree.specs.Checks.{first_failure, entry_check}
use Rattle.plain_tree.specs.Entries.{is_folder, entry_at, settled}
use Rattle.plain_tree.specs.Names.{NamesInOrder}
use Rattle.plain_tree.specs.Numbers.{InOrder}
use Rattle.plain_tree.specs.Operations.{checks, reply_to, tree_after, HandlesBelow}
use Rattle.plain_tree.specs.Subtrees.{is_same, dropped, moved_entry}
use Rattle.plain_tree.specs.Tree.{Node, Tree, node_at, change_node, stamped, made_tree}
use Rattle.plain_tree.specs.WellFormed.{IsWellFormed, HasOneTree, HasNoOrphans}
use Rattle.plain_tree.proofs.Replies.{tree_at}
use Rattle.tree_laws.specs.Renames.{IsRenamed, HasLostName}
use Rattle.tree_laws.proofs.Name.Legal.{NamesAreLegal-tree_after}
use Rattle.tree_laws.proofs.Name.Order.{NamesInOrder-settled, NamesInOrder-stamped}
use Rattle.tree_laws.proofs.Node.Kind.{one_some, kind_in, entry_in, none_some, is_a_folder, folder_is, holds_kind}
use Rattle.tree_laws.proofs.Node.Order.{InOrder-change_node, InOrder-settled}
use Rattle.tree_laws.proofs.Rename.Nodes.{SameFrame, moved_to, shape-moved_to, InOrder-moved_to, NamesInOrder-moved_to, SameFrame-moved_to, node_at-moved_to_other, node_at-moved_to_same, moved_to-touches, touched_on, Settles, Settles-settled, settled_entry, is_stamped}
use Rattle.tree_laws.proofs.Rename.Shape.{moves_outside, replaces_empty, not_below_itself}
use Rattle.tree_laws.proofs.Shape.Below.{below_shape}
use Rattle.tree_laws.proofs.Shape.Definition.{root_unnamed, named_at_one_place, way_up, grown_of, tree_of}
use Rattle.tree_laws.proofs.Shape.Gain.{Moves}
use Rattle.tree_laws.proofs.Shape.Operations.{Sound-tree_after}
use Rattle.tree_laws.proofs.Shape.Tree.{shape_of}
use Rattle.tree_laws.proofs.Shape.Words.{IsPlace, one_entry, not_there, Leads}
use Rattle.tree_laws.proofs.Walk.Calls.{passes_if_done}
use Rattle.tree_laws.proofs.Walk.Passed.{CanMove, can_move}
use Rattle.tree_laws.proofs.WellFormed.{IsWellFormed-tree_after, reached_well_formed}

-- what is used of a tree: its orders, that entries name nodes, and that no directory has itself
pub record IsPlain (t : Tree) : Type 0 where
  pub ordered : InOrder t
  pub names : NamesInOrder t
  pub there : (p x : ℕ) (n : List ℕ) → entry_at t p n ≡ Some x → IsSome (node_at t x)
  pub apart : (p x : ℕ) (n : List ℕ) → entry_at t p n ≡ Some x → x ≢ p

-- ---- the checks

-- a directory does not move into itself
not_into_itself : (t : Tree) (x np : ℕ) → NamesInOrder t → kind_in (node_at t np) ≡ Some kinds.Directory → (is_at_or_below t x np && is_folder (node_at t x)) ≡ false → x ≢ np
not_into_itself t x np names folder passes same =
    let directory : is_folder (node_at t x) ≡ true = is_a_folder (node_at t x) (ap (λ k. kind_in (node_at t k)) same ∙ folder) in
    let outside : is_among (at_and_below t x) np ≡ false = not_below_itself t x np passes directory in
    both_ways _ (ap (is_among (at_and_below t x)) same ∙ outside) (below_shape t names x).itself

not_same : (a b : Option ℕ) → (a ≡ b → ⊥) → (test : Bool) → is_same a b ≡ test → test ≡ false
not_same a b apart false is = refl
not_same (Some a) (Some b) apart true is = absurd (apart (ap Some (eqb-true a b is)))
not_same (Some a) None apart true is = absurd (cc is)
not_same None b apart true is = absurd (cc is)

-- ---- the tree

lost_name : (r now : ℕ) (t four after : Tree) → IsSome (node_at t r) → node_at four r ≡ node_at t r → Settles r now four after → HasLostName r now t after
lost_name r now t four after there same settles =
    elim settles.itself [
      | inl stays ↦ inl (stays.0, is_stamped now (node_at t r) (node_at after r) there (stays.1 ∙ ap (λ (found : Option Node). option_map (stamped now) found) same))
      | inr goes ↦ inr goes
    ]

-- an entry whose node does not move below itself
module _ (t : Tree) (p np x now : ℕ) (n nn : List ℕ) (plain : IsPlain t) (names : entry_at t p n ≡ Some x) (folder : kind_in (node_at t p) ≡ Some kinds.Directory) (new_folder : kind_in (node_at t np) ≡ Some kinds.Directory) (outside : x ≢ np) where
  to_new_name : entry_at t np nn ≡ None → IsRenamed p n np nn now t (moved_to p n np nn x now t)
  to_new_name free =
      let after : Tree = moved_to p n np nn x now t in
      let old : x ≢ p = plain.apart p x n names in
      let moves : Moves (shape_of t) (shape_of after) p n np nn x = shape-moved_to t p np x now n nn plain.names new_folder (λ same. not_there (entry_at t) np nn p n x same free names) in
      let frame : SameFrame t after = SameFrame-moved_to t p np x now n nn in
      record {
        inode = x;
        was = names;
        old = moves.gone;
        new = moves.here;
        third = λ q m other another. moves.rest q m other another;
        moved = is_stamped now (node_at t x) (node_at after x) (plain.there p x n names) (node_at-moved_to_same t p np x now n nn old outside);
        parents = λ y is. moved_to-touches t p np x now n nn folder new_folder old outside y is;
        replaced = λ r is. absurd (none_some (entry_at t np nn) r free is);
        others = λ y apart from to replaced. node_at-moved_to_other t p np x now n nn y apart from to;
        handles = frame.handles;
        next_inode = frame.next_inode;
        next_handle = frame.next_handle;
        block_size = frame.block_size;
        ordered = InOrder-moved_to t p np x now n nn plain.ordered;
        names = NamesInOrder-moved_to t p np x now n nn plain.names;
      }

  over_another : (r : ℕ) → entry_at t np nn ≡ Some r → x ≢ r → ((m : List ℕ) → entry_at t r m ≡ None) → IsRenamed p n np nn now t (settled r (change_node r (stamped now) (moved_to p n np nn x now t)))
  over_another r replaced apart empty =
      let four : Tree = moved_to p n np nn x now t in
      let after : Tree = settled r (change_node r (stamped now) four) in
      let old : x ≢ p = plain.apart p x n names in
      let no_parent : r ≢ p = λ same. none_some (entry_at t r n) x (empty n) (ap (λ k. entry_at t k n) same ∙ names) in
      let no_new_parent : r ≢ np = λ same. none_some (entry_at t r nn) r (empty nn) (ap (λ k. entry_at t k nn) same ∙ replaced) in
      let differs : IsPlace np nn p n → ⊥ = λ same. apart (one_entry (entry_at t) np nn p n r x same replaced names) in
      let moves : Moves (shape_of t) (shape_of four) p n np nn x = shape-moved_to t p np x now n nn plain.names new_folder differs in
      let frame : SameFrame t four = SameFrame-moved_to t p np x now n nn in
      let four_ordered : InOrder four = InOrder-moved_to t p np x now n nn plain.ordered in
      let four_names : NamesInOrder four = NamesInOrder-moved_to t p np x now n nn plain.names in
      let ends : Settles r now four after = Settles-settled r now four four_ordered four_names in
      let same : node_at four r ≡ node_at t r = node_at-moved_to_other t p np x now n nn r (λ is. apart (sym is)) no_parent no_new_parent in
      let entry : (q : ℕ) (m : List ℕ) → entry_at after q m ≡ entry_at four q m = settled_entry r now four after ends (λ m. ap (entry_in m) same ∙ empty m) in
      record {
        inode = x;
        was = names;
        old = entry p n ∙ moves.gone;
        new = entry np nn ∙ moves.here;
        third = λ q m other another. entry q m ∙ moves.rest q m other another;
        moved = is_stamped now (node_at t x) (node_at after x) (plain.there p x n names) (ends.others x apart ∙ node_at-moved_to_same t p np x now n nn old outside);
        parents = λ y is.
            let stays : y ≢ r = λ equal. elim is [ inl first ↦ no_parent (sym equal ∙ first) | inr second ↦ no_new_parent (sym equal ∙ second) ] in
            touched_on now (node_at t y) (node_at four y) (node_at after y) (moved_to-touches t p np x now n nn folder new_folder old outside y is) (ends.others y stays);
        replaced = λ y is.
            subst (λ k. HasLostName k now t after) (one_some _ r y replaced is) (lost_name r now t four after (plain.there np r nn replaced) same ends);
        others = λ y other from to kept. ends.others y (λ equal. kept (replaced ∙ ap Some (sym equal))) ∙ node_at-moved_to_other t p np x now n nn y other from to;
        handles = ends.frame.handles ∙ frame.handles;
        next_inode = ends.frame.next_inode ∙ frame.next_inode;
        next_handle = ends.frame.next_handle ∙ frame.next_handle;
        block_size = ends.frame.block_size ∙ frame.block_size;
        ordered = InOrder-settled r (change_node r (stamped now) four) (InOrder-change_node (stamped now) r four four_ordered);
        names = NamesInOrder-settled r (change_node r (stamped now) four) (NamesInOrder-stamped now r four four_names);
      }

moved_if : (t : Tree) (p : ℕ) (n : List ℕ) (np : ℕ) (nn : List ℕ) (now : ℕ) → IsPlain t → CanMove t p n np nn → (found replaced : Option ℕ) → entry_at t p n ≡ found → entry_at t np nn ≡ replaced
    → IsRenamed p n np nn now t (moved_entry p n np nn now found t)
moved_if t p n np nn now plain can None replaced names new = absurd (cc (ap entry_check (sym names) ∙ can.rename.entry))
moved_if t p n np nn now plain can (Some x) replaced names new =
    let folder : kind_in (node_at t p) ≡ Some kinds.Directory = folder_is (node_at t p) can.rename.there can.rename.folder in
    let new_folder : kind_in (node_at t np) ≡ Some kinds.Directory = folder_is (node_at t np) can.rename.new_there can.rename.new_folder in
    let outside : x ≢ np = not_into_itself t x np plain.names new_folder (moves_outside t p n np nn x can names) in
    elim replaced as (λ r. entry_at t np nn ≡ r → IsRenamed p n np nn now t (moved_entry p n np nn now (Some x) t)) [
      | None ↦ λ new. subst (λ r. IsRenamed p n np nn now t (dropped now r (moved_to p n np nn x now t))) (sym new)
          (to_new_name t p np x now n nn plain names folder new_folder outside new)
      | Some r ↦ λ new.
          let over = replaces_empty t p n np nn x r can names new in
          subst (λ r. IsRenamed p n np nn now t (dropped now r (moved_to p n np nn x now t))) (sym new)
          (over_another t p np x now n nn plain names folder new_folder outside r new over.0 over.1)
    ] new

-- a Rename whose checks pass moves one entry
pub renamed_if : (t : Tree) (pass p np now : ℕ) (n nn : List ℕ) → IsPlain t → (entry_at t np nn ≡ entry_at t p n → ⊥) → first_failure (checks t pass (ops.Rename p n np nn)) ≡ None
    → IsRenamed p n np nn now t (tree_after t pass (ops.Rename p n np nn) now)
renamed_if t pass p np now n nn plain apart passes =
    let differs : is_same (entry_at t np nn) (entry_at t p n) ≡ false = not_same (entry_at t np nn) (entry_at t p n) apart (is_same (entry_at t np nn) (entry_at t p n)) refl in
    subst (IsRenamed p n np nn now t)
    (sym (tree_at t pass now (ops.Rename p n np nn) None passes ∙ cond-false (is_same (entry_at t np nn) (entry_at t p n)) t (moved_entry p n np nn now (entry_at t p n) t) differs))
    (moved_if t p n np nn now plain (can_move t pass p n np nn passes differs) (entry_at t p n) (entry_at t np nn) refl refl)

-- and so does one that is answered Done
pub renamed_done : (t : Tree) (pass p np now : ℕ) (n nn : List ℕ) → IsPlain t → reply_to t pass (ops.Rename p n np nn) now ≡ replies.Done → (entry_at t np nn ≡ entry_at t p n → ⊥)
    → IsRenamed p n np nn now t (tree_after t pass (ops.Rename p n np nn) now)
renamed_done t pass p np now n nn plain done apart =
    renamed_if t pass p np now n nn plain apart (passes_if_done t pass now (ops.Rename p n np nn) done)

-- ---- in one tree of names

-- the way up from a directory that has itself never ends
no_way_up : (t : Tree) → HasOneTree t → (q : ℕ) (m : List ℕ) → entry_at t q m ≡ Some q → (steps y : ℕ) → y ≡ q → Leads (entry_at t) steps y → ⊥
no_way_up t tree q m names zero y same leads = root_unnamed t tree q m (names ∙ ap Some (sym same ∙ leads))
no_way_up t tree q m names (suc steps) y same leads =
    let up : leads.0 ≡ q = (named_at_one_place t tree q leads.0 q m leads.1 (holds_kind (node_at t q) m q names) names (leads.2 ∙ ap Some same)).0 in
    no_way_up t tree q m names steps leads.0 up leads.3

not_own : (t : Tree) → HasOneTree t → (p x : ℕ) (n : List ℕ) → entry_at t p n ≡ Some x → x ≢ p
not_own t tree p x n names same =
    let way = way_up t tree p (holds_kind (node_at t p) n x names) in
    no_way_up t tree p n (names ∙ ap Some same) way.0 p refl way.1

plain_of : (t : Tree) → InOrder t → NamesInOrder t → HasOneTree t → IsPlain t
plain_of t ordered names tree = record {
  ordered = ordered;
  names = names;
  there = λ p x n is. tree.entries p x n is;
  apart = λ p x n is. not_own t tree p x n is;
}

-- a Rename that is answered Done moves one entry, in one tree of names
pub renamed_one : (t : Tree) (pass now p np : ℕ) (n nn : List ℕ) → InOrder t → NamesInOrder t → HasOneTree t → reply_to t pass (ops.Rename p n np nn) now ≡ replies.Done
    → (entry_at t np nn ≡ entry_at t p n → ⊥) → IsRenamed p n np nn now t (tree_after t pass (ops.Rename p n np nn) now)
renamed_one t pass now p np n nn ordered names tree done apart = renamed_done t pass p np now n nn (plain_of t ordered names tree) done apart

-- ---- one tree

-- a Rename keeps one tree of names
pub renamed_tree : (t : Tree) (pass now p np : ℕ) (n nn : List ℕ) → InOrder t → NamesInOrder t → HandlesBelow t → HasOneTree t → HasNoOrphans t
    → HasOneTree (tree_after t pass (ops.Rename p n np nn) now)
renamed_tree t pass now p np n nn ordered names below tree files =
    tree_of (tree_after t pass (ops.Rename p n np nn) now)
    (Sound-tree_after t pass now (ops.Rename p n np nn) (record { ordered = ordered; names = names; below = below; grown = grown_of t ordered names tree files }))
    (NamesAreLegal-tree_after t pass now (ops.Rename p n np nn) ordered names (λ q x m is. tree.names q x m is))

-- ---- the trees that calls lead to

-- both in every tree that calls lead to
pub reached_renamed : (block_size time : ℕ) (calls : List Request) (t : Tree) (pass now p np : ℕ) (n nn : List ℕ) → t ≡ tree_after_all (made_tree block_size time) calls
    → reply_to t pass (ops.Rename p n np nn) now ≡ replies.Done → (entry_at t np nn ≡ entry_at t p n → ⊥)
    → IsRenamed p n np nn now t (tree_after t pass (ops.Rename p n np nn) now) × HasOneTree (tree_after t pass (ops.Rename p n np nn) now)
reached_renamed block_size time calls t pass now p np n nn is done apart =
    let well : IsWellFormed t = subst IsWellFormed (sym is) (reached_well_formed block_size time calls) in
    (renamed_one t pass now p np n nn well.nodes well.names well.tree done apart, (IsWellFormed-tree_after t pass now (ops.Rename p n np nn) well).tree)
