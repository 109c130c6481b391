-- One tree of names without orphans, through a rename.
use Rattle.std.proofs.Common.{◌≡◌, ◌≢◌, ℕ, List, Bool, true, false, Option, None, Some, refl, sym, ap, ◌∙◌, inl, inr, subst}
use Rattle.std.proofs.lemmas.Bool.{and_cases, eqb-true, eq-eqb, ne_eqb, both_ways}
use Rattle.std.specs.Prelude.{◌==◌, ◌&&◌, unwrap_or, option_and_then}
use Rattle.s3_base.specs.declared.node_kind.Kind.{Kind}
use Rattle.s3_base.specs.declared.node_kind.Kind.TheVariants as kinds
use Rattle.plain_tree.specs.Below.{is_among, at_and_below, is_at_or_below}
use Rattle.plain_tree.specs.Checks.{keep_check, entry_check, empty_check}
use Rattle.plain_tree.specs.Entries.{is_folder, entry_at, drop_entry}
use Rattle.plain_tree.specs.Subtrees.{is_same, dropped, moved_entry}
use Rattle.plain_tree.specs.Tree.{Tree, node_at}
use Rattle.tree_laws.proofs.Node.Kind.{file_no_folder, kind_in, none_some, is_a_folder, folder_is, empty_is}
use Rattle.tree_laws.proofs.Rename.Nodes.{InOrder-moved_to, NamesInOrder-moved_to, shape-moved_to, moved_to}
use Rattle.tree_laws.proofs.Shape.Below.{below_shape}
use Rattle.tree_laws.proofs.Shape.Gain.{IsBelow, Moves, Grown-moved}
use Rattle.tree_laws.proofs.Shape.Loss.{Unlinks, Grown-unlinked}
use Rattle.tree_laws.proofs.Shape.Steps.{Sound, keep_is, Grown-stamped_settled}
use Rattle.tree_laws.proofs.Shape.Tree.{shape_of, shape-drop_entry}
use Rattle.tree_laws.proofs.Shape.Words.{Grown, NoneGoes, Only, IsPlace, one_entry, not_there}
use Rattle.tree_laws.proofs.Walk.Passed.{CanMove}

-- what lies at and below the node that moves, and where it goes is not there
record Branch (t : Tree) (x np : ℕ) : Type 0 where
  pub among : ℕ → Bool
  pub below : IsBelow (shape_of t) x among
  pub outside : among np ≡ false

alone : (t : Tree) (x np : ℕ) → Sound t → (kind_in (node_at t x) ≡ Some kinds.Directory → ⊥) → kind_in (node_at t np) ≡ Some kinds.Directory → Branch t x np
alone t x np sound file folder = record {
  among = λ y. y == x;
  below = record {
    itself = eq-eqb x x refl;
    down = λ q y m is names. absurd (file (ap (λ k. kind_in (node_at t k)) (sym (eqb-true q x is)) ∙ sound.grown.holds q y m names));
    up = λ y is. inl (eqb-true y x is);
  };
  outside = ne_eqb np x (λ same. file (ap (λ k. kind_in (node_at t k)) (sym same) ∙ folder));
}

-- a directory does not move to where it is, or below it
pub not_below_itself : (t : Tree) (x np : ℕ) → (is_at_or_below t x np && is_folder (node_at t x)) ≡ false → is_folder (node_at t x) ≡ true → is_at_or_below t x np ≡ false
not_below_itself t x np passes folder = elim (and_cases (is_at_or_below t x np) (is_folder (node_at t x)) passes) [ inl outside ↦ outside | inr file ↦ absurd (both_ways _ file folder) ]

-- what moves is not put below itself, and what it replaces is another node without entries
pub moves_outside : (t : Tree) (p : ℕ) (n : List ℕ) (np : ℕ) (nn : List ℕ) (x : ℕ) → CanMove t p n np nn → entry_at t p n ≡ Some x → (is_at_or_below t x np && is_folder (node_at t x)) ≡ false
moves_outside t p n np nn x can names = ap (λ o. is_at_or_below t (unwrap_or o 0) np && is_folder (option_and_then (node_at t) o)) (sym names) ∙ can.outside

pub replaces_empty : (t : Tree) (p : ℕ) (n : List ℕ) (np : ℕ) (nn : List ℕ) (x r : ℕ) → CanMove t p n np nn → entry_at t p n ≡ Some x → entry_at t np nn ≡ Some r
    → (x ≢ r) × ((m : List ℕ) → entry_at t r m ≡ None)
replaces_empty t p n np nn x r can names new =
    let differs : (r == x) ≡ false = ap (λ o. is_same o (Some x)) (sym new) ∙ ap (is_same (entry_at t np nn)) (sym names) ∙ can.differs in
    (λ same. both_ways _ differs (eq-eqb r x (sym same)), empty_is (node_at t r) (ap (λ o. empty_check (option_and_then (node_at t) o)) (sym new) ∙ can.empty))

branch_of : (t : Tree) (x np : ℕ) (k : Kind) → Sound t → kind_in (node_at t x) ≡ Some k → kind_in (node_at t np) ≡ Some kinds.Directory
    → (is_at_or_below t x np && is_folder (node_at t x)) ≡ false → Branch t x np
branch_of t x np kinds.Directory sound kind folder passes = record {
  among = is_among (at_and_below t x);
  below = below_shape t sound.names x;
  outside = not_below_itself t x np passes (is_a_folder (node_at t x) kind);
}
branch_of t x np kinds.Regular sound kind folder passes =
    alone t x np sound (λ is. file_no_folder _ kind is) folder
branch_of t x np kinds.Link sound kind folder passes =
    alone t x np sound (λ is.
    let both_ways : Some kinds.Link ≡ Some kinds.Directory = sym kind ∙ is in
    cc both_ways) folder

-- ---- a rename

-- an entry whose node does not move below itself
module _ (t : Tree) (p np x now : ℕ) (n nn : List ℕ) (sound : Sound t) (branch : Branch t x np) (names : entry_at t p n ≡ Some x) (folder : kind_in (node_at t np) ≡ Some kinds.Directory) (keep : keep_check p n ≡ None) where
  to_a_new_name : entry_at t np nn ≡ None → Grown NoneGoes (shape_of (moved_to p n np nn x now t))
  to_a_new_name free =
      Grown-moved NoneGoes (shape_of t) (shape_of (moved_to p n np nn x now t)) p np x n nn branch.among
      (shape-moved_to t p np x now n nn sound.names folder (λ same. not_there (entry_at t) np nn p n x same free names))
      (record {
        names = names;
        free = free;
        folder = folder;
        stays = λ none. none;
        parent_stays = λ none. none;
        other = keep_is p n keep;
        below = branch.below;
        outside = branch.outside;
      })
      sound.grown

  -- what lies below the node that moves is as it was where another entry has gone
  still_below : IsBelow (shape_of (drop_entry np nn now t)) x branch.among
  still_below =
      let drops : Unlinks (shape_of t) (shape_of (drop_entry np nn now t)) np nn = shape-drop_entry np nn now t sound.names in
      let differs : (q : ℕ) (m : List ℕ) → branch.among q ≡ true → IsPlace np nn q m → ⊥ = λ q m within same.
      both_ways _ (ap branch.among same.0 ∙ branch.outside) within in
      record {
        itself = branch.below.itself;
        down = λ q y m within is. branch.below.down q y m within (sym (drops.rest q m (differs q m within)) ∙ is);
        up = λ y within.
            elim (branch.below.up y within) [
              | inl same ↦ inl same
              | inr from ↦ inr (from.0, from.1, from.2, drops.rest from.0 from.1 (differs from.0 from.1 from.2) ∙ from.3)
            ];
      }

  over_another : (r : ℕ) → entry_at t np nn ≡ Some r → x ≢ r → keep_check np nn ≡ None → ((m : List ℕ) → entry_at t r m ≡ None) → Grown (Only r) (shape_of (moved_to p n np nn x now t))
  over_another r replaced apart new_keep empty =
      let differs : IsPlace np nn p n → ⊥ = λ same. apart (one_entry (entry_at t) np nn p n r x same replaced names) in
      let drops : Unlinks (shape_of t) (shape_of (drop_entry np nn now t)) np nn = shape-drop_entry np nn now t sound.names in
      let moves : Moves (shape_of t) (shape_of (moved_to p n np nn x now t)) p n np nn x = shape-moved_to t p np x now n nn sound.names folder differs in
      Grown-moved (Only r) (shape_of (drop_entry np nn now t)) (shape_of (moved_to p n np nn x now t)) p np x n nn branch.among
      (record {
        kind = λ y. moves.kind y ∙ sym (drops.kind y);
        opened = λ y. moves.opened y ∙ sym (drops.opened y);
        here = moves.here;
        gone = moves.gone;
        rest = λ q m old new. moves.rest q m old new ∙ sym (drops.rest q m new);
      })
      (record {
        names = drops.rest p n differs ∙ names;
        free = drops.gone;
        folder = drops.kind np ∙ folder;
        stays = apart;
        parent_stays = λ same. none_some (entry_at t r nn) r (empty nn) (ap (λ k. entry_at t k nn) (sym same) ∙ replaced);
        other = keep_is p n keep;
        below = still_below;
        outside = branch.outside;
      })
      (Grown-unlinked (shape_of t) (shape_of (drop_entry np nn now t)) np r nn drops sound.grown replaced (keep_is np nn new_keep) empty)

renamed_if : (t : Tree) (p : ℕ) (n : List ℕ) (np : ℕ) (nn : List ℕ) (now : ℕ) → Sound t → CanMove t p n np nn → (found replaced : Option ℕ) → entry_at t p n ≡ found → entry_at t np nn ≡ replaced
    → Grown NoneGoes (shape_of (moved_entry p n np nn now found t))
renamed_if t p n np nn now sound can None replaced names new = absurd (cc (ap entry_check (sym names) ∙ can.rename.entry))
renamed_if t p n np nn now sound can (Some x) replaced names new =
    let folder : kind_in (node_at t np) ≡ Some kinds.Directory = folder_is (node_at t np) can.rename.new_there can.rename.new_folder in
    let node = sound.grown.there p x n names in
    let branch : Branch t x np = branch_of t x np node.0 sound node.1 folder (moves_outside t p n np nn x can names) in
    elim replaced as (λ r. entry_at t np nn ≡ r → Grown NoneGoes (shape_of (moved_entry p n np nn now (Some x) t))) [
      | None ↦ λ new. subst (λ r. Grown NoneGoes (shape_of (dropped now r (moved_to p n np nn x now t)))) (sym new)
          (to_a_new_name t p np x now n nn sound branch names folder can.rename.kept new)
      | Some r ↦ λ new.
          let over = replaces_empty t p n np nn x r can names new in
          subst (λ r. Grown NoneGoes (shape_of (dropped now r (moved_to p n np nn x now t)))) (sym new)
          (Grown-stamped_settled r now (moved_to p n np nn x now t) (InOrder-moved_to t p np x now n nn sound.ordered) (NamesInOrder-moved_to t p np x now n nn sound.names)
          (over_another t p np x now n nn sound branch names folder can.rename.kept r new over.0 can.rename.new_kept over.1))
    ] new

-- a Rename keeps one tree of names
pub Grown-moved_entry : (t : Tree) (p : ℕ) (n : List ℕ) (np : ℕ) (nn : List ℕ) (now : ℕ) → Sound t → CanMove t p n np nn → Grown NoneGoes (shape_of (moved_entry p n np nn now (entry_at t p n) t))
Grown-moved_entry t p n np nn now sound can = renamed_if t p n np nn now sound can (entry_at t p n) (entry_at t np nn) refl refl
