-- What moves is neither the directory that it leaves nor the one that it comes to, and what it replaces is none of the three.
use Rattle.std.proofs.Common.{◌≡◌, ◌≢◌, ℕ, zero, suc, List, true, None, Some, sym, ap, ◌∙◌, subst}
use Rattle.std.proofs.lemmas.Bool.{both_ways}
use Rattle.s3_base.specs.declared.node_kind.Kind.TheVariants as kinds
use Rattle.plain_tree.specs.Below.{is_at_or_below}
use Rattle.plain_tree.specs.Entries.{is_folder, entry_at}
use Rattle.plain_tree.specs.Names.{NamesInOrder}
use Rattle.plain_tree.specs.Tree.{Tree, node_at}
use Rattle.plain_tree.specs.WellFormed.{LeadsToRoot, HasOneTree}
use Rattle.tree_laws.proofs.Node.Kind.{kind_in, folder_is, holds_kind, is_a_folder, none_some}
use Rattle.tree_laws.proofs.Rename.Shape.{moves_outside, not_below_itself, replaces_empty}
use Rattle.tree_laws.proofs.Shape.Below.{below_shape}
use Rattle.tree_laws.proofs.Shape.Definition.{named_at_one_place, root_unnamed}
use Rattle.tree_laws.proofs.Walk.Passed.{CanMove}

-- no directory has itself
pub not_in_itself : (t : Tree) → HasOneTree t → (p : ℕ) (n : List ℕ) → entry_at t p n ≡ Some p → ⊥
not_in_itself t tree p n is =
    let folder : kind_in (node_at t p) ≡ Some kinds.Directory = holds_kind (node_at t p) n p is in
    let way = tree.leads p (is_a_folder (node_at t p) folder) in
    never way.0 p way.1 is
  where
    never : (steps x : ℕ) → LeadsToRoot t steps x → entry_at t x n ≡ Some x → ⊥
    never zero x leads own = root_unnamed t tree x n (own ∙ ap Some leads)
    never (suc steps) x leads own =
        let there : kind_in (node_at t x) ≡ Some kinds.Directory = holds_kind (node_at t x) n x own in
        let one = named_at_one_place t tree x leads.0 x n leads.1 there own leads.2 in
        never steps leads.0 leads.3 (subst (λ y. entry_at t y n ≡ Some y) (sym one.0) own)

module _ (t : Tree) (names : NamesInOrder t) (tree : HasOneTree t) (p np : ℕ) (n nn : List ℕ) (can : CanMove t p n np nn) (x : ℕ) (is : entry_at t p n ≡ Some x) where
  pub moves_from_another : x ≢ p
  moves_from_another same = not_in_itself t tree p n (is ∙ ap Some same)

  pub moves_to_another : x ≢ np
  moves_to_another same =
      let folder : is_folder (node_at t x) ≡ true =
      ap (λ k. is_folder (node_at t k)) same ∙ is_a_folder (node_at t np) (folder_is (node_at t np) can.rename.new_there can.rename.new_folder) in
      let below = below_shape t names x in
      both_ways _ (not_below_itself t x np (moves_outside t p n np nn x can is) folder) (subst (λ k. is_at_or_below t x k ≡ true) same below.itself)

  -- what goes has no entry, so it is no directory that has one
  module _ (r : ℕ) (new : entry_at t np nn ≡ Some r) where
    pub replaces_no_parent : r ≢ p
    replaces_no_parent same =
        none_some (entry_at t p n) x (subst (λ k. entry_at t k n ≡ None) same ((replaces_empty t p n np nn x r can is new).1 n)) is

    pub replaces_no_new_parent : r ≢ np
    replaces_no_new_parent same =
        none_some (entry_at t np nn) r (subst (λ k. entry_at t k nn ≡ None) same ((replaces_empty t p n np nn x r can is new).1 nn)) new
