-- Whether a directory lies at or below another, told by the directories above it.
use Rattle.std.proofs.Common.{◌≡◌, ℕ, List, Bool, true, false, Some, refl, sym, ap, ◌∙◌, inl, inr}
use Rattle.std.proofs.lemmas.Bool.{both_ways, eq-eqb}
use Rattle.std.specs.Prelude.{◌==◌}
use Rattle.s3_base.specs.Numbers.{root}
use Rattle.s3_base.specs.declared.node_kind.Kind.TheVariants as kinds
use Rattle.plain_tree.specs.Below.{at_and_below, is_among, is_at_or_below}
use Rattle.plain_tree.specs.Entries.{entry_at, is_folder}
use Rattle.plain_tree.specs.Tree.{Tree, node_at}
use Rattle.plain_tree.specs.WellFormed.{IsWellFormed}
use Rattle.tree_laws.proofs.Node.Kind.{folder_kind, kind_in}
use Rattle.tree_laws.proofs.Shape.Below.{below_shape}
use Rattle.tree_laws.proofs.Shape.Definition.{named_at_one_place, root_unnamed}
use Rattle.tree_laws.proofs.Shape.Gain.{IsBelow}
use Rattle.tree_laws.proofs.Shape.Tree.{shape_of}

module _ (t : Tree) (well : IsWellFormed t) (top : ℕ) where
  below : IsBelow (shape_of t) top (is_among (at_and_below t top))
  below = below_shape t well.names top

  pub is_at_or_below-itself : is_at_or_below t top top ≡ true
  is_at_or_below-itself = below.itself

  -- nothing is above the root
  pub is_at_or_below-root : (root == top) ≡ false → is_at_or_below t top root ≡ false
  is_at_or_below-root other = by_case (is_at_or_below t top root) refl
    where
      by_case : (b : Bool) → is_at_or_below t top root ≡ b → b ≡ false
      by_case true is =
          elim (below.up root is) [
            | inl same ↦ absurd (both_ways _ other (eq-eqb root top same))
            | inr from ↦ absurd (root_unnamed t well.tree from.0 from.1 from.3)
          ]
      by_case false is = refl

  -- a directory lies below all that its parent lies at or below, and at or below no other but itself
  pub is_at_or_below-parent : (x p : ℕ) (n : List ℕ) → is_folder (node_at t x) ≡ true → entry_at t p n ≡ Some x → (x == top) ≡ false
      → is_at_or_below t top x ≡ is_at_or_below t top p
  is_at_or_below-parent x p n folder names other = by_case (is_at_or_below t top x) refl (is_at_or_below t top p) refl
    where
      kind : kind_in (node_at t x) ≡ Some kinds.Directory
      kind = folder_kind (node_at t x) folder

      by_case : (a : Bool) → is_at_or_below t top x ≡ a → (b : Bool) → is_at_or_below t top p ≡ b → a ≡ b
      by_case true is true above = refl
      by_case true is false above =
          elim (below.up x is) [
            | inl same ↦ absurd (both_ways _ other (eq-eqb x top same))
            | inr from ↦
                let one = named_at_one_place t well.tree p from.0 x n from.1 kind names from.3 in
                absurd (both_ways _ above (ap (is_at_or_below t top) (sym one.0) ∙ from.2))
          ]
      by_case false is true above = absurd (both_ways _ is (below.down p x n above names))
      by_case false is false above = refl
