-- Well-formed trees stay well formed.
use Rattle.std.proofs.Common.{◌≡◌, ◌<◌, ℕ, ◌^◌, List, Option, None, Some, refl, ap, ◌∙◌, subst, arith}
use Rattle.op_frames.specs.Replay.{Request}
use Rattle.op_frames.specs.declared.operation.Op.{Op}
use Rattle.plain_tree.specs.Calls.{tree_after_all}
use Rattle.plain_tree.specs.Checks.{first_failure, name_check}
use Rattle.plain_tree.specs.Operations.{checks, effect, tree_after}
use Rattle.plain_tree.specs.Tree.{Tree, lost_and_found, made_tree}
use Rattle.plain_tree.specs.WellFormed.{IsWellFormed, HasTimes}
use Rattle.tree_laws.proofs.Name.Legal.{NamesAreLegal, NamesAreLegal-tree_after}
use Rattle.tree_laws.proofs.Name.Order.{AttributesInOrder-tree_after}
use Rattle.tree_laws.proofs.Node.Limits.{IsWithinRules-tree_after, HaveModes-tree_after}
use Rattle.tree_laws.proofs.Node.Order.{HandlesInOrder-tree_after, below_in_order}
use Rattle.tree_laws.proofs.Shape.Definition.{grown_of, tree_of, orphans_of}
use Rattle.tree_laws.proofs.Shape.Made.{made_entry, made_sound}
use Rattle.tree_laws.proofs.Shape.Operations.{Sound-tree_after}
use Rattle.tree_laws.proofs.Shape.Steps.{Sound}
use Rattle.tree_laws.proofs.Walk.Calls.{kept-tree_after_all}

-- a well-formed tree is one tree of names without orphans
pub sound_of : (t : Tree) → IsWellFormed t → Sound t
sound_of t well = record {
  ordered = well.nodes;
  names = well.names;
  below = below_in_order t well.handles;
  grown = grown_of t well.nodes well.names well.tree well.orphans;
}

-- every operation keeps a tree well formed
pub IsWellFormed-tree_after : (t : Tree) (pass now : ℕ) (op : Op) → IsWellFormed t → IsWellFormed (tree_after t pass op now)
IsWellFormed-tree_after t pass now op well =
    let after : Tree = tree_after t pass op now in
    let sound : Sound after = Sound-tree_after t pass now op (sound_of t well) in
    let legal : NamesAreLegal after = NamesAreLegal-tree_after t pass now op well.nodes well.names (λ p x n is. well.tree.names p x n is) in
    record {
      nodes = sound.ordered;
      handles = HandlesInOrder-tree_after t pass now op well.handles;
      names = sound.names;
      attributes = AttributesInOrder-tree_after t pass now op well.attributes;
      tree = tree_of after sound legal;
      orphans = orphans_of after sound;
      rules = IsWithinRules-tree_after t pass now op well.rules;
      modes = HaveModes-tree_after t pass now op well.modes;
    }

-- in the words of an operation whose checks all pass
pub IsWellFormed-effect : (t : Tree) (pass now : ℕ) (op : Op) → IsWellFormed t → first_failure (checks t pass op) ≡ None → IsWellFormed (effect t pass op now)
unfolding tree_after
IsWellFormed-effect t pass now op well passes =
    subst (λ (found : Option ℕ). IsWellFormed (elim found [ Some errno ↦ t | None ↦ effect t pass op now ])) passes
    (IsWellFormed-tree_after t pass now op well)

-- and so do any calls
pub IsWellFormed-tree_after_all : (t : Tree) (calls : List Request) → IsWellFormed t → IsWellFormed (tree_after_all t calls)
IsWellFormed-tree_after_all t calls well = kept-tree_after_all IsWellFormed IsWellFormed-tree_after t calls well

-- ---- the tree that was just made

pub IsWellFormed-made_tree : (block_size time : ℕ) → IsWellFormed (made_tree block_size time)
IsWellFormed-made_tree block_size time =
    let sound : Sound (made_tree block_size time) = made_sound block_size time in
    let lost : name_check lost_and_found ≡ None = refl in
    record {
      nodes = sound.ordered;
      handles = omega arith;
      names = sound.names;
      attributes = (_, (_, _));
      tree = tree_of (made_tree block_size time) sound (λ p x n is. ap name_check (made_entry block_size time p x n is).1 ∙ lost);
      orphans = orphans_of (made_tree block_size time) sound;
      rules = record { nodes = (_, _, (_, _, _)); next_inode = omega arith; next_handle = omega arith };
      modes = (omega arith, (omega arith, _));
    }

pub HasTimes-made_tree : (block_size time : ℕ) → time < 2 ^ 62 → HasTimes (made_tree block_size time)
HasTimes-made_tree block_size time early = (early, early, (early, early, _))

-- every tree that calls lead to
pub reached_well_formed : (block_size time : ℕ) (calls : List Request) → IsWellFormed (tree_after_all (made_tree block_size time) calls)
reached_well_formed block_size time calls = IsWellFormed-tree_after_all (made_tree block_size time) calls (IsWellFormed-made_tree block_size time)

pub reached_sound : (block_size time : ℕ) (calls : List Request) → Sound (tree_after_all (made_tree block_size time) calls)
reached_sound block_size time calls = sound_of (tree_after_all (made_tree block_size time) calls) (reached_well_formed block_size time calls)
