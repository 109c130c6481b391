use Rattle.std.proofs.Common.{◌≡◌, ◌≤◌, List}
use Rattle.std.specs.Prelude.{ℕ, reverse}
use Rattle.plain_tree.specs.Tree.{Tree}
use Rattle.s3_rows.specs.Told.{IfTold}
use Rattle.immutable_trees.specs.Branches.{CanRemove, HasTaken}
use Rattle.immutable_trees.proofs.uproot.take_tree.Given as goal

-- what the walk has taken, with the directories that it is in
abbrev pub invariant-turns : goal.invariant-turns
invariant-turns g l = record {
  told : g.K.Keeper.told l.keeper ≡ g.K.Keeper.told l.fn.keeper;
  later : g.K.Keeper.faults l.fn.keeper ≤ g.K.Keeper.faults l.keeper;
  taken : IfTold (g.K.Keeper.told l.fn.keeper) (λ t. (whole : Tree) (parent : ℕ) (name : List ℕ) → CanRemove t whole parent l.top name l.handles
      → HasTaken t whole l.top l.now l.batch (reverse l.branches.items));
}
