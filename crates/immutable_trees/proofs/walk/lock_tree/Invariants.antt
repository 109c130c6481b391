use Rattle.std.proofs.Common.{◌≡◌, ◌≤◌, Some}
use Rattle.std.specs.Prelude.{IsTrue}
use Rattle.plain_tree.specs.Tree.{Tree}
use Rattle.plain_tree.specs.WellFormed.{IsWellFormed}
use Rattle.s3_rows.specs.Selections.{inode_at}
use Rattle.s3_rows.specs.Told.{IfTold}
use Rattle.s3_rows.specs.Validity.{IsValid, is_directory}
use Rattle.tree_rows.specs.Shapes.{Represents}
use Rattle.immutable_trees.specs.Levels.{HasCome, steps_left}
use Rattle.immutable_trees.proofs.walk.lock_tree.Given as goal

-- what the walk has come to with the levels that are left
abbrev pub invariant-levels : goal.invariant-levels
invariant-levels g l = record {
  told : g.K.Keeper.told l.keeper ≡ g.K.Keeper.told l.fn.keeper;
  later : g.K.Keeper.faults l.fn.keeper ≤ g.K.Keeper.faults l.keeper;
  come : IfTold (g.K.Keeper.told l.fn.keeper) (λ t. IsValid t → (whole : Tree) → Represents t whole → IsWellFormed whole
      → inode_at t l.top.id ≡ Some l.top → IsTrue (is_directory l.top.kind) → HasCome t whole l.top.id l.batch l.levels.items);
}

abbrev pub decreases-levels : goal.decreases-levels
decreases-levels g l = steps_left l.batch l.levels.items
