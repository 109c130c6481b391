use Rattle.std.proofs.Common.{◌≡◌, ◌≤◌}
use Rattle.std.specs.Prelude.{IsTrue}
use Rattle.plain_tree.specs.Tree.{Tree}
use Rattle.plain_tree.specs.WellFormed.{IsWellFormed}
use Rattle.s3_rows.specs.Told.{IfTold}
use Rattle.s3_rows.specs.Validity.{IsValid, has_inode, is_directory}
use Rattle.tree_rows.specs.Shapes.{Represents}
use Rattle.dir_ops.proofs.Above.{IsAbove}
use Rattle.dir_ops.proofs.upward.lies_within.Given as goal

-- the keeper tells what it did, and the current directory is so many steps above the first
abbrev pub invariant-loop-step : goal.invariant-loop-step
invariant-loop-step g l = record {
  told : g.K.Keeper.told l.keeper ≡ g.K.Keeper.told l.fn.keeper;
  later : g.K.Keeper.faults l.fn.keeper ≤ g.K.Keeper.faults l.keeper;
  above : IfTold (g.K.Keeper.told l.fn.keeper) (λ t. IsValid t → (whole : Tree) → Represents t whole → IsWellFormed whole
      → IsTrue (has_inode is_directory t l.directory) → IsAbove t whole l.top l.directory l.current l._step);
}
