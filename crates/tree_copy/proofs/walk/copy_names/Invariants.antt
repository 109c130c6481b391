use Rattle.std.proofs.Common.{◌≡◌, ◌≤◌}
use Rattle.std.specs.Prelude.{ℕ, reverse}
use Rattle.plain_tree.specs.Tree.{Tree}
use Rattle.s3_rows.specs.Told.{IfTold}
use Rattle.tree_copy.specs.CopyPlans.{IsCopyable}
use Rattle.tree_copy.specs.CopyWalks.{GoesOn}
use Rattle.tree_copy.proofs.walk.copy_names.Given as goal

-- how far the walk has come
abbrev pub invariant-levels : goal.invariant-levels
invariant-levels g l = record {
  told : g.K.Keeper.told l.keeper ≡ g.K.Keeper.told l.fn.keeper;
  later : g.K.Keeper.faults l.fn.keeper ≤ g.K.Keeper.faults l.keeper;
  goes : IfTold (g.K.Keeper.told l.fn.keeper) (λ t. (whole : Tree) (source parent : ℕ) → IsCopyable t whole source parent l.name l.top l.directory l.params
      → GoesOn t whole l.now l.top l.directory l.name l.copied (reverse l.levels.items));
}
