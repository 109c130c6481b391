use Rattle.std.proofs.Common.{◌≡◌, ◌≤◌}
use Rattle.s3_rows.specs.Tables.{IsOrdered}
use Rattle.s3_rows.specs.Told.{IfTold}
use Rattle.ref_counts.specs.Names.{StaysUnique}
use Rattle.tree_copy.specs.CopiedNames.{AreAttrNames}
use Rattle.tree_copy.proofs.NextAttrs.{IsLeft}
use Rattle.tree_copy.proofs.names.copy_attrs.Given as goal

-- the attributes behind the last name are left
abbrev pub invariant-attrs : goal.invariant-attrs
invariant-attrs g l = record {
  told : g.K.Keeper.told l.keeper ≡ g.K.Keeper.told l.fn.keeper;
  later : g.K.Keeper.faults l.fn.keeper ≤ g.K.Keeper.faults l.keeper;
  left : IfTold (g.K.Keeper.told l.fn.keeper) (λ t. IsOrdered t → StaysUnique l.fn.batch t → AreAttrNames t l.node → IsLeft t l.node l.copy l.last l.fn.batch l.batch);
}
