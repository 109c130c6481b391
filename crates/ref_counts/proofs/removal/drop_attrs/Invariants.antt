use Rattle.std.proofs.Common.{◌≡◌, ◌≤◌, ◌+◌, ◌-◌, ◌^◌, ◌++◌, cond}
use Rattle.std.specs.Prelude.{◌==◌}
use Rattle.s3_rows.specs.Tables.{IsOrdered}
use Rattle.s3_rows.specs.Batches.{tables_after}
use Rattle.s3_rows.specs.Told.{IfTold}
use Rattle.ref_counts.specs.Removals.{attrs_dropped, attrs_of}
use Rattle.ref_counts.proofs.AttrKeys.{IsJustBefore, attrs_past}
use Rattle.ref_counts.proofs.removal.drop_attrs.Given as goal

-- what is added for the attributes past the last key makes of the batch what is added for all makes of the first
abbrev pub invariant-attrs : goal.invariant-attrs
invariant-attrs g l = record {
  told : g.K.Keeper.told l.keeper ≡ g.K.Keeper.told l.fn.keeper;
  later : g.K.Keeper.faults l.fn.keeper ≤ g.K.Keeper.faults l.keeper;
  before : IsJustBefore l.inode l.last.0 l.last.1;
  partly :
      IfTold (g.K.Keeper.told l.fn.keeper) (λ t. IsOrdered t
      → l.batch ++ attrs_dropped (attrs_past t l.inode l.last.0 l.last.1) (tables_after l.batch t)
      ≡ l.fn.batch ++ attrs_dropped (attrs_of t l.inode) (tables_after l.fn.batch t));
}

abbrev pub decreases-attrs : goal.decreases-attrs
decreases-attrs g l = cond (l.last.0 == l.inode) (2 ^ 64 - l.last.1) (2 ^ 64 + 1)
