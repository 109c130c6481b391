use Rattle.std.proofs.Common.{◌≡◌, Some}
use Rattle.s3_rows.specs.Tables.{Tables}
use Rattle.s3_rows.specs.Batches.{tables_after}
use Rattle.core_model.specs.Safe.{with_new_objects}
use Rattle.file_ops.proofs.objects.drawing.Given as goal

-- so many objects are drawn
abbrev pub invariant-loop-n : goal.invariant-loop-n
invariant-loop-n l = record {
  first : l.first ≡ l.fn.params.next_object;
  drawn : (t : Tables) → t.params ≡ Some l.fn.params → tables_after l.batch t ≡ with_new_objects l.n t;
}
