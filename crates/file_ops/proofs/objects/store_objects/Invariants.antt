use Rattle.std.proofs.Common.{◌≤◌}
use Rattle.s3_devices.specs.Told.{Becomes}
use Rattle.file_ops.proofs.PutObjects.{ArePartlyPut}
use Rattle.file_ops.proofs.objects.store_objects.Given as goal

-- what the places that are left make of the objects now is what all make of the first
abbrev pub invariant-loop-i : goal.invariant-loop-i
invariant-loop-i g l = record {
  later : g.L.Link.faults l.fn.link ≤ g.L.Link.faults l.link;
  put : Becomes (ArePartlyPut l.blocks l.places l.i) (g.L.Link.told l.fn.link) (g.L.Link.told l.link);
}
