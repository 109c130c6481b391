use Rattle.std.proofs.Common.{◌≡◌, ◌≤◌}
use Rattle.std.specs.Prelude.{All}
use Rattle.s3_rows.specs.Rows.{IsId, IsNext}
use Rattle.s3_devices.specs.Objects.{AreOrdered}
use Rattle.s3_devices.specs.Told.{IfTold}
use Rattle.metadata_backup.specs.Survey.{IsReadTo}
use Rattle.metadata_backup.proofs.survey.read_keys.Given as goal

-- the keys up to one are read, and the link tells what it told
abbrev pub invariant-loop-page : goal.invariant-loop-page
invariant-loop-page g l = record {
  ids : All IsId l.found.generations;
  next : IsNext l.found.next_object;
  read : IfTold (g.L.Link.told l.fn.link) (λ o. AreOrdered o → IsReadTo l.fn.start l.after l.found.generations l.found.next_object o);
  same : g.L.Link.told l.link ≡ g.L.Link.told l.fn.link;
  later : g.L.Link.faults l.fn.link ≤ g.L.Link.faults l.link;
}
