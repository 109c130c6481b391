use Rattle.std.proofs.Common.{◌≡◌, ◌≤◌}
use Rattle.std.specs.Prelude.{codes}
use Rattle.s3_devices.specs.Objects.{AreOrdered}
use Rattle.s3_devices.specs.Told.{IfTold}
use Rattle.fsck_run.specs.Listing.{IsReadTo}
use Rattle.fsck_run.proofs.listing.own_keys.Given as goal

-- the keys up to one are read, and the link tells what it told
abbrev pub invariant-loop-page : goal.invariant-loop-page
invariant-loop-page g l = record {
  read : IfTold (g.L.Link.told l.fn.link) (λ o. AreOrdered o → IsReadTo (codes "s3ql_") l.after l.keys o);
  same : g.L.Link.told l.link ≡ g.L.Link.told l.fn.link;
  later : g.L.Link.faults l.fn.link ≤ g.L.Link.faults l.link;
}
