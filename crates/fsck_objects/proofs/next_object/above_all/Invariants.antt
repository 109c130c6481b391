use Rattle.std.proofs.Common.{◌≡◌, ◌≤◌, ◌^◌, max, drop}
use Rattle.std.specs.List.{filter_map}
use Rattle.fsck_findings.specs.Work.{above}
use Rattle.fsck_objects.proofs.next_object.above_all.Given as goal

abbrev pub invariant-loop-item : goal.invariant-loop-item
invariant-loop-item g l = record {
  above : max l.free (above (filter_map g.T.NamesObject.object (drop l.item-index l.items))) ≡ max l.least (above (filter_map g.T.NamesObject.object l.items));
  small : l.free ≤ 2 ^ 62;
  positive : l.least ≤ l.free;
}
