use Rattle.std.proofs.Common.{◌≡◌, ◌+◌, max, [], List, drop, ap, ◌∙◌, sym, arith}
use Rattle.std.proofs.Math.ListN.{drop_of_length-le}
use Rattle.std.specs.List.{filter_map}
use Rattle.fsck_findings.specs.Work.{above}
use Rattle.fsck_findings.proofs.Looked.{drop_at}
use Rattle.fsck_objects.proofs.Gathered.{above-filter_map}
use Rattle.fsck_objects.proofs.next_object.above_all.Goals as goal

pub loop-item-preserved : goal.loop-item-preserved
loop-item-preserved g c =
    let object = g.T.NamesObject.object in
    let rest = drop (c.loop-item.item-index + 1) c.args.items.now in
    let here = ap (λ (left : List g.row.T.Denot). above (filter_map object left)) (drop_at c.args.items.now c.loop-item.item-index c.item-item.result c.loop-item-test.true c.item-item.is)
    ∙ above-filter_map object c.item-item.result rest in
    record {
      above = omega (arith, here, c.above_one-free.ensures.above, c.loop-item.invariant.above);
      small = c.above_one-free.ensures.small;
      positive = omega (arith, c.above_one-free.ensures.later, c.loop-item.invariant.positive);
    }

pub returns-clause-above : goal.returns-clause-above
returns-clause-above g c =
    let none : max c.loop-item.free (above []) ≡ max c.args.least (above (filter_map g.T.NamesObject.object c.args.items.now)) =
    ap (λ (left : List g.row.T.Denot). max c.loop-item.free (above (filter_map g.T.NamesObject.object left))) (sym (drop_of_length-le c.args.items.now c.loop-item-test.false))
    ∙ c.loop-item.invariant.above in
    omega (arith, none, c.loop-item.invariant.positive, c.requires.positive)
