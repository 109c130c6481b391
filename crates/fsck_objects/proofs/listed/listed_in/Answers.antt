use Rattle.std.proofs.Common.{◌≡◌, ◌+◌, List, drop, subst}
use Rattle.std.proofs.Math.ListN.{drop_of_length-le}
use Rattle.s3_devices.specs.declared.key_list.KeyItem.{KeyItem}
use Rattle.fsck_findings.proofs.Looked.{drop_at}
use Rattle.fsck_objects.specs.Listed.{length_in, listed_length, or_else}
use Rattle.fsck_objects.proofs.Gathered.{length_none, length_more, length_end}
use Rattle.fsck_objects.proofs.listed.listed_in.Goals as goal

pub loop-item-init : goal.loop-item-init
loop-item-init c = λ q. length_none c.args.keys.now q (length_in c.new-listed.result q) (c.new-listed.ensures q)

pub loop-item-preserved : goal.loop-item-preserved
loop-item-preserved c =
    let here = drop_at c.args.keys.now c.loop-item.item-index c.item-item.result c.loop-item-test.true c.item-item.is in
    λ q. length_more c.item-item.result (drop (c.loop-item.item-index + 1) c.args.keys.now) c.args.keys.now q (length_in c.loop-item.listed q) (length_in c.add.new.self q)
    (subst (λ (left : List KeyItem). or_else (length_in c.loop-item.listed q) (listed_length left q) ≡ listed_length c.args.keys.now q) here (c.loop-item.invariant q))
    (c.in_ok-add.ensures q)

pub returns : goal.returns
returns c = λ q. length_end c.args.keys.now q (length_in c.loop-item.listed q)
    (subst (λ (left : List KeyItem). or_else (length_in c.loop-item.listed q) (listed_length left q) ≡ listed_length c.args.keys.now q)
    (drop_of_length-le c.args.keys.now c.loop-item-test.false) (c.loop-item.invariant q))
