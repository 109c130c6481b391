use Rattle.ref_counts.proofs.Named.{if_ok}
use Rattle.ref_counts.proofs.Told.{IfTold-weaker}
use Rattle.tree_copy.proofs.NextVisits.{link_unique}
use Rattle.tree_copy.proofs.entries.copy_child.Goals as goal

pub returns-then-spot-clause-unique : goal.returns-then-spot-clause-unique
returns-then-spot-clause-unique g c =
    if_ok _ _
    (λ fits own.
    IfTold-weaker (g.K.Keeper.told c.args.keeper.now) _ _
    (λ t counted o unique names fit. link_unique t c.args.batch.now _ c.args.spot.copy unique (counted fit)) own)
    c.count_link.result c.count_link.ensures.counted
