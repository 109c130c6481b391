use Rattle.std.proofs.Common.{refl, subst, ◌+◌, List, drop}
use Rattle.std.proofs.Math.ListN.{drop_of_length-le}
use Rattle.fsck_findings.proofs.Looked.{Leaves, Leaves-Adds, Adds-Leaves, drop_at}
use Rattle.fsck_findings.proofs.looking.look_at_all.Goals as goal

pub loop-row-init : goal.loop-row-init
loop-row-init g c = record { batch = refl; findings = refl }

pub loop-row-preserved : goal.loop-row-preserved
loop-row-preserved g c =
    let about = g.L.Look.about c.args.look.now in
    let here = drop_at c.args.rows.now c.loop-row.row-index c.row-item.result c.loop-row-test.true c.row-item.is in
    Leaves-Adds about c.row-item.result (drop (c.loop-row.row-index + 1) c.args.rows.now) c.args.rows.now c.args.repair.now c.loop-row.repair c.look.new.repair
    (subst (λ (left : List g.row.R.Denot). Leaves about left c.args.rows.now c.args.repair.now c.loop-row.repair) here c.loop-row.invariant) c.in_ok-look.ensures

pub returns : goal.returns
returns g c =
    let about = g.L.Look.about c.args.look.now in
    Adds-Leaves about c.args.rows.now c.args.repair.now c.loop-row.repair
    (subst (λ (left : List g.row.R.Denot). Leaves about left c.args.rows.now c.args.repair.now c.loop-row.repair)
    (drop_of_length-le c.args.rows.now c.loop-row-test.false) c.loop-row.invariant)
