use Rattle.std.proofs.Common.{◌≡◌, max, map, [], List, ap, ◌∙◌, sym, arith}
use Rattle.std.proofs.Math.ListN.{drop_of_length-le}
use Rattle.fsck_findings.specs.Work.{above}
use Rattle.fsck_findings.proofs.in_use.above_rows.Goals as goal

pub returns-clause-above : goal.returns-clause-above
returns-clause-above g c =
    let none : max c.loop-row.free (above []) ≡ max c.args.least (above (map g.C.Column.number c.args.rows.now)) =
    ap (λ (left : List g.row.R.Denot). max c.loop-row.free (above (map g.C.Column.number left))) (sym (drop_of_length-le c.args.rows.now c.loop-row-test.false))
    ∙ c.loop-row.invariant.above in
    omega (arith, none, c.loop-row.invariant.positive)
