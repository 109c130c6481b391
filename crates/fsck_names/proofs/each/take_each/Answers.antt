use Rattle.std.proofs.Common.{◌≡◌, ◌+◌, suc, List, ◌∷◌, Result, Ok, drop, sym, ap, subst, ◌∙◌, arith, drop-cons}
use Rattle.std.proofs.lemmas.List.{drop_all}
use Rattle.s3_rows.specs.Rows.{Inode}
use Rattle.fsck_findings.specs.declared.repair.PassFault.{PassFault}
use Rattle.fsck_names.specs.Made.{for_each}
use Rattle.fsck_names.specs.Steps.{Gives}
use Rattle.fsck_names.proofs.Taken.{gives_then, taken_nothing}
use Rattle.fsck_names.proofs.each.take_each.Goals as goal

pub loop-row-preserved : goal.loop-row-preserved
loop-row-preserved g c = λ result v w given.
    let step = g.S.InodeStep.step c.args.free in
    let rows = c.args.rows.now in
    let i = c.loop-row.row-index in
    let x = c.row-item.result in
    let u = c.loop-row.tables in
    let s = c.loop-row.repair in
    let P : List Inode → Type 0 = λ l. Gives result (for_each step l u) u v s w in
    let next : suc i ≡ i + 1 = omega arith in
    let shape : drop i rows ≡ x ∷ drop (i + 1) rows =
    drop-cons rows i x c.loop-row-test.true ∙ ap (λ (y : Inode). y ∷ drop (suc i) rows) (sym c.row-item.is) ∙ ap (λ k. x ∷ drop k rows) next in
    c.loop-row.invariant result v w (subst P (sym shape)
    (gives_then (step x) (for_each step (drop (i + 1) rows)) result u c.take.new.tables v s c.take.new.repair w c.in_ok-take.ensures given))

pub returns : goal.returns
returns g c =
    let step = g.S.InodeStep.step c.args.free in
    let u = c.loop-row.tables in
    let s = c.loop-row.repair in
    let done : Result (Unit {0}) PassFault = Ok tt in
    let P : List Inode → Type 0 = λ l. Gives done (for_each step l u) u u s s in
    c.loop-row.invariant done u s (subst P (sym (drop_all c.loop-row.row-index c.args.rows.now c.loop-row-test.false)) (taken_nothing u s))
