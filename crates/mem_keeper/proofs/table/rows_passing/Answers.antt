use Rattle.std.proofs.Common.{◌++◌, [], filter, append-nil, append_assoc, sym, ap, ◌∙◌}
use Rattle.std.specs.List.{cons_option}
use Rattle.mem_keeper.specs.Table.{rows_of}
use Rattle.mem_keeper.proofs.Tabled.{rows_of-entries_between, filter-more}
use Rattle.mem_keeper.proofs.table.rows_passing.Goals as goal

pub loop-held-preserved : goal.loop-held-preserved
loop-held-preserved g c =
    let test = g.S.Sought.passes c.args.sought.now in
    ap (λ l. l ++ filter test (rows_of c.next.new.self)) c.in_ok-copy_sought.ensures
    ∙ append_assoc c.loop-held.rows.items (filter test (cons_option c.in-Some.held.now [])) (filter test (rows_of c.next.new.self))
    ∙ ap (λ l. c.loop-held.rows.items ++ l)
    (filter-more test c.in-Some.field-0-0.now c.in-Some.held.now c.next.new.self ∙ ap (λ es. filter test (rows_of es)) (sym c.in-Some.ensures.steps))
    ∙ c.loop-held.invariant

pub returns : goal.returns
returns g c =
    let test = g.S.Sought.passes c.args.sought.now in
    sym (append-nil c.loop-held.rows.items)
    ∙ ap (λ es. c.loop-held.rows.items ++ filter test (rows_of es)) (sym c.in_default.ensures.steps.0)
    ∙ c.loop-held.invariant
    ∙ ap (filter test) (ap rows_of (c.range-entries.ensures.between tt)
    ∙ rows_of-entries_between (record { compare = g.R.Key.Ord.cmp; key = g.R.Keyed.key }) g.met.R.Key.Ord.total c.args.low c.args.high c.args.table.now.entries c.requires.table.keyed)
