use Rattle.std.proofs.Common.{◌≡◌, ◌++◌, take, filter, ap, ◌∙◌, arith}
use Rattle.std.specs.BTreeMap.Range.{range_contains}
use Rattle.mem_keeper.specs.Table.{rows_of}
use Rattle.mem_keeper.proofs.Tabled.{rows_of-entries_between, take_full, take_whole}
use Rattle.mem_keeper.proofs.table.rows_within.Goals.{else-loop-entries-test, then-loop-entries-test+in-None}
use Rattle.mem_keeper.proofs.table.rows_within.Goals as goal

pub returns : goal.returns
returns g c =
    let all : c.loop-entries.rows.items ++ rows_of c.loop-entries.entries
    ≡ filter (λ r. range_contains g.R.Key.Ord.cmp c.args.low c.args.high (g.R.Keyed.key r)) (rows_of c.args.table.now.entries) =
    c.loop-entries.invariant.all ∙ ap rows_of (c.range-entries.ensures.between tt)
    ∙ rows_of-entries_between record { compare = g.R.Key.Ord.cmp; key = g.R.Keyed.key } g.met.R.Key.Ord.total c.args.low c.args.high c.args.table.now.entries c.requires.table.keyed in
    (elim c.loop-entries-test.branch [
      | else-loop-entries-test w ↦ take_full c.loop-entries.rows.items (rows_of c.loop-entries.entries) c.args.max (omega (arith, c.loop-entries.invariant.few, w.loop-entries-test.false, c.len.ensures))
      | then-loop-entries-test+in-None w ↦ take_whole c.loop-entries.rows.items (rows_of c.loop-entries.entries) c.args.max c.loop-entries.invariant.few (ap rows_of w.in-None.ensures.steps.0)
    ]) ∙ ap (take c.args.max) all
