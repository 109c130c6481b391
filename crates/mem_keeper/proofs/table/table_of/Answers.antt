use Rattle.std.proofs.Common.{◌≡◌, ◌+◌, ◌-◌, drop, ap, ◌∙◌, arith}
use Rattle.s3_rows.specs.Keyed.{Order, put}
use Rattle.mem_keeper.proofs.Tabled.{put-drop}
use Rattle.mem_keeper.proofs.table.table_of.Goals as goal

pub loop-left-preserved : goal.loop-left-preserved
loop-left-preserved g c =
    let o : Order g.row.R-Key.Denot g.row.R.Denot = record { compare = g.R.Key.Ord.cmp; key = g.R.Keyed.key } in
    let rows = c.args.rows.now in
    let next : drop c.loop-left.left rows ≡ drop (c.loop-left.left - 1 + 1) rows = ap (λ n. drop n rows) (omega (arith, c.loop-left-test.true)) in
    record {
      table = c.add_row.ensures.table;
      rows = c.in_ok-add_row.ensures.rows
          ∙ ap (λ l. put o c.in_ok-copy.field-0 l) (c.loop-left.invariant.rows ∙ next)
          ∙ ap (λ r. put o r (drop (c.loop-left.left - 1 + 1) rows)) c.in_ok-copy.ensures
          ∙ put-drop o g.met.R.Key.Ord.total (c.loop-left.left - 1) c.index-rows-left.result rows c.requires (omega (arith, c.loop-left-test.true, c.loop-left.invariant.within)) c.index-rows-left.is;
      within = omega (arith, c.loop-left.invariant.within);
    }
