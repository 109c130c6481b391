use Rattle.std.proofs.Common.{All, take, filter_map, ap, ◌∙◌, arith}
use Rattle.std.specs.Map.{keys_of}
use Rattle.std.proofs.lemmas.List.Elements.{All-weaker}
use Rattle.s3_rows.specs.Keyed.{pair_cmp}
use Rattle.row_lemmas.proofs.Tables.{pair_cmp_total}
use Rattle.mem_keeper.specs.Filed.{apart, last_name, IsFiled, IsPlaced}
use Rattle.mem_keeper.specs.Table.{rows_of}
use Rattle.mem_keeper.proofs.Found.{at, walked}
use Rattle.mem_keeper.proofs.Tabled.{rises-rows_of, take_full, take_whole}
use Rattle.mem_keeper.proofs.named.walk.Goals.{else-loop-places-test, then-loop-places-test+in-None}
use Rattle.mem_keeper.proofs.named.walk.Goals as goal

pub returns-clause-items : goal.returns-clause-items
returns-clause-items g c =
    let names = rows_of c.args.names.now.map.entries in
    let rows = rows_of c.args.table.now.entries in
    let given = at g.R.Keyed.key g.T.NamedFrom.made g.T.Named.name_of names rows in
    let up = rises-rows_of record { compare = pair_cmp; key = g.R.Keyed.key } pair_cmp_total c.args.table.now.entries c.requires.table in
    let filed : All (λ r. IsPlaced c.args.filing.now.places names (g.R.Keyed.key r)) rows =
    All-weaker (λ r. IsFiled c.args.filing.now names (g.R.Keyed.key r)) (λ r. IsPlaced c.args.filing.now.places names (g.R.Keyed.key r)) (λ r is. is.placed) rows c.requires.filed in
    (elim c.loop-places-test.branch [
      | else-loop-places-test w ↦ take_full c.loop-places.items.items (apart g.T.Named.name_of (last_name g.T.Named.name_of c.args.after.now c.loop-places.items.items) (filter_map given (keys_of c.loop-places.places))) c.args.max (omega (arith, c.loop-places.invariant.few, w.loop-places-test.false, c.len.ensures))
      | then-loop-places-test+in-None w ↦ take_whole c.loop-places.items.items (apart g.T.Named.name_of (last_name g.T.Named.name_of c.args.after.now c.loop-places.items.items) (filter_map given (keys_of c.loop-places.places))) c.args.max c.loop-places.invariant.few
          (ap (λ es. apart g.T.Named.name_of (last_name g.T.Named.name_of c.args.after.now c.loop-places.items.items) (filter_map given (keys_of es))) w.in-None.ensures.steps.0)
    ])
    ∙ ap (take c.args.max)
    (c.loop-places.invariant.all
    ∙ walked g.R.Keyed.key g.T.NamedFrom.made g.T.Named.name_of names g.met.T.NamedFrom.keeps_name rows c.args.filing.now.places c.args.owner c.args.after.now up c.range-places.ensures.ordered filed
    c.range-places.result c.in_ok-clone.field-0 c.new.result c.in_ok-clone.ensures.cases c.new.ensures (c.range-places.ensures.between tt))
