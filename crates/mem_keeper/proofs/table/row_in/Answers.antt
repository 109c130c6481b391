use Rattle.std.proofs.Common.{ap, sym, ◌∙◌}
use Rattle.mem_keeper.specs.Table.{held_in}
use Rattle.mem_keeper.proofs.Tabled.{row_at-rows_of}
use Rattle.mem_keeper.proofs.table.row_in.Goals as goal

pub returns-in-Some : goal.returns-in-Some
returns-in-Some g c =
    c.as_ref.ensures.value ∙ ap held_in c.in-Some.ensures.value
    ∙ sym (row_at-rows_of record { compare = g.R.Key.Ord.cmp; key = g.R.Keyed.key } g.met.R.Key.Ord.total c.args.key c.args.table.now.entries c.requires)

pub returns-in-None : goal.returns-in-None
returns-in-None g c =
    ap held_in c.in-None.ensures.value
    ∙ sym (row_at-rows_of record { compare = g.R.Key.Ord.cmp; key = g.R.Keyed.key } g.met.R.Key.Ord.total c.args.key c.args.table.now.entries c.requires)
