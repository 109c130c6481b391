use Rattle.std.proofs.Common.{sym, ◌∙◌}
use Rattle.std.specs.Ordering.{nat_cmp}
use Rattle.std.specs.Cmp.{nat_cmp_total}
use Rattle.mem_keeper.specs.Table.{rows_of}
use Rattle.mem_keeper.proofs.Tabled.{rises-rows_of}
use Rattle.mem_keeper.proofs.Least.{first_none, first_some}
use Rattle.mem_keeper.proofs.look_ups.row_of_bytes.Goals as goal

pub returns-in-Some : goal.returns-in-Some
returns-in-Some g c = c.row_in.ensures ∙ first_some g.R.Keyed.key g.R.Indexed.bytes c.args.index.now (rows_of c.args.table.now.entries) c.args.bytes.now c.ids.result.now c.in-Some.id (rises-rows_of (record { compare = nat_cmp; key = g.R.Keyed.key }) nat_cmp_total c.args.table.now.entries c.requires.table) c.requires.covers c.ids.ensures c.in-Some.ensures

pub returns-in-None : goal.returns-in-None
returns-in-None g c = sym (first_none g.R.Keyed.key g.R.Indexed.bytes c.args.index.now (rows_of c.args.table.now.entries) c.args.bytes.now c.ids.result.now (rises-rows_of (record { compare = nat_cmp; key = g.R.Keyed.key }) nat_cmp_total c.args.table.now.entries c.requires.table) c.requires.covers c.ids.ensures c.in-None.ensures)
