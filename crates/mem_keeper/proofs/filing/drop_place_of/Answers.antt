use Rattle.std.proofs.Common.{arith}
use Rattle.s3_rows.specs.Keyed.{pair_cmp}
use Rattle.row_lemmas.proofs.Tables.{pair_cmp_total}
use Rattle.mem_keeper.specs.Table.{rows_of}
use Rattle.mem_keeper.proofs.Tabled.{rises-rows_of}
use Rattle.mem_keeper.proofs.Stays.{dropped}
use Rattle.mem_keeper.proofs.filing.drop_place_of.Goals as goal

pub returns-in-None : goal.returns-in-None
returns-in-None g c = record {
  filed =
      dropped g.R.Keyed.key (rows_of c.args.names.now.map.entries) (rows_of c.args.table.now.entries) c.args.place c.args.filing.now (record c.args.filing.now { places = c.drop_key.new.keys })
      (rises-rows_of record { compare = pair_cmp; key = g.R.Keyed.key } pair_cmp_total c.args.table.now.entries c.requires.table)
      c.in-None.ensures (omega arith) c.drop_key.ensures c.requires.filed;
}
