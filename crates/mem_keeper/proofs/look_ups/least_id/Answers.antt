use Rattle.std.proofs.Common.{take_all, subst}
use Rattle.std.specs.Ordering.{nat_cmp}
use Rattle.mem_keeper.specs.Index.{row_has_bytes, IsLeast}
use Rattle.mem_keeper.specs.Table.{rows_of}
use Rattle.mem_keeper.proofs.look_ups.least_id.Goals as goal

pub returns : goal.returns
returns g c =
    subst (λ ids. IsLeast (row_has_bytes (record { compare = nat_cmp; key = g.R.Keyed.key }) g.R.Indexed.bytes (rows_of c.args.table.now.entries) c.args.bytes.now) ids c.loop-id.least)
    (take_all c.loop-id.id-index c.args.ids.now c.loop-id-test.false) c.loop-id.invariant
