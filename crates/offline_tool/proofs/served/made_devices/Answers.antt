use Rattle.std.proofs.Common.{refl}
use Rattle.offline_tool.proofs.Begun.{made_rows, nothing_exists}
use Rattle.offline_tool.proofs.served.made_devices.Goals as goal

pub unreachable-requires : goal.unreachable-requires
unreachable-requires c =
    nothing_exists c.new-keeper.result c.new-link.result c.new-keeper.ensures c.new-link.ensures
    (rw c.in-Err-Exists.field-0-is at (c.in-Err-Exists.ensures.exists c.new-keeper.result c.new-link.result refl refl))

pub returns-in-Ok-clause-tables : goal.returns-in-Ok-clause-tables
returns-in-Ok-clause-tables c = made_rows c.new-keeper.result _ c.args.block_size c.args.slots c.new-keeper.ensures (c.in-Ok.ensures.made c.new-keeper.result refl)
