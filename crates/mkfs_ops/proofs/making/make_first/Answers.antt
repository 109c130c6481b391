use Rattle.s3_devices.specs.Keys.{generation_key}
use Rattle.s3_devices.specs.Objects.{KeepsOthers}
use Rattle.s3_devices.specs.Told.{Becomes}
use Rattle.keeper_dump.specs.Dump.{dump_of}
use Rattle.mkfs_ops.proofs.FirstStores.{put_keeps, on_any_err}
use Rattle.mkfs_ops.proofs.making.make_first.Goals as goal

pub returns-in_err-replace_tables-clause-others : goal.returns-in_err-replace_tables-clause-others
returns-in_err-replace_tables-clause-others g c =
    let before = g.L.Link.told c.args.link.now in
    let after = g.L.Link.told c.store_first.new.link in
    on_any_err (Becomes (KeepsOthers (generation_key 1)) before after)
    (put_keeps (generation_key 1) (dump_of c.in_ok-tables.tables) before after c.in_ok-store_first.ensures.stored)
    c.from_residual-in_err-replace_tables.result
