use Rattle.std.proofs.Common.{arith}
use Rattle.file_ops.proofs.Left.{OnErr-always, drop_here}
use Rattle.file_ops.proofs.PutObjects.{partly_put_refused}
use Rattle.file_ops.proofs.objects.store_objects.Goals as goal

pub returns-in_err-store_one-clause-err : goal.returns-in_err-store_one-clause-err
returns-in_err-store_one-clause-err g c =
    let block_here = drop_here c.args.blocks.now c.loop-i.i c.index-blocks-i.result (omega arith) c.index-blocks-i.is in
    let place_here = drop_here c.args.places.now c.loop-i.i c.index-places-i.result (omega (arith, c.requires)) c.index-places-i.is in
    OnErr-always _
    (partly_put_refused c.args.blocks.now c.args.places.now c.loop-i.i c.index-blocks-i.result c.index-places-i.result block_here place_here
    (g.L.Link.told c.args.link.now) (g.L.Link.told c.loop-i.link) (g.L.Link.told c.store_one.new.link) c.loop-i.invariant.put c.in_err-store_one.ensures.err)
    c.from_residual.result
