use Rattle.std.proofs.Common.{◌<◌, ◌+◌, ◌^◌, arith}
use Rattle.ref_counts.proofs.Told.{IfTold-weaker}
use Rattle.dir_ops.proofs.Linked.{link_planned, passes}
use Rattle.dir_ops.proofs.link.link.Goals as goal

pub returns-clause-plan : goal.returns-clause-plan
returns-clause-plan g c =
    let now = c.args.now in
    let name = c.args.name.now in
    let file = c.args.file.now in
    let directory = c.args.directory.now in
    let few : file.refcount + 1 < 2 ^ 62 = grind (arith, c.if-file-ge-LIMIT.false, c.file.view_is) in
    IfTold-weaker (g.K.Keeper.told c.args.keeper.now) _ _
    (λ t made v unique whole pass inode parent same well place.
    link_planned t whole pass inode parent now name c.requires.name file place.0 place.2 directory few
    c.counted_once_more-row.result c.counted_once_more-row.ensures c.in_ok-batch.batch (made v.ordered unique) c.attributed.result c.attributed.ensures.plan
    (λ more used. (
      c.links_are_steps.ensures.step t whole v.params directory file more pass inode parent now name v unique well same v.is_made place.1 place.0
          (passes t whole pass inode parent now name c.requires.name file place.0 place.2) used,
      c.links_are_steps.ensures.row t whole v.params directory file more pass inode parent now name v unique well same v.is_made place.1 place.0
          (passes t whole pass inode parent now name c.requires.name file place.0 place.2) used,
    )))
    c.in_ok-batch.ensures.batch
