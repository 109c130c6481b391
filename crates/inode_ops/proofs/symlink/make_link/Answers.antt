use Rattle.std.proofs.Common.{refl}
use Rattle.ref_counts.proofs.Told.{IfTold-weaker}
use Rattle.row_steps.specs.RowChanges.{new_link_row}
use Rattle.inode_ops.proofs.NewLink.{link_planned, passes}
use Rattle.inode_ops.proofs.symlink.make_link.Goals as goal

pub returns-clause-plan : goal.returns-clause-plan
returns-clause-plan g c =
    let uid = c.args.new.now.uid in
    let gid = c.args.new.now.gid in
    let now = c.args.new.now.now in
    let directory = c.args.place.now.0 in
    let p = c.args.place.now.1 in
    let name = c.args.name.now in
    let target = c.args.target.now in
    IfTold-weaker (g.K.Keeper.told c.args.keeper.now) _ _
    (λ t made v unique whole pass parent same well place.
    link_planned t whole pass parent uid gid now name target c.requires.name c.requires.target p directory place.1 same place.2
    c.link_row-row.result c.link_row-row.ensures c.in_ok-batch.batch c.in_ok-batch-2.batch (made v.ordered unique) c.in_ok-batch-2.ensures
    c.attributed.result c.attributed.ensures.plan
    (λ more used.
    c.symlinks_are_steps.ensures t whole p directory more pass parent uid gid now name target v unique well same place.1 place.0
    (passes t whole pass parent uid gid now name target c.requires.name c.requires.target p directory place.1 same place.2) used)
    (λ more used. c.new_rows_are_found.ensures t p directory (new_link_row p.next_inode target uid gid now) more parent now name v place.1 place.0 refl used))
    c.in_ok-batch.ensures.batch
