use Rattle.std.proofs.Common.{refl}
use Rattle.ref_counts.proofs.Told.{IfTold-weaker}
use Rattle.row_steps.specs.RowChanges.{new_directory_row}
use Rattle.dir_ops.proofs.NewDirectory.{directory_planned}
use Rattle.dir_ops.proofs.mkdir.make_directory.Goals as goal

pub returns-clause-plan : goal.returns-clause-plan
returns-clause-plan g c =
    let mode = c.args.new.now.mode in
    let uid = c.args.new.now.uid in
    let gid = c.args.new.now.gid in
    let now = c.args.new.now.now in
    let p = c.args.params.now in
    let name = c.args.name.now in
    IfTold-weaker (g.K.Keeper.told c.args.keeper.now) _ _
    (λ t made v unique whole pass parent same well place.
    directory_planned t whole pass parent mode uid gid now name c.requires.name c.requires.mode p c.args.directory.now place.1 same place.2
    c.new_row-row.result c.new_row-row.ensures c.in_ok-batch.batch (made v.ordered unique) c.attributed.result c.attributed.ensures.plan
    (λ passes more used. (
      c.new_directories_are_steps.ensures t whole p c.args.directory.now more pass parent mode uid gid now name v unique well same place.1 place.0 passes used,
      c.new_rows_are_found.ensures t p c.args.directory.now (new_directory_row p.next_inode mode uid gid now) more parent now name v place.1 place.0 refl used,
    )))
    c.in_ok-batch.ensures.batch
