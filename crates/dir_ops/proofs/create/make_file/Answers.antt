use Rattle.std.proofs.Common.{refl, ◌∙◌}
use Rattle.ref_counts.proofs.Told.{IfTold-all, IfTold-weaker}
use Rattle.row_steps.specs.RowChanges.{new_file_row}
use Rattle.dir_ops.proofs.NewFile.{file_planned, hand_is, refused_hand}
use Rattle.dir_ops.proofs.create.make_file.Goals as goal

pub returns-in-Err-clause-plan : goal.returns-in-Err-clause-plan
returns-in-Err-clause-plan g c =
    IfTold-all (g.K.Keeper.told c.args.keeper.now) _
    (λ t v unique whole pass parent same well hands place.
    refused_hand t whole pass parent c.args.new.now.mode c.args.new.now.uid c.args.new.now.gid c.args.new.now.now c.args.name.now c.requires.name c.requires.mode _ place.2
    (hand_is whole c.args.handles.now c.is_full.result hands c.is_full.ensures ∙ c.in-Err.ensures))

pub returns-clause-plan : goal.returns-clause-plan
returns-clause-plan g c =
    let mode = c.args.new.now.mode in
    let uid = c.args.new.now.uid in
    let gid = c.args.new.now.gid in
    let now = c.args.new.now.now in
    let p = c.args.params.now in
    let name = c.args.name.now in
    IfTold-weaker (g.K.Keeper.told c.args.keeper.now) _ _
    (λ t made v unique whole pass parent same well hands place.
    file_planned t whole pass parent mode uid gid now name c.requires.name c.requires.mode c.args.handles.now p c.args.directory.now place.1 same hands place.2
    (hand_is whole c.args.handles.now c.is_full.result hands c.is_full.ensures ∙ c.in_default.ensures)
    c.new_row-row.result c.new_row-row.ensures c.in_ok-batch.batch (made v.ordered unique) c.opened.result c.opened.ensures.plan
    (λ passes more used. (
      c.new_files_are_steps.ensures t whole p c.args.directory.now more pass parent mode uid gid now name v unique well same place.1 place.0 passes used,
      c.new_rows_are_found.ensures t p c.args.directory.now (new_file_row p.next_inode mode uid gid now) more parent now name v place.1 place.0 refl used,
    )))
    c.in_ok-batch.ensures.batch
