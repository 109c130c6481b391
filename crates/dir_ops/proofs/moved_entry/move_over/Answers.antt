use Rattle.std.proofs.Common.{[], ◌∷◌, ◌++◌, ◌∙◌, ap}
use Rattle.s3_rows.specs.declared.change.Change.TheVariants as changes
use Rattle.s3_rows.specs.Rows.{Content, Inode}
use Rattle.ref_counts.specs.Links.{places_of_gone}
use Rattle.row_steps.specs.RowChanges.{stamped_row, touched_row}
use Rattle.ref_counts.proofs.Told.{IfTold-same, IfTold-weaker3}
use Rattle.dir_ops.proofs.GoneEntries.{link_replaced}
use Rattle.dir_ops.proofs.moved_entry.move_over.Goals as goal

pub returns-clause-batch : goal.returns-clause-batch
returns-clause-batch g c =
    let told = g.K.Keeper.told c.args.keeper.now in
    let m = c.args.moved.now in
    IfTold-weaker3 told _ _ _ _
    (λ t places dropped linked o n named.
    link_replaced t c.args.kept c.in_ok-batch.batch c.drop_entry.new.batch m.old.directory m.old.entry n c.args.now named dropped m.directory m.old.child c.args.replaced.now c.args.entry.now
    c.put_moved.new.batch c.drop_link.new.batch
    (places o ∙ ap (λ (r : Inode). places_of_gone c.args.kept t r.id) c.replaced.view_is)
    (c.in_ok-put_moved.ensures ∙ ap (λ (e : Content). c.drop_entry.new.batch ++ changes.PutContent (record { parent = m.directory.id; name_id = e.name_id; inode = m.old.child.id })
    ∷ changes.PutInode (touched_row c.args.now m.directory) ∷ changes.PutInode (stamped_row c.args.now m.old.child) ∷ []) c.entry.view_is)
    (linked o))
    c.in_ok-batch.ensures.batch (IfTold-same told _ _ c.in_ok-batch.ensures.same c.in_ok-drop_entry.ensures.dropped)
    (IfTold-same told _ _ (c.in_ok-drop_entry.ensures.same ∙ c.in_ok-batch.ensures.same) c.in_ok-drop_link.ensures.dropped)
