use Rattle.std.proofs.Common.{◌∙◌, ap}
use Rattle.s3_rows.specs.Rows.{Inode}
use Rattle.ref_counts.specs.Links.{places_of_gone}
use Rattle.ref_counts.proofs.Told.{IfTold-same, IfTold-weaker3}
use Rattle.dir_ops.proofs.GoneEntries.{link_dropped}
use Rattle.dir_ops.proofs.unlink.drop_named.Goals as goal

pub returns-clause-batch : goal.returns-clause-batch
returns-clause-batch g c =
    let told = g.K.Keeper.told c.args.keeper.now in
    let old = c.args.old.now in
    IfTold-weaker3 told _ _ _ _
    (λ t places dropped linked o n named.
    link_dropped t c.args.kept c.in_ok-batch.batch c.drop_entry.new.batch old.directory old.entry n c.args.now named dropped old.child c.drop_link.new.batch
    (places o ∙ ap (λ (r : Inode). places_of_gone c.args.kept t r.id) c.child.view_is)
    (linked o))
    c.in_ok-batch.ensures.batch (IfTold-same told _ _ c.in_ok-batch.ensures.same c.in_ok-drop_entry.ensures.dropped)
    (IfTold-same told _ _ (c.in_ok-drop_entry.ensures.same ∙ c.in_ok-batch.ensures.same) c.in_ok-drop_link.ensures.dropped)
