use Rattle.std.proofs.Common.{sym, refl, subst}
use Rattle.std.specs.Prelude.{IsTrue, List, ◌==◌, not}
use Rattle.std.specs.List.{list_all}
use Rattle.s3_rows.specs.Rows.{Slot}
use Rattle.ref_counts.proofs.Told.{IfTold-all, IfTold-weaker}
use Rattle.dir_ops.proofs.OldFile.{file_planned, refused_file}
use Rattle.dir_ops.proofs.unlink.unlink.Goals as goal

pub returns-clause-plan : goal.returns-clause-plan
returns-clause-plan g c =
    let now = c.args.now in
    let old = c.args.old.now in
    IfTold-weaker (g.K.Keeper.told c.args.keeper.now) _ _
    (λ t made v unique slots whole pass parent name same well has is.
    file_planned t whole pass parent now name v unique same old is c.args.handles.now has c.in_default.ensures c.is_kept-kept.result c.is_kept-kept.ensures c.in_ok-batch.batch (made v.ordered)
    (λ m held bytes entry row held_is passes. c.old_links_are_steps.ensures t whole v.params old.directory old.child old.entry m pass parent now name held v unique well same v.is_made is.0
    bytes entry row (subst (λ (rows : List Slot). IsTrue (list_all (λ (x : Slot). not (x.inode == old.child.id)) rows)) (sym slots) refl) held_is passes)
    c.with_reply.result c.with_reply.ensures.plan)
    c.in_ok-batch.ensures.batch

pub returns-in-Err-clause-plan : goal.returns-in-Err-clause-plan
returns-in-Err-clause-plan g c =
    IfTold-all (g.K.Keeper.told c.args.keeper.now) _
    (λ t v unique slots whole pass parent name same well has is. refused_file t whole pass parent c.args.now name v unique same c.args.old.now is _ c.in-Err.ensures)
