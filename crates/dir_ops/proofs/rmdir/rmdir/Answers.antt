use Rattle.ref_counts.proofs.Told.{IfTold-weaker, IfTold-weaker2, IfTold-same}
use Rattle.dir_ops.proofs.OldDirectory.{directory_planned, refused_directory}
use Rattle.dir_ops.proofs.rmdir.rmdir.Goals as goal

pub returns-clause-plan : goal.returns-clause-plan
returns-clause-plan g c =
    let told = g.K.Keeper.told c.args.keeper.now in
    let now = c.args.now in
    let old = c.args.old.now in
    IfTold-weaker2 told _ _ _
    (λ t full made v unique whole pass parent name same well is.
    directory_planned t whole v unique same well pass parent now name old is c.in_ok-full.full full c.in_default.ensures c.in_ok-batch.batch (made v.ordered)
    (λ m bytes entry row passes. c.old_directories_are_steps.ensures t whole v.params old.directory old.child old.entry m pass parent now name v unique well same v.is_made is.0 bytes entry row passes)
    c.with_reply.result c.with_reply.ensures.plan)
    c.in_ok-full.ensures.full (IfTold-same told _ _ c.in_ok-full.ensures.same c.in_ok-batch.ensures.batch)

pub returns-in-Err-clause-plan : goal.returns-in-Err-clause-plan
returns-in-Err-clause-plan g c =
    IfTold-weaker (g.K.Keeper.told c.args.keeper.now) _ _
    (λ t full v unique whole pass parent name same well is.
    refused_directory t whole v unique same well pass parent c.args.now name c.args.old.now is c.in_ok-full.full full _ c.in-Err.ensures)
    c.in_ok-full.ensures.full
