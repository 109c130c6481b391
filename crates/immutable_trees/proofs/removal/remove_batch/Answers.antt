use Rattle.std.proofs.Common.{subst}
use Rattle.ref_counts.proofs.Named.{if_ok}
use Rattle.ref_counts.proofs.Told.{IfTold-same, IfTold-weaker, IfTold-weaker2}
use Rattle.dir_ops.specs.OldEntries.{IsOldEntry}
use Rattle.immutable_trees.proofs.FoundEntry.{FindsEntry-old, entry_refused}
use Rattle.immutable_trees.proofs.removal.remove_batch.Goals as goal

pub returns-in-Ok-clause-plan : goal.returns-in-Ok-clause-plan
returns-in-Ok-clause-plan g c =
    let told = g.K.Keeper.told c.args.keeper.now in
    let name = c.args.name.now in
    if_ok _ _ (λ p own.
    IfTold-weaker2 told _ _ _
    (λ t found planned v unique slots whole pass same well held.
    planned whole pass c.args.parent name
    (FindsEntry-old t whole v unique slots same well c.args.parent name c.in-Ok.old
    (subst (IsOldEntry t whole c.args.parent name) c.in-Ok.is (found v unique whole same))) held)
    c.in_ok-old.ensures.old (IfTold-same told _ _ c.in_ok-old.ensures.same own))
    c.plan_removal.result c.plan_removal.ensures.plan

pub returns-in-Err-clause-plan : goal.returns-in-Err-clause-plan
returns-in-Err-clause-plan g c =
    let name = c.args.name.now in
    IfTold-weaker (g.K.Keeper.told c.args.keeper.now) _ _
    (λ t found v unique slots whole pass same well held.
    entry_refused t whole pass c.args.parent c.args.now name c.in-Err.errno
    (subst (IsOldEntry t whole c.args.parent name) c.in-Err.is (found v unique whole same)))
    c.in_ok-old.ensures.old
