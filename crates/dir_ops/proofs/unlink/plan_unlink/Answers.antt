use Rattle.std.proofs.Common.{subst}
use Rattle.ref_counts.proofs.Named.{if_ok}
use Rattle.ref_counts.proofs.Told.{IfTold-weaker, IfTold-weaker2, IfTold-same}
use Rattle.dir_ops.specs.OldEntries.{IsOldEntry}
use Rattle.dir_ops.proofs.OldFile.{refused_entry}
use Rattle.dir_ops.proofs.unlink.plan_unlink.Goals as goal

pub returns-in-Ok-clause-plan : goal.returns-in-Ok-clause-plan
returns-in-Ok-clause-plan g c =
    let told = g.K.Keeper.told c.args.keeper.now in
    if_ok _ _ (λ p own.
    IfTold-weaker2 told _ _ _
    (λ t found planned v unique slots whole pass same well has.
    planned v unique slots whole pass c.args.parent c.args.name.now same well has
    (subst (IsOldEntry t whole c.args.parent c.args.name.now) c.in-Ok.is (found v unique whole same)))
    c.in_ok-old.ensures.old (IfTold-same told _ _ c.in_ok-old.ensures.same own))
    c.unlink.result c.unlink.ensures.plan

pub returns-in-Err-clause-plan : goal.returns-in-Err-clause-plan
returns-in-Err-clause-plan g c =
    IfTold-weaker (g.K.Keeper.told c.args.keeper.now) _ _
    (λ t found v unique slots whole pass same well has.
    refused_entry t whole pass c.args.parent c.args.now c.args.name.now _
    (subst (IsOldEntry t whole c.args.parent c.args.name.now) c.in-Err.is (found v unique whole same)))
    c.in_ok-old.ensures.old
