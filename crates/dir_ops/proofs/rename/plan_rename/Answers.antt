use Rattle.std.proofs.Common.{subst}
use Rattle.ref_counts.proofs.Named.{if_ok}
use Rattle.ref_counts.proofs.Told.{IfTold-weaker, IfTold-weaker2, IfTold-same}
use Rattle.dir_ops.specs.Moves.{IsMove}
use Rattle.dir_ops.proofs.Renamed.{refused_both}
use Rattle.dir_ops.proofs.rename.plan_rename.Goals as goal

pub returns-in-Ok-clause-plan : goal.returns-in-Ok-clause-plan
returns-in-Ok-clause-plan g c =
    let told = g.K.Keeper.told c.args.keeper.now in
    if_ok _ _ (λ p own.
    IfTold-weaker2 told _ _ _
    (λ t found planned v unique slots whole pass same well has.
    planned v unique slots whole pass c.args.parent c.args.new_parent c.args.name.now same well has
    (subst (IsMove t whole c.args.parent c.args.name.now c.args.new_parent c.args.new_name.now) c.in-Ok.is (found v unique whole same)) (cc (c.eq-same.ensures, c.as_slice.ensures, c.as_slice-in-Ok.ensures)))
    c.in_ok-moved.ensures.moved (IfTold-same told _ _ c.in_ok-moved.ensures.same own))
    c.rename.result c.rename.ensures.plan

pub returns-in-Err-clause-plan : goal.returns-in-Err-clause-plan
returns-in-Err-clause-plan g c =
    IfTold-weaker (g.K.Keeper.told c.args.keeper.now) _ _
    (λ t found v unique slots whole pass same well has.
    refused_both t whole pass c.args.parent c.args.new_parent c.args.now c.args.name.now c.args.new_name.now _
    (subst (IsMove t whole c.args.parent c.args.name.now c.args.new_parent c.args.new_name.now) c.in-Err.is (found v unique whole same)))
    c.in_ok-moved.ensures.moved
