use Rattle.std.proofs.Common.{subst}
use Rattle.ref_counts.proofs.Named.{if_ok}
use Rattle.ref_counts.proofs.Told.{IfTold-weaker, IfTold-weaker2, IfTold-same}
use Rattle.dir_ops.specs.Places.{IsPlaced}
use Rattle.inode_ops.proofs.NewLink.{refused_link}
use Rattle.inode_ops.proofs.symlink.plan_symlink.Goals as goal

pub returns-in-Ok-clause-plan : goal.returns-in-Ok-clause-plan
returns-in-Ok-clause-plan g c =
    let told = g.K.Keeper.told c.args.keeper.now in
    if_ok _ _ (λ p own.
    IfTold-weaker2 told _ _ _
    (λ t place planned v unique whole pass same well.
    planned v unique whole pass c.args.parent same well (subst (IsPlaced t whole c.args.parent c.args.name.now) c.in-Ok.is (place v unique whole same)))
    c.in_ok-place.ensures.place (IfTold-same told _ _ c.in_ok-place.ensures.same own))
    c.make_link.result c.make_link.ensures.plan

pub returns-in-Err-2-clause-plan : goal.returns-in-Err-2-clause-plan
returns-in-Err-2-clause-plan g c =
    IfTold-weaker (g.K.Keeper.told c.args.keeper.now) _ _
    (λ t place v unique whole pass same well.
    refused_link t whole pass c.args.parent c.args.new.now.uid c.args.new.now.gid c.args.new.now.now c.args.name.now c.args.target.now c.in_default.ensures c.in_default-check_target.ensures _
    (subst (IsPlaced t whole c.args.parent c.args.name.now) c.in-Err-2.is (place v unique whole same)))
    c.in_ok-place.ensures.place
