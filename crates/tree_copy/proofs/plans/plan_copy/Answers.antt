use Rattle.std.proofs.Common.{sym, ◌∙◌, subst}
use Rattle.ref_counts.proofs.Named.{if_ok}
use Rattle.ref_counts.proofs.Told.{IfTold-same, IfTold-weaker, IfTold-weaker2, IfTold-weaker3}
use Rattle.tree_copy.specs.CopyWalks.{IsWholeCopy}
use Rattle.tree_copy.proofs.CopyChecks.{IsCopyable-made, params_there}
use Rattle.tree_copy.proofs.plans.plan_copy.Goals as goal

pub returns-in_default-clause-plan : goal.returns-in_default-clause-plan
returns-in_default-clause-plan g c =
    IfTold-weaker (g.K.Keeper.told c.args.keeper.now) _ _ (λ t row whole pass source parent may. absurd (params_there t may.valid (sym row ∙ c.in_default.is)))
    c.in_ok-params.ensures.row

pub returns-in_default-2-clause-plan : goal.returns-in_default-2-clause-plan
returns-in_default-2-clause-plan g c =
    let told = g.K.Keeper.told c.args.keeper.now in
    IfTold-weaker2 told _ _ _
    (λ t row copied whole pass source parent may.
    absurd (subst (IsWholeCopy t whole c.args.now c.args.top.now c.args.directory.now c.args.name.now) c.in_default-2.is
    (copied whole source parent (IsCopyable-made t whole source parent c.args.name.now c.args.top.now c.args.directory.now _ may (sym row ∙ c.in-Some.is)))))
    c.in_ok-params.ensures.row (IfTold-same told _ _ c.in_ok-params.ensures.same c.in_ok-copied.ensures.copied)

pub returns-clause-plan : goal.returns-clause-plan
returns-clause-plan g c =
    let told = g.K.Keeper.told c.args.keeper.now in
    if_ok _ _ (λ q own.
    IfTold-weaker3 told _ _ _ _
    (λ t row copied planned whole pass source parent may.
    let k = IsCopyable-made t whole source parent c.args.name.now c.args.top.now c.args.directory.now _ may (sym row ∙ c.in-Some.is) in
    planned whole pass source parent c.args.name.now c.args.directory.now k
    (subst (IsWholeCopy t whole c.args.now c.args.top.now c.args.directory.now c.args.name.now) c.in-Some-2.is (copied whole source parent k)))
    c.in_ok-params.ensures.row (IfTold-same told _ _ c.in_ok-params.ensures.same c.in_ok-copied.ensures.copied)
    (IfTold-same told _ _ (c.in_ok-copied.ensures.same ∙ c.in_ok-params.ensures.same) own))
    c.finish.result c.finish.ensures.plan
