use Rattle.std.proofs.Common.{sym, ◌∙◌}
use Rattle.ref_counts.proofs.Named.{if_ok}
use Rattle.ref_counts.proofs.Told.{IfTold-same, IfTold-weaker, IfTold-weaker2, IfTold-weaker3}
use Rattle.tree_copy.proofs.CopyChecks.{MayHave-found, parent_folder, target_refused}
use Rattle.tree_copy.proofs.plans.plan_into.Goals as goal

pub returns-in_default-clause-plan : goal.returns-in_default-clause-plan
returns-in_default-clause-plan g c =
    IfTold-weaker (g.K.Keeper.told c.args.keeper.now) _ _
    (λ t below whole pass f.
    absurd (cc (sym c.in_default.is ∙ below f.valid whole f.same f.well (parent_folder t whole c.args.source c.args.parent c.args.name.now c.args.top.now c.args.directory.now f))))
    c.in_ok-within.ensures.below

pub returns-in-Err-clause-plan : goal.returns-in-Err-clause-plan
returns-in-Err-clause-plan g c =
    let told = g.K.Keeper.told c.args.keeper.now in
    IfTold-weaker2 told _ _ _
    (λ t below taken whole pass f.
    target_refused t whole c.args.source c.args.parent c.args.name.now c.args.top.now c.args.directory.now f pass c.in-Some.within c.in_ok-taken.taken _
    (sym c.in-Some.is ∙ below f.valid whole f.same f.well (parent_folder t whole c.args.source c.args.parent c.args.name.now c.args.top.now c.args.directory.now f))
    (taken f.valid f.unique) c.in-Err.ensures)
    c.in_ok-within.ensures.below (IfTold-same told _ _ c.in_ok-within.ensures.same c.in_ok-taken.ensures.found)

pub returns-clause-plan : goal.returns-clause-plan
returns-clause-plan g c =
    let told = g.K.Keeper.told c.args.keeper.now in
    if_ok _ _ (λ q own.
    IfTold-weaker3 told _ _ _ _
    (λ t below taken planned whole pass f.
    planned whole pass c.args.source c.args.parent
    (MayHave-found t whole c.args.source c.args.parent c.args.name.now c.args.top.now c.args.directory.now f c.in-Some.within c.in_ok-taken.taken
    (sym c.in-Some.is ∙ below f.valid whole f.same f.well (parent_folder t whole c.args.source c.args.parent c.args.name.now c.args.top.now c.args.directory.now f))
    (taken f.valid f.unique) c.in_default-check_target.ensures))
    c.in_ok-within.ensures.below (IfTold-same told _ _ c.in_ok-within.ensures.same c.in_ok-taken.ensures.found)
    (IfTold-same told _ _ (c.in_ok-taken.ensures.same ∙ c.in_ok-within.ensures.same) own))
    c.plan_copy.result c.plan_copy.ensures.plan
