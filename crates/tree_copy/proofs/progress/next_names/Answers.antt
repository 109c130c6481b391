use Rattle.std.proofs.Common.{sym, ap, ◌∙◌}
use Rattle.std.specs.Prelude.{option_and_then}
use Rattle.ref_counts.proofs.Named.{if_ok}
use Rattle.ref_counts.proofs.Told.{IfTold-weaker}
use Rattle.tree_copy.specs.CopyWalks.{visit_batch}
use Rattle.tree_copy.proofs.progress.next_names.Goals as goal

pub returns-in-Some-clause-copied : goal.returns-in-Some-clause-copied
returns-in-Some-clause-copied g c =
    if_ok _ _
    (λ b own.
    IfTold-weaker (g.K.Keeper.told c.args.keeper.now) _ _
    (λ t is o unique attrs name.
    is o (unique c.in-Some.batch c.in-Some.is) attrs name ∙ ap (option_and_then (visit_batch c.args.spot c.args.row.now c.args.name.now t)) (sym c.in-Some.is)) own)
    c.with_visit.result c.with_visit.ensures.copied

pub returns-in-Some-clause-unique : goal.returns-in-Some-clause-unique
returns-in-Some-clause-unique g c =
    if_ok _ _
    (λ b own. IfTold-weaker (g.K.Keeper.told c.args.keeper.now) _ _ (λ t one o unique attrs name. one o (unique c.in-Some.batch c.in-Some.is) attrs name) own)
    c.with_visit.result c.with_visit.ensures.unique
