use Rattle.std.proofs.Common.{◌≡◌, List, sym, ◌∙◌, subst}
use Rattle.s3_rows.specs.declared.change.Change.{Change}
use Rattle.ref_counts.specs.Names.{StaysUnique}
use Rattle.ref_counts.proofs.Told.{IfTold-weaker, IfTold-weaker2}
use Rattle.tree_copy.proofs.VisitBatch.{visit_there, visit_worn}
use Rattle.tree_copy.proofs.progress.with_visit.Goals as goal

pub returns-then-not-branch-clause-copied : goal.returns-then-not-branch-clause-copied
returns-then-not-branch-clause-copied g c =
    IfTold-weaker (g.K.Keeper.told c.args.keeper.now) _ _
    (λ t fits o unique attrs name. visit_worn c.args.spot c.args.row.now c.args.name.now t c.args.batch (sym c.if-not-branch.true ∙ fits o unique attrs name))
    c.in_ok-copy_visit.ensures.fits

pub returns-clause-copied : goal.returns-clause-copied
returns-clause-copied g c =
    IfTold-weaker2 (g.K.Keeper.told c.args.keeper.now) _ _ _
    (λ t fits copied o unique attrs name.
    visit_there c.args.spot c.args.row.now c.args.name.now t c.args.batch c.copy_visit.new.batch (sym c.is_id.ensures ∙ c.if-not-is_id.false)
    (sym c.is_id-else-not-is_id.ensures ∙ c.if-not-is_id-2.false) (sym c.if-not-branch.false ∙ fits o unique attrs name) (copied o unique attrs name c.if-not-branch.false))
    c.in_ok-copy_visit.ensures.fits c.in_ok-copy_visit.ensures.copied

pub returns-clause-unique : goal.returns-clause-unique
returns-clause-unique g c =
    IfTold-weaker (g.K.Keeper.told c.args.keeper.now) _ _
    (λ t one o unique attrs name cs is.
    let same : c.copy_visit.new.batch ≡ cs = cc is in
    subst (λ (b : List Change). StaysUnique b t) same (one o unique attrs name c.if-not-branch.false))
    c.in_ok-copy_visit.ensures.unique
