use Rattle.std.proofs.Common.{sym, ◌∙◌}
use Rattle.ref_counts.proofs.Named.{if_ok}
use Rattle.ref_counts.proofs.Told.{IfTold-same, IfTold-weaker2, IfTold-weaker3, IfTold-weaker4}
use Rattle.tree_copy.proofs.NextVisits.{visit_added, visit_fits_too}
use Rattle.tree_copy.proofs.entries.copy_visit.Goals as goal

pub returns-clause-fits : goal.returns-clause-fits
returns-clause-fits g c =
    let told = g.K.Keeper.told c.args.keeper.now in
    if_ok _ _
    (λ fits own.
    IfTold-weaker4 told _ _ _ _ _
    (λ t child copied one is o unique names named.
    visit_fits_too c.args.batch.now c.copy_child.new.batch _ t c.args.name.now fits _ (copied o unique names c.if-not-branch.false)
    (sym c.if-not-branch.false ∙ child o unique names) (is o (one o unique names c.if-not-branch.false) named))
    c.in_ok-copy_child.ensures.fits c.in_ok-copy_child.ensures.copied c.in_ok-copy_child.ensures.unique (IfTold-same told _ _ c.in_ok-copy_child.ensures.same own))
    c.copy_entry.result c.copy_entry.ensures.fits

pub returns-clause-copied : goal.returns-clause-copied
returns-clause-copied g c =
    let told = g.K.Keeper.told c.args.keeper.now in
    if_ok _ _
    (λ fits own.
    IfTold-weaker3 told _ _ _ _
    (λ t copied one is o unique names named fit.
    visit_added c.args.batch.now c.copy_child.new.batch _ _ t c.args.spot.directory c.args.spot.copy c.args.name.now (copied o unique names c.if-not-branch.false)
    (is o (one o unique names c.if-not-branch.false) named fit))
    c.in_ok-copy_child.ensures.copied c.in_ok-copy_child.ensures.unique (IfTold-same told _ _ c.in_ok-copy_child.ensures.same own))
    c.copy_entry.result c.copy_entry.ensures.copied

pub returns-clause-unique : goal.returns-clause-unique
returns-clause-unique g c =
    let told = g.K.Keeper.told c.args.keeper.now in
    if_ok _ _
    (λ fits own.
    IfTold-weaker2 told _ _ _ (λ t one is o unique names named fit. is o (one o unique names c.if-not-branch.false) named fit)
    c.in_ok-copy_child.ensures.unique (IfTold-same told _ _ c.in_ok-copy_child.ensures.same own))
    c.copy_entry.result c.copy_entry.ensures.unique
