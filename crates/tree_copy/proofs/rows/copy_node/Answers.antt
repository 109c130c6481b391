use Rattle.std.proofs.Common.{ℕ, ◌++◌, sym, ap, ◌∙◌, subst}
use Rattle.s3_rows.specs.Batches.{tables_after}
use Rattle.s3_rows.specs.Rows.{Inode}
use Rattle.s3_rows.specs.Selections.{named_attrs}
use Rattle.ref_counts.proofs.Named.{if_ok}
use Rattle.ref_counts.proofs.Told.{IfTold-same, IfTold-weaker2, IfTold-weaker3}
use Rattle.tree_copy.specs.CopiedNames.{AreAttrNames}
use Rattle.tree_copy.specs.CopiedRows.{attrs_copied, attrs_fit}
use Rattle.tree_copy.proofs.NextRows.{attrs_fit_too, node_added, row_unique}
use Rattle.tree_copy.proofs.rows.copy_node.Goals as goal

pub returns-clause-fits : goal.returns-clause-fits
returns-clause-fits g c =
    let told = g.K.Keeper.told c.args.keeper.now in
    let node = ap (λ (r : Inode). r.id) c.row.view_is in
    if_ok _ _
    (λ fits own.
    IfTold-weaker3 told _ _ _ _
    (λ t draws row is o unique names.
    let added = row c.if-not-branch.false in
    attrs_fit_too c.args.batch.now c.copy_row.new.batch t c.args.copy c.args.now c.args.row.now fits (sym c.if-not-branch.false ∙ draws) added
    (is o (row_unique c.args.batch.now c.copy_row.new.batch t c.args.copy c.args.now c.args.row.now unique added) (subst (AreAttrNames t) (sym node) names)
    ∙ ap (λ (x : ℕ). attrs_fit c.args.copy (named_attrs t x) (tables_after c.copy_row.new.batch t)) node))
    c.in_ok-copy_row.ensures.fits c.in_ok-copy_row.ensures.copied (IfTold-same told _ _ c.in_ok-copy_row.ensures.same own))
    c.copy_attrs.result c.copy_attrs.ensures.fits

pub returns-clause-copied : goal.returns-clause-copied
returns-clause-copied g c =
    let told = g.K.Keeper.told c.args.keeper.now in
    let node = ap (λ (r : Inode). r.id) c.row.view_is in
    if_ok _ _
    (λ fits own.
    IfTold-weaker2 told _ _ _
    (λ t row is o unique names fit.
    let added = row c.if-not-branch.false in
    node_added c.args.batch.now c.copy_row.new.batch _ t c.args.copy c.args.now c.args.row.now added
    (is o (row_unique c.args.batch.now c.copy_row.new.batch t c.args.copy c.args.now c.args.row.now unique added) (subst (AreAttrNames t) (sym node) names) fit
    ∙ ap (λ (x : ℕ). c.copy_row.new.batch ++ attrs_copied c.args.copy (named_attrs t x) (tables_after c.copy_row.new.batch t)) node))
    c.in_ok-copy_row.ensures.copied (IfTold-same told _ _ c.in_ok-copy_row.ensures.same own))
    c.copy_attrs.result c.copy_attrs.ensures.copied

pub returns-clause-unique : goal.returns-clause-unique
returns-clause-unique g c =
    let told = g.K.Keeper.told c.args.keeper.now in
    let node = ap (λ (r : Inode). r.id) c.row.view_is in
    if_ok _ _
    (λ fits own.
    IfTold-weaker2 told _ _ _
    (λ t row is o unique names fit.
    is o (row_unique c.args.batch.now c.copy_row.new.batch t c.args.copy c.args.now c.args.row.now unique (row c.if-not-branch.false))
    (subst (AreAttrNames t) (sym node) names) fit)
    c.in_ok-copy_row.ensures.copied (IfTold-same told _ _ c.in_ok-copy_row.ensures.same own))
    c.copy_attrs.result c.copy_attrs.ensures.unique
