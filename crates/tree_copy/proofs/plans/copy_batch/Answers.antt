use Rattle.std.proofs.Common.{[], ◌∷◌, sym, ◌∙◌}
use Rattle.plain_tree.specs.Checks.{first_failure}
use Rattle.op_checks.specs.Rows.{directory_row_check, row_check}
use Rattle.ref_counts.proofs.Named.{if_ok}
use Rattle.ref_counts.proofs.Told.{IfTold-same, IfTold-weaker2, IfTold-weaker3}
use Rattle.tree_copy.proofs.CopyChecks.{FindsBoth-found, folders_refused}
use Rattle.tree_copy.proofs.plans.copy_batch.Goals as goal

pub returns-in-Ok-clause-plan : goal.returns-in-Ok-clause-plan
returns-in-Ok-clause-plan g c =
    let told = g.K.Keeper.told c.args.keeper.now in
    if_ok _ _ (λ q own.
    IfTold-weaker3 told _ _ _ _
    (λ t first second planned v unique whole pass same well.
    planned whole pass
    (FindsBoth-found t whole v unique same well c.args.source c.args.parent c.args.name.now _ _ c.in_default.ensures (sym first ∙ c.in-Ok.ensures.top) (sym second ∙ c.in-Ok.ensures.directory)
    ((λ i. first_failure (row_check (sym first i) ∷ directory_row_check (sym first i) ∷ row_check (sym second i) ∷ directory_row_check (sym second i) ∷ [])) ∙ c.in-Ok.ensures.check)))
    c.in_ok-top.ensures.row (IfTold-same told _ _ c.in_ok-top.ensures.same c.in_ok-directory.ensures.row)
    (IfTold-same told _ _ (c.in_ok-directory.ensures.same ∙ c.in_ok-top.ensures.same) own))
    c.plan_into.result c.plan_into.ensures.plan

pub returns-in-Err-check_folders-clause-plan : goal.returns-in-Err-check_folders-clause-plan
returns-in-Err-check_folders-clause-plan g c =
    let told = g.K.Keeper.told c.args.keeper.now in
    IfTold-weaker2 told _ _ _
    (λ t first second v unique whole pass same well.
    folders_refused t whole v unique same well c.args.source c.args.parent c.args.name.now pass _ c.in_default.ensures
    ((λ i. first_failure (row_check (sym first i) ∷ directory_row_check (sym first i) ∷ row_check (sym second i) ∷ directory_row_check (sym second i) ∷ [])) ∙ c.in-Err-check_folders.ensures.check))
    c.in_ok-top.ensures.row (IfTold-same told _ _ c.in_ok-top.ensures.same c.in_ok-directory.ensures.row)
