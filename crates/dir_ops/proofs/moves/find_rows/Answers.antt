use Rattle.std.proofs.Common.{◌∙◌}
use Rattle.ref_counts.proofs.Told.{IfTold-weaker4, IfTold-same}
use Rattle.dir_ops.proofs.moves.find_rows.Goals as goal

pub returns-clause-found : goal.returns-clause-found
returns-clause-found g c =
    let told = g.K.Keeper.told c.args.keeper.now in
    IfTold-weaker4 told _ _ _ _ _
    (λ t directory new_directory child replaced v unique. (directory, new_directory, child v unique, replaced v unique))
    c.in_ok-directory.ensures.row (IfTold-same told _ _ c.in_ok-directory.ensures.same c.in_ok-new_directory.ensures.row)
    (IfTold-same told _ _ (c.in_ok-new_directory.ensures.same ∙ c.in_ok-directory.ensures.same) c.in_ok-child.ensures.found)
    (IfTold-same told _ _ (c.in_ok-child.ensures.same ∙ c.in_ok-new_directory.ensures.same ∙ c.in_ok-directory.ensures.same) c.in_ok-replaced.ensures.found)
