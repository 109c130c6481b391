use Rattle.std.proofs.Common.{ℕ, List, [], ◌∷◌, ap, ◌∙◌}
use Rattle.std.specs.BTreeMap.{is_at}
use Rattle.std.specs.Map.{lookup}
use Rattle.std.specs.Ordering.{nat_cmp}
use Rattle.s3_rows.specs.Rows.{Inode}
use Rattle.ref_counts.proofs.Told.{IfTold-weaker2}
use Rattle.tree_copy.proofs.CopyGoes.{goes_first, source_names_fit}
use Rattle.tree_copy.proofs.walk.first_copied.Goals as goal

pub returns-clause-goes : goal.returns-clause-goes
returns-clause-goes g c =
    IfTold-weaker2 (g.K.Keeper.told c.args.keeper.now) _ _ _
    (λ t copied unique whole source parent k.
    let fit = source_names_fit t whole source parent c.args.now c.args.name.now c.args.top.now c.args.directory.now c.args.params.now k in
    goes_first t whole source parent c.args.now c.args.name.now c.args.top.now c.args.directory.now c.args.params.now k _
    (copied k.valid.ordered k.unique fit.0 fit.1 k.made) (unique k.valid.ordered k.unique fit.0 fit.1)
    (c.in_ok-seen.ensures ∙ ap (λ (x : Inode). x.id ∷ []) c.top.view_is) (λ x. ap (λ (es : List (ℕ × ℕ)). lookup (is_at (nat_cmp x)) es) c.new.ensures.empty))
    c.in_ok-names.ensures.copied c.in_ok-names.ensures.unique
