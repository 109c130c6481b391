use Rattle.std.proofs.Common.{◌∙◌, sym, ap, Some}
use Rattle.s3_rows.specs.Rows.{Block}
use Rattle.ref_counts.proofs.AttrKeys.{on_ok}
use Rattle.ref_counts.proofs.Relinked.{last_place}
use Rattle.ref_counts.proofs.Told.{IfTold-same, IfTold-weaker2}
use Rattle.ref_counts.proofs.links.lower_block.Goals as goal

pub returns-clause-lowered : goal.returns-clause-lowered
returns-clause-lowered g c =
    on_ok _ _ (λ own.
    IfTold-weaker2 (g.K.Keeper.told c.args.keeper.now) _ _ _
    (λ t found added. last_place t c.args.batch.now _ _ c.args.block _ (sym found ∙ c.in-Some.is ∙ ap (λ (b : Block). Some b) (sym c.row.view_is)) c.if-row-ne1.false c.in_ok-push-2.ensures.ok added)
    c.in_ok-row.ensures.row
    (IfTold-same (g.K.Keeper.told c.args.keeper.now) _ _ c.in_ok-row.ensures.same own))
    c.lower_object.result c.lower_object.ensures.lowered
