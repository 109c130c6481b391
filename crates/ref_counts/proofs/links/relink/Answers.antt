use Rattle.std.proofs.Common.{◌≡◌, [], ◌∷◌, ◌++◌, ◌∙◌, sym, ap, Some}
use Rattle.s3_rows.specs.Rows.{InodeBlock}
use Rattle.s3_rows.specs.declared.change.Change.{Change}
use Rattle.ref_counts.specs.Links.{link_set}
use Rattle.ref_counts.proofs.AttrKeys.{on_ok}
use Rattle.ref_counts.proofs.Relinked.{place_changed}
use Rattle.ref_counts.proofs.Told.{IfTold-same, IfTold-weaker2}
use Rattle.ref_counts.proofs.links.relink.Goals as goal

pub returns-clause-relinked : goal.returns-clause-relinked
returns-clause-relinked g c =
    let pushed : c.push-2.new.self ≡ c.args.batch.now ++ link_set c.args.spot.inode c.args.spot.blockno c.args.block ∷ [] =
    c.in_ok-push-2.ensures.ok ∙ ap (λ (change : Change). c.args.batch.now ++ change ∷ []) c.link_change-2.ensures in
    on_ok _ _ (λ own.
    IfTold-weaker2 (g.K.Keeper.told c.args.keeper.now) _ _ _
    (λ t found added. place_changed t c.args.batch.now _ _ c.args.spot.inode c.args.spot.blockno c.args.block _ (sym found ∙ c.in-Some.is ∙ ap (λ (l : InodeBlock). Some l) (sym c.old.view_is)) pushed added)
    c.in_ok-old.ensures.row
    (IfTold-same (g.K.Keeper.told c.args.keeper.now) _ _ c.in_ok-old.ensures.same own))
    c.lower_block.result c.lower_block.ensures.lowered
