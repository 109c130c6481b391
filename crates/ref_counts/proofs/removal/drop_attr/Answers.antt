use Rattle.ref_counts.proofs.AttrKeys.{attr_added, on_ok}
use Rattle.ref_counts.proofs.Told.{IfTold-weaker}
use Rattle.ref_counts.proofs.removal.drop_attr.Goals as goal

pub returns-clause-dropped : goal.returns-clause-dropped
returns-clause-dropped g c =
    on_ok _ _ (λ own.
    IfTold-weaker (g.K.Keeper.told c.args.keeper.now) _ _
    (λ t added. attr_added t c.args.batch.now _ _ c.args.inode c.args.name_id c.in_ok-push.ensures.ok added) own)
    c.name_down.result c.name_down.ensures.lowered
