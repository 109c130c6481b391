use Rattle.std.proofs.Common.{◌∙◌, sym, ap}
use Rattle.std.specs.Option.{option_copied}
use Rattle.ref_counts.proofs.LastChanges.{inode-kept, inode-said}
use Rattle.ref_counts.proofs.Named.{if_ok}
use Rattle.ref_counts.proofs.Told.{IfTold-all, IfTold-weaker}
use Rattle.ref_counts.proofs.pending.pending_inode.Goals as goal

pub returns-in-Some-clause-row : goal.returns-in-Some-clause-row
returns-in-Some-clause-row g c =
    IfTold-all (g.K.Keeper.told c.args.keeper.now) _
    (λ t. c.inode_put.ensures ∙ inode-said c.args.id c.args.batch.now t c.in-Some.change.now (sym c.last.ensures ∙ ap option_copied c.in-Some.is))

pub returns-in-None-clause-row : goal.returns-in-None-clause-row
returns-in-None-clause-row g c =
    if_ok _ _
    (λ r own. IfTold-weaker (g.K.Keeper.told c.args.keeper.now) _ _ (λ t is. is ∙ inode-kept c.args.id c.args.batch.now t (sym c.last.ensures ∙ ap option_copied c.in-None.is)) own)
    c.inode.result c.inode.ensures.row
