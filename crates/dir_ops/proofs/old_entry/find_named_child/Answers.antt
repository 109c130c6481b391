use Rattle.std.proofs.Common.{sym, ◌∙◌}
use Rattle.ref_counts.proofs.Named.{if_ok}
use Rattle.ref_counts.proofs.Told.{IfTold-weaker, IfTold-weaker2, IfTold-same}
use Rattle.dir_ops.proofs.OldEntries.{child_named_is, child_named_none}
use Rattle.dir_ops.proofs.old_entry.find_named_child.Goals as goal

pub returns-in-Some-clause-found : goal.returns-in-Some-clause-found
returns-in-Some-clause-found g c =
    let told = g.K.Keeper.told c.args.keeper.now in
    if_ok _ _ (λ found own.
    IfTold-weaker2 told _ _ _ (λ t entry row v unique. row ∙ child_named_is t c.args.parent c.args.name.now c.in-Some.entry (sym c.in-Some.is ∙ entry v unique))
    c.in_ok-entry.ensures.found (IfTold-same told _ _ c.in_ok-entry.ensures.same own))
    c.find_child_of.result c.find_child_of.ensures.found

pub returns-in-None-clause-found : goal.returns-in-None-clause-found
returns-in-None-clause-found g c =
    IfTold-weaker (g.K.Keeper.told c.args.keeper.now) _ _
    (λ t entry v unique. child_named_none t c.args.parent c.args.name.now (sym c.in-None.is ∙ entry v unique)) c.in_ok-entry.ensures.found
