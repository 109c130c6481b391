use Rattle.std.proofs.Common.{refl, sym, ◌∙◌}
use Rattle.ref_counts.proofs.Named.{if_ok}
use Rattle.ref_counts.proofs.Told.{IfTold-same, IfTold-weaker, IfTold-weaker2}
use Rattle.tree_copy.proofs.CopyGoes.{goes_done}
use Rattle.tree_copy.proofs.walk.step.Goals as goal

pub returns-in-Some-clause-goes : goal.returns-in-Some-clause-goes
returns-in-Some-clause-goes g c =
    let told = g.K.Keeper.told c.args.keeper.now in
    if_ok _ _
    (λ there own.
    IfTold-weaker2 told _ _ _
    (λ t next turned whole source parent name top directory k goes. turned whole source parent name top directory k goes (sym next ∙ c.in-Some.is))
    c.in_ok-entry.ensures.next (IfTold-same told _ _ c.in_ok-entry.ensures.same own))
    c.turn.result c.turn.ensures.goes

pub returns-in-None-clause-goes : goal.returns-in-None-clause-goes
returns-in-None-clause-goes g c =
    IfTold-weaker (g.K.Keeper.told c.args.keeper.now) _ _
    (λ t next whole source parent name top directory k goes. (
      refl,
      goes_done t whole source parent c.args.now name top directory c.args.params.now k c.args.copied.now c.args.level _ goes (sym next ∙ c.in-None.is),
    ))
    c.in_ok-entry.ensures.next
