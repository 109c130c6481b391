use Rattle.std.proofs.Common.{◌∙◌, sym, ap}
use Rattle.std.specs.Option.{option_copied}
use Rattle.ref_counts.proofs.LastChanges.{params-kept, params-said}
use Rattle.ref_counts.proofs.Named.{if_ok}
use Rattle.ref_counts.proofs.Told.{IfTold-all, IfTold-weaker}
use Rattle.tree_copy.proofs.rows.pending_params.Goals as goal

pub returns-in-Some-clause-row : goal.returns-in-Some-clause-row
returns-in-Some-clause-row g c =
    let last = sym c.last.ensures ∙ ap option_copied c.in-Some.is in
    IfTold-all (g.K.Keeper.told c.args.keeper.now) _
    (λ t. c.params_set.ensures ∙ params-said c.args.batch.now t c.in-Some.change.now last)

pub returns-in-None-clause-row : goal.returns-in-None-clause-row
returns-in-None-clause-row g c =
    let none = sym c.last.ensures ∙ ap option_copied c.in-None.is in
    if_ok _ _
    (λ r own.
    IfTold-weaker (g.K.Keeper.told c.args.keeper.now) _ _ (λ t is. is ∙ params-kept c.args.batch.now t none) own)
    c.params.result c.params.ensures.row
