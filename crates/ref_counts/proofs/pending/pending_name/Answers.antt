use Rattle.std.proofs.Common.{◌∙◌, sym, ap}
use Rattle.std.specs.Option.{option_copied}
use Rattle.ref_counts.proofs.LastChanges.{name_at-kept, name_at-said}
use Rattle.ref_counts.proofs.Named.{if_ok}
use Rattle.ref_counts.proofs.Told.{IfTold-all, IfTold-weaker}
use Rattle.ref_counts.proofs.pending.pending_name.Goals as goal

pub returns-in_ok-name_put-in-Some-clause-row : goal.returns-in_ok-name_put-in-Some-clause-row
returns-in_ok-name_put-in-Some-clause-row g c =
    let last = sym c.last.ensures ∙ ap option_copied c.in-Some.is in
    IfTold-all (g.K.Keeper.told c.args.keeper.now) _
    (λ t. c.in_ok-name_put-in-Some.ensures ∙ name_at-said c.args.id c.args.batch.now t c.in-Some.change.now last)

pub returns-in-None-clause-row : goal.returns-in-None-clause-row
returns-in-None-clause-row g c =
    let none = sym c.last.ensures ∙ ap option_copied c.in-None.is in
    if_ok _ _
    (λ r own.
    IfTold-weaker (g.K.Keeper.told c.args.keeper.now) _ _ (λ t is. is ∙ name_at-kept c.args.id c.args.batch.now t none) own)
    c.name.result c.name.ensures.row
