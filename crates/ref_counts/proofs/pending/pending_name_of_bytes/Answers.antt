use Rattle.std.proofs.Common.{◌∙◌, sym, ap, None, Some}
use Rattle.ref_counts.specs.Pending.{with_bytes}
use Rattle.ref_counts.proofs.LastChanges.{name_of_bytes-found}
use Rattle.ref_counts.proofs.Told.{IfTold-same, IfTold-weaker, IfTold-weaker2}
use Rattle.ref_counts.proofs.pending.pending_name_of_bytes.Goals as goal

pub returns-in_ok-pending_name-in-Some-clause-row : goal.returns-in_ok-pending_name-in-Some-clause-row
returns-in_ok-pending_name-in-Some-clause-row g c =
    let told = g.K.Keeper.told c.args.keeper.now in
    let name = c.args.name.now in
    IfTold-weaker2 told _ _ _
    (λ t own row ordered unique.
    c.with_bytes.ensures ∙ ap (with_bytes name) row
    ∙ name_of_bytes-found c.args.batch.now t name (Some c.in-Some.id) ordered unique (sym c.in-Some.is ∙ own))
    c.in_ok-id.ensures.id
    (IfTold-same told _ _ c.in_ok-id.ensures.same c.in_ok-pending_name-in-Some.ensures.row)

pub returns-in-None-clause-row : goal.returns-in-None-clause-row
returns-in-None-clause-row g c =
    IfTold-weaker (g.K.Keeper.told c.args.keeper.now) _ _
    (λ t own ordered unique.
    name_of_bytes-found c.args.batch.now t c.args.name.now None ordered unique (sym c.in-None.is ∙ own))
    c.in_ok-id.ensures.id
