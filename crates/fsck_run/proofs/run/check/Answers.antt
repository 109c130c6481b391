use Rattle.std.proofs.Common.{refl, sym, ◌∙◌, arith}
use Rattle.std.proofs.lemmas.Result.{err_from_is_err_and}
use Rattle.fsck_run.proofs.CheckSteps.{IsUnderCheck-begun, step_more, step_done, step_refused, step_unchanged, out_of_steps}
use Rattle.fsck_run.proofs.run.check.Goals as goal

pub loop-step-init : goal.loop-step-init
loop-step-init g c = record {
  keeper = omega arith;
  link = omega arith;
  under = λ t o told held ordered keys_ordered. IsUnderCheck-begun t o c.begin-check.result _ _ (c.begin-check.ensures t o) told held;
}

pub returns-in_err-findings-clause-broken_off : goal.returns-in_err-findings-clause-broken_off
returns-in_err-findings-clause-broken_off g c =
    let p = err_from_is_err_and c.from_residual.result c.from_residual.ensures.1 in
    rw (p.1, p.2) (λ t o told held ordered keys_ordered.
    step_refused t o ordered keys_ordered c.loop-step.check c.step.new.self (g.K.Keeper.told c.loop-step.keeper) (g.K.Keeper.told c.step.new.keeper)
    (g.L.Link.told c.loop-step.link) (g.L.Link.told c.step.new.link) (c.loop-step.invariant.under t o told held ordered keys_ordered)
    c.in_err-findings.field-0.0 c.in_err-findings.ensures.stopped)

pub returns-in_err-findings-clause-unchanged : goal.returns-in_err-findings-clause-unchanged
returns-in_err-findings-clause-unchanged g c =
    let p = err_from_is_err_and c.from_residual.result c.from_residual.ensures.1 in
    rw (p.1, p.2) (λ t o told held ordered keys_ordered.
    step_unchanged t o ordered keys_ordered c.loop-step.check c.step.new.self (g.K.Keeper.told c.loop-step.keeper) (g.K.Keeper.told c.step.new.keeper)
    (g.L.Link.told c.loop-step.link) (g.L.Link.told c.step.new.link) (c.loop-step.invariant.under t o told held ordered keys_ordered)
    c.in_err-findings.field-0.0 c.in_err-findings.ensures.stopped)

pub returns-in-Done-clause-checked : goal.returns-in-Done-clause-checked
returns-in-Done-clause-checked g c = λ t o told held ordered keys_ordered.
    step_done t o ordered keys_ordered c.loop-step.check c.step.new.self (g.K.Keeper.told c.loop-step.keeper) (g.K.Keeper.told c.step.new.keeper)
    (g.L.Link.told c.loop-step.link) (g.L.Link.told c.step.new.link) (c.loop-step.invariant.under t o told held ordered keys_ordered)
    c.in_ok-findings.field-0 c.in-Done.findings c.in-Done.is c.in_ok-findings.ensures.step

pub loop-step-preserved : goal.loop-step-preserved
loop-step-preserved g c = record {
  keeper = omega (arith, c.step.ensures.keeper_cause.later, c.loop-step.invariant.keeper);
  link = omega (arith, c.step.ensures.link_cause.later, c.loop-step.invariant.link);
  under = λ t o told held ordered keys_ordered.
      step_more t o ordered keys_ordered c.loop-step.check c.step.new.self (g.K.Keeper.told c.loop-step.keeper) (g.K.Keeper.told c.step.new.keeper)
      (g.L.Link.told c.loop-step.link) (g.L.Link.told c.step.new.link) (c.loop-step.invariant.under t o told held ordered keys_ordered)
      c.in_ok-findings.field-0 c.in_default.is c.in_ok-findings.ensures.step;
}

pub returns-clause-broken_off : goal.returns-clause-broken_off
returns-clause-broken_off g c = λ t o told held ordered keys_ordered.
    out_of_steps t o c.loop-step.check _ _ (c.loop-step.invariant.under t o told held ordered keys_ordered)
