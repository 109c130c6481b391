use Rattle.std.proofs.Common.{◌≡◌, Bool, true, false, Result, sym, refl, subst, ◌∙◌, arith}
use Rattle.std.proofs.lemmas.Result.{err_from_is_err_and}
use Rattle.fsck_run.specs.declared.fault.FsckFault.{FsckFault}
use Rattle.fsck_run.specs.declared.stage.Stage.TheVariants as stages
use Rattle.fsck_run.specs.declared.stages.Stepped.TheVariants as stepped
use Rattle.fsck_run.specs.Check.{Move}
use Rattle.fsck_run.specs.Progress.{progress_of}
use Rattle.fsck_run.specs.Steps.{IsStagedTo, IsStep}
use Rattle.fsck_run.proofs.StageSteps.{step_over}
use Rattle.fsck_run.proofs.StepStages.{goes_on_told, staged_made, stopped_before}
use Rattle.fsck_run.proofs.stages.Check.step.Goals as goal
use Rattle.fsck_run.proofs.stages.Check.step.Goals.{in-Over, in_default}

pub returns-then-matches-clause-step : goal.returns-then-matches-clause-step
returns-then-matches-clause-step g c = λ t o told held ordered keys_ordered.
    let over : c.loop-stage.self.stage ≡ stages.Over = elim c.match-matches.branch [
      | in-Over w ↦ w.in-Over.is
      | in_default w ↦ absurd (let clash : false ≡ true = sym w.matches-is ∙ c.if-matches.true in cc clash)
    ] in
    rw (c.loop-stage.invariant.step t o told held ordered keys_ordered ∙ step_over (progress_of c.loop-stage.self t o) over)
    (record {
      tables_are = c.loop-stage.invariant.tables t o told held ordered keys_ordered;
      store_is = c.loop-stage.invariant.store t o told held ordered keys_ordered;
      lines_are = c.replace-findings.ensures.value;
    })

pub returns-in_err-take_stage-clause-stopped : goal.returns-in_err-take_stage-clause-stopped
returns-in_err-take_stage-clause-stopped g c =
    let p = err_from_is_err_and c.from_residual.result c.from_residual.ensures.1 in
    rw (p.1, p.2) (λ t o told held ordered keys_ordered.
    stopped_before _ (progress_of c.args.self.now t o) (progress_of c.loop-stage.self t o) _ _ (c.loop-stage.invariant.step t o told held ordered keys_ordered) refl refl
    (c.in_err-take_stage.ensures.stopped t o (c.loop-stage.invariant.tables t o told held ordered keys_ordered)
    (c.loop-stage.invariant.store t o told held ordered keys_ordered) ordered keys_ordered))

pub returns-then-branch-clause-step : goal.returns-then-branch-clause-step
returns-then-branch-clause-step g c = λ t o told held ordered keys_ordered.
    let s = progress_of c.loop-stage.self t o in
    let tables = g.K.Keeper.told c.take_stage.new.keeper in
    let store = g.L.Link.told c.take_stage.new.link in
    subst (λ (out : Result Move FsckFault). IsStep out stepped.More c.take_stage.new.self tables store)
    (sym (c.loop-stage.invariant.step t o told held ordered keys_ordered))
    (staged_made s c.take_stage.new.self tables store
    (subst (λ (b : Bool). IsStagedTo b s c.take_stage.new.self tables store) c.if-branch.true
    (c.in_ok-take_stage.ensures.staged t o (c.loop-stage.invariant.tables t o told held ordered keys_ordered)
    (c.loop-stage.invariant.store t o told held ordered keys_ordered) ordered keys_ordered)))

pub loop-stage-preserved : goal.loop-stage-preserved
loop-stage-preserved g c =
    let told = g.K.Keeper.told in
    let held = g.L.Link.told in
    let on = goes_on_told c.args.self.now c.loop-stage.self c.take_stage.new.self (told c.args.keeper.now) (told c.loop-stage.keeper) (told c.take_stage.new.keeper)
    (held c.args.link.now) (held c.loop-stage.link) (held c.take_stage.new.link) c.in_ok-take_stage.field-0 c.loop-stage.invariant.tables
    c.loop-stage.invariant.store c.loop-stage.invariant.step c.in_ok-take_stage.ensures.staged c.if-branch.false in
    record {
      keeper = omega (arith, c.take_stage.ensures.keeper_cause.later, c.loop-stage.invariant.keeper);
      link = omega (arith, c.take_stage.ensures.link_cause.later, c.loop-stage.invariant.link);
      tables = λ t o a b d e. (on t o a b d e).0;
      store = λ t o a b d e. (on t o a b d e).1;
      step = λ t o a b d e. (on t o a b d e).2;
    }
