use Rattle.std.proofs.Common.{refl, ◌∙◌}
use Rattle.std.proofs.lemmas.Result.{err_from_is_err_and}
use Rattle.fsck_run.proofs.Refused.{IsStopped-kept}
use Rattle.fsck_run.proofs.StageSteps.{start_refused}
use Rattle.fsck_run.proofs.StepStages.{start_staged}
use Rattle.fsck_run.proofs.stages.Check.take_start.Goals as goal

pub returns-clause-staged : goal.returns-clause-staged
returns-clause-staged g c = λ t o told held ordered keys_ordered.
    start_staged _ _ _ _ _ _ c.requires (c.in_ok-started.ensures.started t o told held ordered keys_ordered) (c.begin_check.ensures.store ∙ held) (λ u p. refl)

pub returns-in_err-started-clause-stopped : goal.returns-in_err-started-clause-stopped
returns-in_err-started-clause-stopped g c =
    let p = err_from_is_err_and c.from_residual.result c.from_residual.ensures.1 in
    rw (p.1, p.2) (λ t o told held ordered keys_ordered.
    IsStopped-kept _ _ _ _ (start_refused _ _ c.requires (c.in_err-started.ensures.refusal t o told held ordered keys_ordered))
    (c.in_err-started.ensures.refused ∙ told) (c.begin_check.ensures.store ∙ held))
