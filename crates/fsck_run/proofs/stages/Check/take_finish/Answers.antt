use Rattle.std.proofs.Common.{refl, ◌∙◌}
use Rattle.std.proofs.lemmas.Result.{err_from_is_err_and}
use Rattle.fsck_run.proofs.Refused.{IsStopped-kept}
use Rattle.fsck_run.proofs.StageSteps.{finish_refused}
use Rattle.fsck_run.proofs.StepStages.{finish_staged}
use Rattle.fsck_run.proofs.stages.Check.take_finish.Goals as goal

pub returns-clause-staged : goal.returns-clause-staged
returns-clause-staged g c = λ store t o told held ordered keys_ordered.
    finish_staged _ _ _ _ c.requires (c.in_ok-finish.ensures.finished t told) held (λ u p. refl)

pub returns-in_err-finish-clause-stopped : goal.returns-in_err-finish-clause-stopped
returns-in_err-finish-clause-stopped g c =
    let p = err_from_is_err_and c.from_residual.result c.from_residual.ensures.1 in
    rw (p.1, p.2) (λ store t o told held ordered keys_ordered.
    IsStopped-kept _ _ _ _ (finish_refused _ _ c.requires (c.in_err-finish.ensures.refusal t told)) (c.in_err-finish.ensures.refused ∙ told) held)
