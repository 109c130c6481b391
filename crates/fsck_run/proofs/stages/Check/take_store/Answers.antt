use Rattle.std.proofs.Common.{refl, ◌∙◌}
use Rattle.std.proofs.lemmas.Result.{err_from_is_err_and}
use Rattle.fsck_run.proofs.Refused.{IsStopped-kept}
use Rattle.fsck_run.proofs.StageSteps.{store_refused}
use Rattle.fsck_run.proofs.StepStages.{store_staged}
use Rattle.fsck_run.proofs.stages.Check.take_store.Goals as goal

pub returns-clause-staged : goal.returns-clause-staged
returns-clause-staged g c = λ store t o told held ordered keys_ordered.
    store_staged _ _ _ _ _ c.requires (c.in_ok-found.ensures.found t told ordered) (c.store_of.ensures.same ∙ told) held c.in_ok-note_store.ensures.noted

pub returns-in_err-found-clause-stopped : goal.returns-in_err-found-clause-stopped
returns-in_err-found-clause-stopped g c =
    let p = err_from_is_err_and c.from_residual.result c.from_residual.ensures.1 in
    rw (p.1, p.2) (λ store t o told held ordered keys_ordered.
    IsStopped-kept _ _ _ _ (store_refused _ _ c.requires (c.in_err-found.ensures.refusal t told)) (c.store_of.ensures.same ∙ told) held)
