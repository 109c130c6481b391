use Rattle.std.proofs.Common.{refl, ap, ◌∙◌}
use Rattle.std.proofs.lemmas.Result.{err_from_is_err_and}
use Rattle.fsck_run.specs.declared.stage.Stage.{Stage}
use Rattle.fsck_run.specs.Progress.{progress_of}
use Rattle.fsck_run.proofs.Refused.{IsStopped-kept}
use Rattle.fsck_run.proofs.StageSteps.{pass_refused}
use Rattle.fsck_run.proofs.StepStages.{batch_staged}
use Rattle.fsck_run.proofs.stages.Check.take_batch_stage.Goals as goal

pub returns-clause-staged : goal.returns-clause-staged
returns-clause-staged g c = λ store t o told held ordered keys_ordered.
    batch_staged c.args.pass _ _ _ _ _ _ c.requires (c.in_ok-made.ensures.taken t told ordered) held
    (λ u p. ap (λ (next : Stage). record (progress_of c.args.self.now u p) { stage = next; lines = c.take_batch.new.findings }) c.behind-self.ensures)

pub returns-in_err-made-clause-stopped : goal.returns-in_err-made-clause-stopped
returns-in_err-made-clause-stopped g c =
    let p = err_from_is_err_and c.from_residual.result c.from_residual.ensures.1 in
    rw (p.1, p.2) (λ store t o told held ordered keys_ordered.
    IsStopped-kept _ _ _ _ (pass_refused c.args.pass _ _ c.requires (c.in_err-made.ensures.refusal t told ordered)) (c.in_err-made.ensures.refused ∙ told) held)
