use Rattle.std.proofs.Common.{refl, ap, ◌∙◌}
use Rattle.std.specs.Prelude.{option_map}
use Rattle.std.proofs.lemmas.Result.{err_from_is_err_and}
use Rattle.fsck_run.specs.Passes.{committed}
use Rattle.fsck_run.proofs.Refused.{IsRefusal-of_device, IsStopped-kept}
use Rattle.fsck_run.proofs.StepStages.{rows_staged}
use Rattle.fsck_run.proofs.stages.Check.delete_rows.Goals as goal

pub returns-clause-staged : goal.returns-clause-staged
returns-clause-staged g c = λ store t o told held ordered keys_ordered.
    rows_staged _ _ _ _ _ c.requires (c.in_ok-made.ensures.ok ∙ ap (option_map (committed c.args.self.now.rows)) told) c.in_ok-made.ensures.made held (λ u p. refl)

pub returns-in_err-made-clause-stopped : goal.returns-in_err-made-clause-stopped
returns-in_err-made-clause-stopped g c =
    let p = err_from_is_err_and c.from_residual.result c.from_residual.ensures.1 in
    rw (p.1, p.2) (λ store t o told held ordered keys_ordered.
    IsStopped-kept _ _ _ _ (IsRefusal-of_device _ _ c.in_err-made.ensures.of_device) (c.in_err-made.ensures.err ∙ told) held)
