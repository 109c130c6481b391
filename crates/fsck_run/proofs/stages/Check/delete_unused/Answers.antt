use Rattle.std.proofs.Common.{Bool, refl, subst, ◌∙◌}
use Rattle.std.proofs.lemmas.Result.{err_from_is_err_and}
use Rattle.fsck_run.specs.DoomedKeys.{left, IsFirstGone}
use Rattle.fsck_run.proofs.StepStages.{unused_staged, none_unused_staged, unused_refused}
use Rattle.fsck_run.proofs.stages.Check.delete_unused.Goals as goal

pub returns-then-branch-clause-staged : goal.returns-then-branch-clause-staged
returns-then-branch-clause-staged g c = λ tables t o told held ordered keys_ordered.
    unused_staged _ _ (left c.delete_first.new.self) _ _ told c.requires
    (subst (λ (b : Bool). IsFirstGone b (left c.args.self.now.unused) o (left c.delete_first.new.self) (g.L.Link.told c.delete_first.new.link)) c.if-branch.true
    (c.in_ok-delete_first.ensures.gone o held))
    (λ u p. refl)

pub returns-clause-staged : goal.returns-clause-staged
returns-clause-staged g c = λ tables t o told held ordered keys_ordered.
    none_unused_staged _ _ (left c.delete_first.new.self) _ _ told c.requires
    (subst (λ (b : Bool). IsFirstGone b (left c.args.self.now.unused) o (left c.delete_first.new.self) (g.L.Link.told c.delete_first.new.link)) c.if-branch.false
    (c.in_ok-delete_first.ensures.gone o held))
    (λ u p. refl)

pub returns-in_err-delete_first-clause-stopped : goal.returns-in_err-delete_first-clause-stopped
returns-in_err-delete_first-clause-stopped g c =
    let p = err_from_is_err_and c.from_residual.result c.from_residual.ensures.1 in
    rw (p.1, p.2) (λ tables t o told held ordered keys_ordered.
    unused_refused _ _ _ (g.L.Link.told c.args.link.now) _ c.requires c.in_err-delete_first.ensures.of_device told held c.in_err-delete_first.ensures.refused)
