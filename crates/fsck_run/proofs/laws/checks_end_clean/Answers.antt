use Rattle.fsck_run.proofs.CleanEnds.{check_after-clean}
use Rattle.fsck_run.proofs.laws.checks_end_clean.Goals as goal

pub returns : goal.returns
returns c = check_after-clean
