use Rattle.fsck_run.proofs.WholeChecks.{rest_after-more, rest_after-done, rest_after-refused}
use Rattle.fsck_run.proofs.laws.steps_make_the_check.Goals as goal

pub returns : goal.returns
returns c = record {
  more = rest_after-more;
  done = rest_after-done;
  refused = rest_after-refused;
}
