use Rattle.core_model.proofs.Runs.{occurring-append}
use Rattle.core_model.proofs.occurring.longer_runs_have_more_blocks.Goals as goal

pub returns : goal.returns
returns c = occurring-append
