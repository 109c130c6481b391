use Rattle.row_steps.proofs.OldNodes.{old_directory_step}
use Rattle.row_steps.proofs.steps.old_directories_are_steps.Goals as goal

pub returns : goal.returns
returns c = old_directory_step
