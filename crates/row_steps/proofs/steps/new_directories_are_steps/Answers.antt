use Rattle.row_steps.proofs.NewNodes.{new_directory_step}
use Rattle.row_steps.proofs.steps.new_directories_are_steps.Goals as goal

pub returns : goal.returns
returns c = new_directory_step
