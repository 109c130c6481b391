use Rattle.row_steps.proofs.NewNodes.{new_file_step}
use Rattle.row_steps.proofs.steps.new_files_are_steps.Goals as goal

pub returns : goal.returns
returns c = new_file_step
