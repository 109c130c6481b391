use Rattle.row_steps.proofs.LeftPlaces.{left_files_step}
use Rattle.row_steps.proofs.steps.left_files_are_steps.Goals as goal

pub returns : goal.returns
returns c = left_files_step
