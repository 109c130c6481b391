use Rattle.row_steps.proofs.OldFiles.{old_file_step}
use Rattle.row_steps.proofs.steps.old_files_are_steps.Goals as goal

pub returns : goal.returns
returns c = old_file_step
