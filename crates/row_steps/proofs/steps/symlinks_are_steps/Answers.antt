use Rattle.row_steps.proofs.NewNodes.{new_link_step}
use Rattle.row_steps.proofs.steps.symlinks_are_steps.Goals as goal

pub returns : goal.returns
returns c = new_link_step
