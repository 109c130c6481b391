use Rattle.row_steps.proofs.OldFiles.{old_link_step}
use Rattle.row_steps.proofs.steps.old_links_are_steps.Goals as goal

pub returns : goal.returns
returns c = old_link_step
