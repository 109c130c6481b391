use Rattle.row_steps.proofs.Renaming.{itself_step, other_name_step, replaced_step, same_name_step}
use Rattle.row_steps.proofs.renames.renames_are_steps.Goals as goal

pub returns : goal.returns
returns c = record { itself = itself_step; same_name = same_name_step; other_name = other_name_step; replaced = replaced_step }
