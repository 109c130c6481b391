use Rattle.row_steps.proofs.Making.{new_row_there}
use Rattle.row_steps.proofs.steps.new_rows_are_found.Goals as goal

pub returns : goal.returns
returns c t p directory new more parent now name v made found id used = new_row_there t p directory new more parent now name v made found id used
