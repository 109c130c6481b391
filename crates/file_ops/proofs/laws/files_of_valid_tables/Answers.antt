use Rattle.file_ops.proofs.DrawnFiles.{file_drawn, file_ends}
use Rattle.file_ops.proofs.laws.files_of_valid_tables.Goals as goal

pub returns-clause-drawn : goal.returns-clause-drawn
returns-clause-drawn c = file_drawn

pub returns-clause-ends : goal.returns-clause-ends
returns-clause-ends c = file_ends
