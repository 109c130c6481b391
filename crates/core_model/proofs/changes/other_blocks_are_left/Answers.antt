use Rattle.core_model.proofs.Left.{IsLeft-written, IsLeft-resized}
use Rattle.core_model.proofs.changes.other_blocks_are_left.Goals as goal

pub returns-clause-written : goal.returns-clause-written
returns-clause-written c = IsLeft-written

pub returns-clause-resized : goal.returns-clause-resized
returns-clause-resized c = IsLeft-resized
