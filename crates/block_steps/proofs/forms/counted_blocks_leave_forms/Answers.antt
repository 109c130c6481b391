use Rattle.block_steps.proofs.FormsOfBlocks.{form_at-counted, form_of_row-counted}
use Rattle.block_steps.proofs.forms.counted_blocks_leave_forms.Goals as goal

pub returns-clause-places : goal.returns-clause-places
returns-clause-places c = form_at-counted

pub returns-clause-blocks : goal.returns-clause-blocks
returns-clause-blocks c = form_of_row-counted
