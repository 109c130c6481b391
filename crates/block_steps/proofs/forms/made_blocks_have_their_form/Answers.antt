use Rattle.block_steps.proofs.FormsOfBlocks.{form_at-made, form_of_row-made_other, form_of_row-made_own}
use Rattle.block_steps.proofs.forms.made_blocks_have_their_form.Goals as goal

pub returns-clause-own : goal.returns-clause-own
returns-clause-own c = form_of_row-made_own

pub returns-clause-places : goal.returns-clause-places
returns-clause-places c = λ t p object size inode blockno digest blocks o. form_at-made t p object size digest blocks o inode blockno

pub returns-clause-blocks : goal.returns-clause-blocks
returns-clause-blocks c = λ t p object size id digest blocks o there. form_of_row-made_other t p object size digest blocks o id there
