use Rattle.core_model.proofs.LinkedForms.{form_at-put_block, form_at-without_block, form_at-put_same_form}
use Rattle.core_model.proofs.forms.unnamed_blocks_leave_forms.Goals as goal

pub returns-clause-put : goal.returns-clause-put
returns-clause-put c = form_at-put_block

pub returns-clause-deleted : goal.returns-clause-deleted
returns-clause-deleted c = form_at-without_block

pub returns-clause-counted : goal.returns-clause-counted
returns-clause-counted c = form_at-put_same_form
