use Rattle.core_model.proofs.LinkedForms.{form_at-put_same, form_at-put_other, form_at-without_same, form_at-without_other}
use Rattle.core_model.proofs.forms.forms_follow_links.Goals as goal

pub returns-clause-put : goal.returns-clause-put
returns-clause-put c = form_at-put_same

pub returns-clause-put_elsewhere : goal.returns-clause-put_elsewhere
returns-clause-put_elsewhere c = form_at-put_other

pub returns-clause-deleted : goal.returns-clause-deleted
returns-clause-deleted c = form_at-without_same

pub returns-clause-deleted_elsewhere : goal.returns-clause-deleted_elsewhere
returns-clause-deleted_elsewhere c = form_at-without_other
