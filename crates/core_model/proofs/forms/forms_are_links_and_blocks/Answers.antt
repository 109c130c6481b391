use Rattle.core_model.proofs.LinkedForms.{form_at-same_tables}
use Rattle.core_model.proofs.forms.forms_are_links_and_blocks.Goals as goal

pub returns : goal.returns
returns c = form_at-same_tables
