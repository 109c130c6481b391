use Rattle.core_model.proofs.Prepared.{IsValid-with_new_objects, HasUniqueNames-with_new_objects, Represents-with_new_objects, form_at-with_new_objects}
use Rattle.core_model.proofs.safe.prepared_tables_stay_valid.Goals as goal

pub returns-clause-valid : goal.returns-clause-valid
returns-clause-valid c = IsValid-with_new_objects

pub returns-clause-unique : goal.returns-clause-unique
returns-clause-unique c = HasUniqueNames-with_new_objects

pub returns-clause-tree : goal.returns-clause-tree
returns-clause-tree c = Represents-with_new_objects

pub returns-clause-forms : goal.returns-clause-forms
returns-clause-forms c = form_at-with_new_objects
