use Rattle.tree_copy.proofs.LegalNames.{AreAttrNames-row, entry_name_fits}
use Rattle.tree_copy.proofs.laws.copies_use_legal_names.Goals as goal

pub returns-clause-attributes : goal.returns-clause-attributes
returns-clause-attributes c t whole r same well there = AreAttrNames-row t whole same well r there

pub returns-clause-entries : goal.returns-clause-entries
returns-clause-entries c name is = entry_name_fits name is
