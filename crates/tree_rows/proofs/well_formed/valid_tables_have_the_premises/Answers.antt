use Rattle.tree_rows.proofs.Validity.Premises.{HasPremises_from_valid}
use Rattle.tree_rows.proofs.well_formed.valid_tables_have_the_premises.Goals as goal

pub returns : goal.returns
returns c = HasPremises_from_valid
