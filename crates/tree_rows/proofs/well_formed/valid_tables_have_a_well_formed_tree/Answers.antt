use Rattle.tree_rows.proofs.WellFormed.Tree.{IsWellFormed_from_valid, HasTimes_from_ranges}
use Rattle.tree_rows.proofs.well_formed.valid_tables_have_a_well_formed_tree.Goals as goal

pub returns-clause-well_formed : goal.returns-clause-well_formed
returns-clause-well_formed c t whole valid ranges files same handles = IsWellFormed_from_valid t whole valid ranges same files handles

pub returns-clause-times : goal.returns-clause-times
returns-clause-times c = HasTimes_from_ranges
