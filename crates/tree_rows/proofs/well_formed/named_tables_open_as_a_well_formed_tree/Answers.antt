use Rattle.tree_rows.proofs.WellFormed.Opened.{IsWellFormed_from_named}
use Rattle.tree_rows.proofs.well_formed.named_tables_open_as_a_well_formed_tree.Goals as goal

pub returns : goal.returns
returns c = IsWellFormed_from_named
