use Rattle.tree_rows.proofs.Validity.Tables.{IsValid_from_tree}
use Rattle.tree_rows.proofs.well_formed.valid_from_a_well_formed_tree.Goals as goal

pub returns : goal.returns
returns c = IsValid_from_tree
