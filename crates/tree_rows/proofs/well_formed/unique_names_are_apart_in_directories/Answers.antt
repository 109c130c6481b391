use Rattle.tree_rows.proofs.Validity.Apart.{differ_from_unique_names}
use Rattle.tree_rows.proofs.well_formed.unique_names_are_apart_in_directories.Goals as goal

pub returns : goal.returns
returns c = differ_from_unique_names
