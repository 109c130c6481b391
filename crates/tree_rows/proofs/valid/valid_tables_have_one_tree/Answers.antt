use Rattle.tree_rows.proofs.Rooted.{is_one_tree}
use Rattle.tree_rows.proofs.valid.valid_tables_have_one_tree.Goals as goal

pub returns : goal.returns
returns c t whole valid same = is_one_tree t valid whole same
