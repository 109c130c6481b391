use Rattle.tree_laws.proofs.Rename.Entry.{renamed_tree}
use Rattle.tree_laws.proofs.renames.renamed_stays_one_tree.Goals as goal

pub returns : goal.returns
returns c = λ t pass now parent new_parent name new_name ordered names below tree files. renamed_tree t pass now parent new_parent name new_name ordered names below tree files
