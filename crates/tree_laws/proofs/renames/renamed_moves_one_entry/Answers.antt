use Rattle.tree_laws.proofs.Rename.Entry.{renamed_one}
use Rattle.tree_laws.proofs.renames.renamed_moves_one_entry.Goals as goal

pub returns : goal.returns
returns c = λ t pass now parent new_parent name new_name ordered names tree done apart. renamed_one t pass now parent new_parent name new_name ordered names tree done apart
