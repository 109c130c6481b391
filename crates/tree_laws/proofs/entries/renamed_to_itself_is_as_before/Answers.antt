use Rattle.tree_laws.proofs.File.Alone.{renamed_to_itself}
use Rattle.tree_laws.proofs.entries.renamed_to_itself_is_as_before.Goals as goal

pub returns : goal.returns
returns c = λ t pass now parent new_parent inode name new_name old new. renamed_to_itself t pass now parent new_parent inode name new_name old new
