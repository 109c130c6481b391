use Rattle.tree_laws.proofs.Rename.Entry.{reached_renamed}
use Rattle.tree_laws.proofs.renames.reached_renames_move_one_entry.Goals as goal

pub returns : goal.returns
returns c = λ block_size time calls t pass now parent new_parent name new_name is done apart. reached_renamed block_size time calls t pass now parent new_parent name new_name is done apart
