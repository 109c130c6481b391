use Rattle.tree_laws.proofs.Removal.Law.{removed_after}
use Rattle.tree_laws.proofs.removals.reached_removal_removes_what_it_names.Goals as goal

pub returns : goal.returns
returns c = λ block_size time calls pass now parent name done. removed_after block_size time calls pass now parent name done
