use Rattle.tree_laws.proofs.Removal.Law.{removed_in}
use Rattle.tree_laws.proofs.removals.removal_removes_what_it_names.Goals as goal

pub returns : goal.returns
returns c = λ t ordered names tree orphans pass now parent name done. removed_in t ordered names tree orphans pass now parent name done
