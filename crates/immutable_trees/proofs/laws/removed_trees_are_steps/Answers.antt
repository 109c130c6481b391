use Rattle.immutable_trees.proofs.RemovedSteps.{removed_step}
use Rattle.immutable_trees.proofs.laws.removed_trees_are_steps.Goals as goal

pub returns : goal.returns
returns c t whole directory top d n gone pass parent now inode name v well same passes names are found bytes entry child bare =
    removed_step t whole directory top d n gone pass parent now inode name v well same passes names are found bytes entry child bare
