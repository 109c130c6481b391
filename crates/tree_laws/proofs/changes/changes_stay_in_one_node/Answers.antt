use Rattle.tree_laws.proofs.File.Alone.{stays_alone}
use Rattle.tree_laws.proofs.changes.changes_stay_in_one_node.Goals as goal

pub returns : goal.returns
returns c = λ t pass now inode op names. stays_alone t pass now inode op names
