use Rattle.tree_laws.proofs.Growth.Law.{few-made_tree, grows-tree_after}
use Rattle.tree_laws.proofs.growing.names_of_inodes_grow_by_one.Goals as goal

pub returns : goal.returns
returns c = record { grows = grows-tree_after; made = few-made_tree }
