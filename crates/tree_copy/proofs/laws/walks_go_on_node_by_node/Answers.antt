use Rattle.tree_copy.proofs.WalkOrder.{at_and_below_walked, walked_new, walked_seen}
use Rattle.tree_copy.proofs.laws.walks_go_on_node_by_node.Goals as goal

pub returns : goal.returns
returns c = record { first = at_and_below_walked; seen = walked_seen; new = walked_new }
