use Rattle.plain_tree.specs.Calls.{tree_after_all}
use Rattle.plain_tree.specs.Tree.{Tree, made_tree}
use Rattle.plain_tree.proofs.Changes.{change_after}
use Rattle.plain_tree.proofs.Handles.{own-change}
use Rattle.plain_tree.proofs.Reached.{reached_below, reached_apart}
use Rattle.plain_tree.proofs.laws.others_keep_their_handles.Goals as goal

pub returns : goal.returns
returns c = λ block_size time calls pass other now handle op differs.
    let t : Tree = tree_after_all (made_tree block_size time) calls in
    own-change t pass other handle _ (change_after t pass now op) (reached_below block_size time calls) (reached_apart block_size time calls) differs
