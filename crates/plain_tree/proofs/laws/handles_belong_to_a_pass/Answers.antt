use Rattle.plain_tree.proofs.Changes.{change_after}
use Rattle.plain_tree.proofs.Handles.{own-change}
use Rattle.plain_tree.proofs.laws.handles_belong_to_a_pass.Goals as goal

pub returns : goal.returns
returns c = λ t pass other now handle op below apart differs. own-change t pass other handle _ (change_after t pass now op) below apart differs
