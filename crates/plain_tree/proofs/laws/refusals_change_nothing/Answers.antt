use Rattle.std.proofs.Common.{refl}
use Rattle.plain_tree.proofs.Replies.{same_if_refused}
use Rattle.plain_tree.proofs.laws.refusals_change_nothing.Goals as goal

pub returns : goal.returns
returns c = λ t pass now op errno refused. same_if_refused t pass now op errno _ refl refused
