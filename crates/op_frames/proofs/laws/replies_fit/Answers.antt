use Rattle.op_frames.proofs.Replies.{short_by_rules}
use Rattle.op_frames.proofs.laws.replies_fit.Goals as goal

pub returns : goal.returns
returns c = short_by_rules
