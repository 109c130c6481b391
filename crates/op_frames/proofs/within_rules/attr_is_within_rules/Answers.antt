use Rattle.std.proofs.Common.{arith}
use Rattle.op_frames.proofs.Rules.{attr_allows}
use Rattle.op_frames.proofs.within_rules.attr_is_within_rules.Goals as goal

pub returns : goal.returns
returns c = attr_allows c.args.attr.now c.requires (omega arith) (omega arith) (omega arith) (omega arith) (omega arith) (omega arith) (omega arith)
