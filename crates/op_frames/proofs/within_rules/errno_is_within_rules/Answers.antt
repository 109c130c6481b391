use Rattle.std.proofs.Common.{arith}
use Rattle.op_frames.proofs.Rules.{u16_allows}
use Rattle.op_frames.proofs.within_rules.errno_is_within_rules.Goals as goal

pub returns : goal.returns
returns c = u16_allows c.args.errno.now.0 (omega arith)
