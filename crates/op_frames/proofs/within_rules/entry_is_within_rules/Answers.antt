use Rattle.std.proofs.Common.{arith}
use Rattle.op_frames.proofs.Rules.{entry_allows}
use Rattle.op_frames.proofs.within_rules.entry_is_within_rules.Goals as goal

pub returns : goal.returns
returns c = entry_allows c.args.entry.now (omega arith) c.requires
