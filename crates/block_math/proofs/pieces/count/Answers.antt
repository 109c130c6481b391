use Rattle.std.proofs.Common.{arith}
use Rattle.block_math.proofs.PieceLemmas.{piece_start-end}
use Rattle.block_math.proofs.pieces.count.Goals as goal

pub returns-clause-whole : goal.returns-clause-whole
returns-clause-whole c = piece_start-end c.args.off c.args.len c.args.bs c.requires.size (omega arith)
