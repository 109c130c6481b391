use Rattle.block_math.proofs.PieceLemmas.{piece_start-first, piece_start-each, piece_start-whole}
use Rattle.block_math.proofs.laws.pieces_join.Goals as goal

pub returns-clause-first : goal.returns-clause-first
returns-clause-first c = piece_start-first

pub returns-clause-each : goal.returns-clause-each
returns-clause-each c = piece_start-each

pub returns-clause-whole : goal.returns-clause-whole
returns-clause-whole c = piece_start-whole
