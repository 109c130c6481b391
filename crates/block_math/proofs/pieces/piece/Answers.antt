use Rattle.block_math.proofs.PieceLemmas.{IsPiece-parts}
use Rattle.block_math.proofs.pieces.piece.Goals as goal

pub returns : goal.returns
returns c =
    IsPiece-parts c.args.off c.args.len c.args.bs c.args.k c.saturating_sub-from.result c.min-end.result c.requires.size c.requires.there
    c.saturating_sub-from.ensures c.min-end.ensures
