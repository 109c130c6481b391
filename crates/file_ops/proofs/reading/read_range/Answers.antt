use Rattle.std.proofs.Common.{◌≡◌, ℕ, ◌+◌, ◌*◌, ◌/◌, ◌<◌, ◌≤◌, min, sym, ap, ◌∙◌, subst, arith}
use Rattle.sha2.specs.Sha256.{sha256}
use Rattle.std.specs.Prelude.{Contains}
use Rattle.std.proofs.lemmas.Result.{err_from_is_err_and}
use Rattle.block_math.specs.Ranges.{piece_count, piece_start}
use Rattle.core_model.specs.Changes.{touched_blocks}
use Rattle.plain_tree.specs.Files.{read_at}
use Rattle.file_ops.proofs.BothTold.{IfFile-same, IfFile-weaker, IfFile-weaker2}
use Rattle.file_ops.proofs.Losses.{IsLossAmong-at, IsLossWhere-same}
use Rattle.file_ops.proofs.Ranges.{Contains-numbers_from, read_more}
use Rattle.file_ops.proofs.reading.read_range.Goals as goal

pub returns-in_err-append_piece-clause-lost : goal.returns-in_err-append_piece-clause-lost
returns-in_err-append_piece-clause-lost g c =
    let low : c.loop-k.k < piece_count c.args.off c.args.len c.args.block_size = omega (arith, c.loop-k-test.true, c.count-pieces.ensures.count) in
    let there : Contains (touched_blocks c.args.block_size c.args.off c.args.len) c.piece-part.result.blockno =
    subst (Contains (touched_blocks c.args.block_size c.args.off c.args.len)) (sym c.piece-part.ensures.blockno)
    (Contains-numbers_from (c.args.off / c.args.block_size) (piece_count c.args.off c.args.len c.args.block_size) c.loop-k.k low) in
    let p = err_from_is_err_and c.from_residual-in_err-append_piece.result c.from_residual-in_err-append_piece.ensures.1 in
    rw (p.1, p.2)
    (IsLossAmong-at sha256 (g.K.Keeper.told c.args.keeper.now) (g.L.Link.told c.args.link.now) c.args.inode c.piece-part.result.blockno
    (λ t. touched_blocks c.args.block_size c.args.off c.args.len) c.in_err-append_piece.field-0.0 (λ t. there)
    (IsLossWhere-same _ sha256 (g.K.Keeper.told c.args.keeper.now) _ (g.L.Link.told c.args.link.now) _ c.in_err-append_piece.field-0.0
    c.loop-k.invariant.keeper_same c.loop-k.invariant.link_same c.in_err-append_piece.ensures.lost))

pub loop-k-preserved : goal.loop-k-preserved
loop-k-preserved g c =
    let start : ℕ = piece_start c.args.off c.args.block_size c.loop-k.k in
    let low : start < c.args.len = c.count-pieces.ensures.each c.loop-k.k c.loop-k-test.true in
    record {
      keeper_same = c.in_ok-append_piece.ensures.keeper_same ∙ c.loop-k.invariant.keeper_same;
      link_same = c.in_ok-append_piece.ensures.link_same ∙ c.loop-k.invariant.link_same;
      keeper_later = omega (arith, c.in_ok-append_piece.ensures.keeper_cause.later, c.loop-k.invariant.keeper_later);
      link_later = omega (arith, c.in_ok-append_piece.ensures.link_cause.later, c.loop-k.invariant.link_later);
      len = omega (arith, c.in_ok-append_piece.ensures.len, c.loop-k.invariant.len, c.piece-part.ensures.from, c.piece-part.ensures.until, low);
      bytes =
          λ size fits.
          let place : c.piece-part.result.blockno * c.args.block_size + c.piece-part.result.at ≡ c.args.off + min c.args.len start =
          omega (arith, c.piece-part.ensures.place, c.piece-part.ensures.from, low) in
          let end : min c.args.len start + c.piece-part.result.len ≡ min c.args.len (piece_start c.args.off c.args.block_size (c.loop-k.k + 1)) =
          omega (arith, c.piece-part.ensures.from, c.piece-part.ensures.until, low) in
          let inside : c.piece-part.result.blockno * c.args.block_size + c.piece-part.result.at + c.piece-part.result.len ≤ size =
          omega (arith, c.piece-part.ensures.place, c.piece-part.ensures.until, fits) in
          IfFile-weaker2 (g.K.Keeper.told c.args.keeper.now) (g.L.Link.told c.args.link.now) c.args.inode size c.args.block_size _ _ _
          (λ file long so_far piece.
          read_more c.args.off (min c.args.len start) c.piece-part.result.len _ (c.piece-part.result.blockno * c.args.block_size + c.piece-part.result.at) file
          c.loop-k.bytes.items c.append_piece.new.bytes.items piece so_far place end)
          (c.loop-k.invariant.bytes size fits)
          (IfFile-same (g.K.Keeper.told c.args.keeper.now) (g.L.Link.told c.args.link.now) c.args.inode size c.args.block_size _ _ _
          c.loop-k.invariant.keeper_same c.loop-k.invariant.link_same
          (c.in_ok-append_piece.ensures.bytes size c.args.block_size c.piece-part.ensures.within inside));
    }

pub returns-clause-bytes : goal.returns-clause-bytes
returns-clause-bytes g c =
    λ size fits.
    let all : c.loop-k.k ≡ c.count-pieces.result = omega (arith, c.loop-k-test.false, c.loop-k.auto.k-end) in
    let start : piece_start c.args.off c.args.block_size c.loop-k.k ≡ piece_start c.args.off c.args.block_size c.count-pieces.result = ap (piece_start c.args.off c.args.block_size) all in
    let whole : min c.args.len (piece_start c.args.off c.args.block_size c.loop-k.k) ≡ c.args.len = omega (arith, start, c.count-pieces.ensures.whole) in
    IfFile-weaker (g.K.Keeper.told c.args.keeper.now) (g.L.Link.told c.args.link.now) c.args.inode size c.args.block_size _ _
    (λ file long so_far. so_far ∙ ap (λ n. read_at c.args.off n file) whole)
    (c.loop-k.invariant.bytes size fits)
