use Rattle.std.proofs.Common.{◌≡◌, ◌≢◌, ◌+◌, ◌-◌, List, ℕ, take, drop, length, true, sym, ap, ◌∙◌, subst, arith}
use Rattle.std.specs.Prelude.{Contains, not}
use Rattle.sha2.specs.Sha256.{sha256}
use Rattle.block_math.specs.Blocks.{piece_of, trimmed}
use Rattle.block_math.specs.Changes.{written_at}
use Rattle.block_math.specs.declared.parts.Piece.{Piece}
use Rattle.core_model.specs.Changes.{is_overwritten, rest_of}
use Rattle.file_ops.proofs.BothTold.{IfFile-all, IfFile-weaker}
use Rattle.file_ops.proofs.Losses.{IsLossWhere-weaker}
use Rattle.file_ops.proofs.Needed.{Contains-filter, IfErr-weaker, IfOk-both, not_overwritten-piece}
use Rattle.file_ops.proofs.Trimmed.{take-rest, trimmed-overwritten, trimmed-written}
use Rattle.file_ops.proofs.writing.written_block.Goals as goal

pub returns-then-p-block_size-clause-stored : goal.returns-then-p-block_size-clause-stored
returns-then-p-block_size-clause-stored g c =
    IfFile-all (g.K.Keeper.told c.args.keeper.now) (g.L.Link.told c.args.link.now) c.args.inode c.args.size c.args.block_size _
    (λ file long.
    let count : c.piece-p.result.from + c.piece-p.result.len - c.piece-p.result.from ≡ c.piece-p.result.len = omega arith in
    c.in_ok-trimmed_block.ensures.stored
    ∙ ap (λ n. trimmed (take n (drop c.piece-p.result.from c.args.new.now))) count
    ∙ trimmed-overwritten c.args.off c.args.block_size c.args.k c.args.new.now file c.piece-p.result c.piece-p.ensures c.if-p-block_size.true
    ∙ ap (λ n. trimmed (piece_of c.args.block_size (written_at c.args.off c.args.new.now file) n)) (sym c.in_ok-trimmed_block.ensures.blockno))

pub returns-clause-stored : goal.returns-clause-stored
returns-clause-stored g c =
    let p : Piece = c.piece-p.result in
    let count : p.from + p.len - p.from ≡ p.len = omega arith in
    let rest : c.rest-len.result ≡ rest_of c.args.block_size c.args.size p.blockno = c.rest-len.ensures in
    IfOk-both _ _ _
    (λ b number stored.
    IfFile-weaker (g.K.Keeper.told c.args.keeper.now) (g.L.Link.told c.args.link.now) c.args.inode c.args.size c.args.block_size _ _
    (λ file long is.
    is
    ∙ ap (λ n. trimmed (written_at p.at (take n (drop p.from c.args.new.now)) (take c.rest-len.result (piece_of c.args.block_size file p.blockno)))) count
    ∙ ap (λ n. trimmed (written_at p.at (take p.len (drop p.from c.args.new.now)) (take n (piece_of c.args.block_size file p.blockno)))) rest
    ∙ ap (λ (xs : List ℕ). trimmed (written_at p.at (take p.len (drop p.from c.args.new.now)) xs)) (take-rest c.args.block_size p.blockno file c.args.size long)
    ∙ trimmed-written c.args.off c.args.block_size c.args.k c.args.new.now file p c.piece-p.ensures
    ∙ ap (λ n. trimmed (piece_of c.args.block_size (written_at c.args.off c.args.new.now file) n)) (sym number))
    (stored c.args.size c.args.block_size (omega (arith, rest))))
    c.patched_block.result c.patched_block.ensures.blockno c.patched_block.ensures.stored

pub returns-clause-lost : goal.returns-clause-lost
returns-clause-lost g c =
    let part : c.piece-p.result.len ≢ c.args.block_size = c.if-p-block_size.false in
    let needed : not (is_overwritten c.args.block_size c.args.off (length c.args.new.now) c.piece-p.result.blockno) ≡ true =
    not_overwritten-piece c.args.off c.args.block_size c.args.k (length c.args.new.now) c.piece-p.result c.piece-p.ensures part in
    IfErr-weaker _ _
    (λ fault loss changed there.
    IsLossWhere-weaker _ _ sha256 (g.K.Keeper.told c.args.keeper.now) (g.L.Link.told c.args.link.now) fault
    (λ t object kept named. (
      c.piece-p.result.blockno,
      Contains-filter _ (changed t) c.piece-p.result.blockno needed (subst (Contains (changed t)) (sym c.piece-p.ensures.blockno) (there t)),
      named,
    ))
    loss)
    c.patched_block.result c.patched_block.ensures.lost
