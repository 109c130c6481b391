use Rattle.std.proofs.Common.{◌≡◌, ◌≤◌, ◌<◌, ◌*◌, ◌/◌, ◌+◌, List, ℕ, length, sym, ◌∙◌, subst, arith}
use Rattle.std.proofs.lemmas.List.{append-nil}
use Rattle.std.proofs.lemmas.List.Elements.{Contains-append_left, Contains-append_right}
use Rattle.std.proofs.lemmas.Result.{err_from_is_err_and}
use Rattle.sha2.specs.Sha256.{sha256}
use Rattle.block_math.specs.Blocks.{piece_of, trimmed}
use Rattle.block_math.specs.Changes.{written_at}
use Rattle.block_math.specs.Ranges.{piece_count}
use Rattle.core_model.specs.Changes.{blocks_of_write, tail_before, touched_blocks}
use Rattle.s3_rows.specs.Tables.{Tables}
use Rattle.ref_counts.proofs.Told.{IfTold-weaker}
use Rattle.file_ops.specs.FileBytes.{stored_in}
use Rattle.file_ops.specs.declared.new_block.NewBlock.{NewBlock}
use Rattle.file_ops.proofs.BothTold.{IfFile-same, IfFile-weaker, IfFile-weaker2}
use Rattle.file_ops.proofs.Losses.{IsLossWhere-same, IsLossWhere-weaker}
use Rattle.file_ops.proofs.Needed.{All-begin, All-pushed, AreBlocksOf-before_write, begins-piece, Contains-filter, not_overwritten-before, numbers_of-push, tail_before-lt}
use Rattle.file_ops.proofs.Ranges.{Contains-numbers_from}
use Rattle.file_ops.proofs.writing.written_blocks.Goals as goal

pub returns-in_err-blocks-clause-lost : goal.returns-in_err-blocks-clause-lost
returns-in_err-blocks-clause-lost g c =
    let count : ℕ = length c.args.new.now in
    let first : ℕ = c.args.off / c.args.block_size in
    let p = err_from_is_err_and c.from_residual.result c.from_residual.ensures.1 in
    rw (p.1, p.2)
    (IsLossWhere-weaker _ _ sha256 (g.K.Keeper.told c.args.keeper.now) (g.L.Link.told c.args.link.now) c.in_err-blocks.field-0.0
    (λ t object kept named.
    let tail : List ℕ = tail_before c.args.block_size c.args.size (c.args.off + count) first (stored_in t c.args.inode) in
    let before : named.0 < first = tail_before-lt c.args.block_size c.args.size (c.args.off + count) first named.0 (stored_in t c.args.inode) named.1 in (
      named.0,
      Contains-filter _ (blocks_of_write c.args.block_size c.args.off count c.args.size (stored_in t c.args.inode)) named.0
          (not_overwritten-before c.args.off c.args.block_size named.0 count c.requires.block before)
          (Contains-append_left tail (touched_blocks c.args.block_size c.args.off count) named.0 named.1),
      named.2,
    ))
    c.in_err-blocks.ensures.lost)

pub returns-in_err-block-clause-lost : goal.returns-in_err-block-clause-lost
returns-in_err-block-clause-lost g c =
    let count : ℕ = length c.args.new.now in
    let first : ℕ = c.args.off / c.args.block_size in
    let low : c.loop-k.k < piece_count c.args.off count c.args.block_size = omega (arith, c.loop-k-test.true, c.count-pieces.ensures.count) in
    let changed : Tables → List ℕ = λ t. blocks_of_write c.args.block_size c.args.off count c.args.size (stored_in t c.args.inode) in
    let p = err_from_is_err_and c.from_residual-in_err-block.result c.from_residual-in_err-block.ensures.1 in
    rw (p.1, p.2)
    (IsLossWhere-same _ sha256 (g.K.Keeper.told c.args.keeper.now) _ (g.L.Link.told c.args.link.now) _ c.in_err-block.field-0.0
    c.loop-k.invariant.keeper_same c.loop-k.invariant.link_same
    (c.in_err-block.ensures.lost changed
    (λ t.
    Contains-append_right (tail_before c.args.block_size c.args.size (c.args.off + count) first (stored_in t c.args.inode))
    (touched_blocks c.args.block_size c.args.off count) (first + c.loop-k.k)
    (Contains-numbers_from first (piece_count c.args.off count c.args.block_size) c.loop-k.k low))))

pub loop-k-init : goal.loop-k-init
loop-k-init g c =
    let count : ℕ = length c.args.new.now in
    let first : ℕ = c.args.off / c.args.block_size in
    record {
      keeper_same = c.in_ok-blocks.ensures.keeper_same;
      link_same = c.in_ok-blocks.ensures.link_same;
      keeper_later = c.in_ok-blocks.ensures.keeper_cause.later;
      link_later = c.in_ok-blocks.ensures.link_cause.later;
      numbers =
          IfTold-weaker (g.K.Keeper.told c.args.keeper.now) _ _
          (λ t is. is ∙ sym (append-nil (tail_before c.args.block_size c.args.size (c.args.off + count) first (stored_in t c.args.inode))))
          c.in_ok-blocks.ensures.numbers;
      below = All-begin c.args.off c.args.block_size (c.args.off + count) c.in_ok-blocks.blocks c.requires.block (omega arith) c.in_ok-blocks.ensures.before;
      short = c.in_ok-blocks.ensures.short;
      stored =
          IfFile-weaker (g.K.Keeper.told c.args.keeper.now) (g.L.Link.told c.args.link.now) c.args.inode c.args.size c.args.block_size _ _
          (λ file long same. AreBlocksOf-before_write c.args.off c.args.block_size c.args.new.now file c.in_ok-blocks.blocks c.requires.block c.in_ok-blocks.ensures.before same)
          c.in_ok-blocks.ensures.stored;
    }

pub loop-k-preserved : goal.loop-k-preserved
loop-k-preserved g c =
    let count : ℕ = length c.args.new.now in
    let first : ℕ = c.args.off / c.args.block_size in
    let low : c.loop-k.k < piece_count c.args.off count c.args.block_size = omega (arith, c.loop-k-test.true, c.count-pieces.ensures.count) in
    record {
      keeper_same = c.in_ok-block.ensures.keeper_same ∙ c.loop-k.invariant.keeper_same;
      link_same = c.in_ok-block.ensures.link_same ∙ c.loop-k.invariant.link_same;
      keeper_later = omega (arith, c.in_ok-block.ensures.keeper_cause.later, c.loop-k.invariant.keeper_later);
      link_later = omega (arith, c.in_ok-block.ensures.link_cause.later, c.loop-k.invariant.link_later);
      numbers =
          IfTold-weaker (g.K.Keeper.told c.args.keeper.now) _ _
          (λ t so_far.
          numbers_of-push c.loop-k.blocks c.push.new.self c.in_ok-block.block (tail_before c.args.block_size c.args.size (c.args.off + count) first (stored_in t c.args.inode))
          first c.loop-k.k c.in_ok-push.ensures.ok c.in_ok-block.ensures.blockno so_far)
          c.loop-k.invariant.numbers;
      below =
          All-pushed (λ (b : NewBlock). b.blockno * c.args.block_size < c.args.off + count) c.loop-k.blocks c.push.new.self c.in_ok-block.block c.in_ok-push.ensures.ok
          c.loop-k.invariant.below
          (subst (λ n. n * c.args.block_size < c.args.off + count) (sym c.in_ok-block.ensures.blockno) (begins-piece c.args.off c.args.block_size c.loop-k.k count low));
      short =
          All-pushed (λ (b : NewBlock). length b.stored ≤ c.args.block_size) c.loop-k.blocks c.push.new.self c.in_ok-block.block c.in_ok-push.ensures.ok
          c.loop-k.invariant.short c.in_ok-block.ensures.short;
      stored =
          IfFile-weaker2 (g.K.Keeper.told c.args.keeper.now) (g.L.Link.told c.args.link.now) c.args.inode c.args.size c.args.block_size _ _ _
          (λ file long so_far own.
          All-pushed (λ (b : NewBlock). b.stored ≡ trimmed (piece_of c.args.block_size (written_at c.args.off c.args.new.now file) b.blockno)) c.loop-k.blocks c.push.new.self
          c.in_ok-block.block c.in_ok-push.ensures.ok so_far own)
          c.loop-k.invariant.stored
          (IfFile-same (g.K.Keeper.told c.args.keeper.now) (g.L.Link.told c.args.link.now) c.args.inode c.args.size c.args.block_size _ _ _
          c.loop-k.invariant.keeper_same c.loop-k.invariant.link_same c.in_ok-block.ensures.stored);
    }
