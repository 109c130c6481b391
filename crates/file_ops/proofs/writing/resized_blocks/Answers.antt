use Rattle.std.proofs.Common.{◌≡◌, ◌≤◌, ◌<◌, ◌/◌, ◌*◌, ◌-◌, ℕ, length, min, sym, ap, ◌∙◌, subst, arith}
use Rattle.std.proofs.lemmas.Result.{err_from_is_err_and}
use Rattle.std.proofs.lemmas.List.Elements.{All-same}
use Rattle.sha2.specs.Sha256.{sha256}
use Rattle.block_math.specs.Blocks.{piece_of, trimmed}
use Rattle.block_math.specs.Changes.{resized}
use Rattle.core_model.specs.Changes.{blocks_of_resize, rest_of}
use Rattle.file_ops.specs.FileBytes.{stored_in}
use Rattle.file_ops.specs.declared.new_block.NewBlock.{NewBlock}
use Rattle.file_ops.proofs.BothTold.{IfFile-same, IfFile-weaker, IfFile-weaker2}
use Rattle.file_ops.proofs.Losses.{IsLossAmong-at, IsLossWhere-same, IsLossWhere-weaker}
use Rattle.file_ops.proofs.Needed.{All-begin, All-pushed, AreBlocksOf-longer, Contains-resize_last, Contains-resize_tail, begins-last}
use Rattle.file_ops.proofs.Trimmed.{trimmed-cut}
use Rattle.file_ops.proofs.writing.resized_blocks.Goals as goal

pub returns-in_err-blocks-clause-lost : goal.returns-in_err-blocks-clause-lost
returns-in_err-blocks-clause-lost g c =
    let p = err_from_is_err_and c.from_residual.result c.from_residual.ensures.1 in
    rw (p.1, p.2)
    (IsLossWhere-weaker _ _ sha256 (g.K.Keeper.told c.args.keeper.now) (g.L.Link.told c.args.link.now) c.in_err-blocks.field-0.0
    (λ t object kept named. (named.0, Contains-resize_tail c.args.block_size c.args.longer c.args.size (stored_in t c.args.inode) named.0 named.1, named.2))
    c.in_err-blocks.ensures.lost)

pub returns-then-within-eq0-clause-below : goal.returns-then-within-eq0-clause-below
returns-then-within-eq0-clause-below g c =
    All-same (λ (b : NewBlock). b.blockno * c.args.block_size < c.args.longer) c.into_vec.result.items c.in_ok-blocks.blocks c.into_vec.ensures
    (All-begin c.args.longer c.args.block_size c.args.longer c.in_ok-blocks.blocks c.requires.block (omega arith) c.in_ok-blocks.ensures.before)

pub returns-then-within-eq0-clause-stored : goal.returns-then-within-eq0-clause-stored
returns-then-within-eq0-clause-stored g c =
    IfFile-weaker (g.K.Keeper.told c.args.keeper.now) (g.L.Link.told c.args.link.now) c.args.inode c.args.size c.args.block_size _ _
    (λ file long same.
    All-same (λ (b : NewBlock). b.stored ≡ trimmed (piece_of c.args.block_size (resized c.args.longer file) b.blockno)) c.into_vec.result.items c.in_ok-blocks.blocks c.into_vec.ensures
    (AreBlocksOf-longer c.args.longer c.args.block_size c.args.size file c.in_ok-blocks.blocks long c.in_ok-blocks.ensures.grows same))
    c.in_ok-blocks.ensures.stored

pub returns-in_err-block-clause-lost : goal.returns-in_err-block-clause-lost
returns-in_err-block-clause-lost g c =
    let p = err_from_is_err_and c.from_residual-in_err-block.result c.from_residual-in_err-block.ensures.1 in
    rw (p.1, p.2)
    (IsLossAmong-at sha256 (g.K.Keeper.told c.args.keeper.now) (g.L.Link.told c.args.link.now) c.args.inode (c.args.longer / c.args.block_size)
    (λ t. blocks_of_resize c.args.block_size c.args.longer c.args.size (stored_in t c.args.inode)) c.in_err-block.field-0.0
    (λ t. Contains-resize_last c.args.block_size c.args.longer c.args.size (stored_in t c.args.inode) c.if-within-eq0.false)
    (IsLossWhere-same _ sha256 (g.K.Keeper.told c.args.keeper.now) _ (g.L.Link.told c.args.link.now) _ c.in_err-block.field-0.0
    c.in_ok-blocks.ensures.keeper_same c.in_ok-blocks.ensures.link_same c.in_err-block.ensures.lost))

pub returns-clause-below : goal.returns-clause-below
returns-clause-below g c =
    All-pushed (λ (b : NewBlock). b.blockno * c.args.block_size < c.args.longer) c.in_ok-blocks.blocks c.into_vec-2.result.items c.in_ok-block.block (c.into_vec-2.ensures ∙ c.in_ok-push.ensures.ok)
    (All-begin c.args.longer c.args.block_size c.args.longer c.in_ok-blocks.blocks c.requires.block (omega arith) c.in_ok-blocks.ensures.before)
    (subst (λ n. n * c.args.block_size < c.args.longer) (sym c.in_ok-block.ensures.blockno) (begins-last c.args.longer c.args.block_size c.requires.block c.if-within-eq0.false))

pub returns-clause-short : goal.returns-clause-short
returns-clause-short g c =
    All-pushed (λ (b : NewBlock). length b.stored ≤ c.args.block_size) c.in_ok-blocks.blocks c.into_vec-2.result.items c.in_ok-block.block (c.into_vec-2.ensures ∙ c.in_ok-push.ensures.ok)
    c.in_ok-blocks.ensures.short (omega (arith, c.in_ok-block.ensures.short, c.min-len.ensures, c.rest.ensures))

pub returns-clause-stored : goal.returns-clause-stored
returns-clause-stored g c =
    let last : ℕ = c.args.longer / c.args.block_size in
    let keep : c.min-len.result ≡ min (rest_of c.args.block_size c.args.size last) (c.args.longer - last * c.args.block_size) =
    omega (arith, c.min-len.ensures, c.rest.ensures) in
    IfFile-weaker2 (g.K.Keeper.told c.args.keeper.now) (g.L.Link.told c.args.link.now) c.args.inode c.args.size c.args.block_size _ _ _
    (λ file long same own.
    All-pushed (λ (b : NewBlock). b.stored ≡ trimmed (piece_of c.args.block_size (resized c.args.longer file) b.blockno)) c.in_ok-blocks.blocks c.into_vec-2.result.items c.in_ok-block.block (c.into_vec-2.ensures ∙ c.in_ok-push.ensures.ok)
    (AreBlocksOf-longer c.args.longer c.args.block_size c.args.size file c.in_ok-blocks.blocks long c.in_ok-blocks.ensures.grows same)
    (own
    ∙ trimmed-cut c.args.longer c.args.block_size last c.min-len.result file (keep ∙ ap (λ n. min (rest_of c.args.block_size n last) (c.args.longer - last * c.args.block_size)) (sym long))
    ∙ ap (λ n. trimmed (piece_of c.args.block_size (resized c.args.longer file) n)) (sym c.in_ok-block.ensures.blockno)))
    c.in_ok-blocks.ensures.stored
    (IfFile-same (g.K.Keeper.told c.args.keeper.now) (g.L.Link.told c.args.link.now) c.args.inode c.args.size c.args.block_size _ _ _
    c.in_ok-blocks.ensures.keeper_same c.in_ok-blocks.ensures.link_same
    (c.in_ok-block.ensures.stored c.args.size c.args.block_size (omega (arith, keep))))
