use Rattle.std.proofs.Common.{◌≡◌, ◌+◌, ◌-◌, ◌≤◌, min, ap, ◌∙◌, arith}
use Rattle.plain_tree.specs.Files.{read_at}
use Rattle.file_ops.proofs.BothTold.{IfFile-weaker}
use Rattle.file_ops.proofs.Ranges.{read_at-min}
use Rattle.file_ops.proofs.reading.read.Goals as goal

pub returns-clause-bytes : goal.returns-clause-bytes
returns-clause-bytes g c =
    let count : c.min-len.result ≡ min c.args.len (c.args.size - c.args.off) = omega (arith, c.min-len.ensures, c.saturating_sub.ensures, c.from.ensures) in
    let fits : c.args.off + c.min-len.result ≤ c.args.size = omega (arith, count, c.if-len-eq0.false) in
    IfFile-weaker (g.K.Keeper.told c.args.keeper.now) (g.L.Link.told c.args.link.now) c.args.inode c.args.size c.args.block_size _ _
    (λ file long is. c.from-2.ensures ∙ is ∙ ap (λ n. read_at c.args.off n file) count ∙ read_at-min c.args.off c.args.len c.args.size file long)
    (c.in_ok-bytes.ensures.bytes c.args.size fits)
