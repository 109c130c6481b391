-- The loop stops at the last byte that is not zero.
use Rattle.std.proofs.Common.{◌≡◌, length, take, sym, ap, ◌∙◌, arith}
use Rattle.std.proofs.lemmas.List.{length-take-le}
use Rattle.block_math.proofs.TrimmedLemmas.{trimmed_less, trimmed_here}
use Rattle.block_math.proofs.blocks.trimmed_len.Goals as goal

pub loop-len-preserved : goal.loop-len-preserved
loop-len-preserved c = record {
  low = omega arith;
  same = trimmed_less c.args.bytes.now c.loop-len.len c.loop-len-test.true c.loop-len.invariant.low c.if-bytes-len-eq0.true ∙ c.loop-len.invariant.same;
}

pub returns-else-bytes-len-eq0-clause-len : goal.returns-else-bytes-len-eq0-clause-len
returns-else-bytes-len-eq0-clause-len c =
    let whole : length (take c.loop-len.len c.args.bytes.now) ≡ c.loop-len.len = length-take-le c.loop-len.len c.args.bytes.now c.loop-len.invariant.low in
    sym whole
    ∙ ap length (sym (trimmed_here c.args.bytes.now c.loop-len.len c.loop-len-test.true c.loop-len.invariant.low c.if-bytes-len-eq0.false) ∙ c.loop-len.invariant.same)

pub returns-else-bytes-len-eq0-clause-front : goal.returns-else-bytes-len-eq0-clause-front
returns-else-bytes-len-eq0-clause-front c =
    sym (trimmed_here c.args.bytes.now c.loop-len.len c.loop-len-test.true c.loop-len.invariant.low c.if-bytes-len-eq0.false) ∙ c.loop-len.invariant.same
