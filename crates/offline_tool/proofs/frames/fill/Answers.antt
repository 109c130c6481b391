use Rattle.std.proofs.Common.{◌≡◌, ◌≤◌, ◌-◌, ◌∙◌, length, arith}
use Rattle.offline_tool.proofs.Streams.{length-put_mid, part_length, filled_none, filled_more, filled_ended}
use Rattle.offline_tool.proofs.frames.fill.Goals as goal

pub loop-filled-init : goal.loop-filled-init
loop-filled-init g c = record { within = omega arith; later = omega arith; told = λ s e. filled_none c.args.buffer.now s _ e }

pub loop-filled-preserved : goal.loop-filled-preserved
loop-filled-preserved g c =
    let filled = c.loop-filled.filled in
    let buffer = c.loop-filled.buffer in
    let piece = c.next.new.buf in
    let low : filled ≤ length buffer = c.loop-filled.invariant.within in
    let size : length piece ≡ length buffer - filled = c.next.auto.buf ∙ part_length filled buffer low in
    let short : c.in_ok-n.n ≤ length piece = omega (arith, c.in_ok-n.ensures.within, c.next.auto.buf) in
    let same = length-put_mid filled (length buffer - filled) buffer piece (omega arith) size in
    record {
      within = omega (arith, same, short, size);
      later = omega (arith, c.next.ensures.cause.later);
      told = λ s e. filled_more filled c.in_ok-n.n (length buffer - filled) buffer piece s _ _ low short (c.loop-filled.invariant.told s e) c.in_ok-n.ensures.taken;
    }

pub returns-then-n-eq0-clause-filled : goal.returns-then-n-eq0-clause-filled
returns-then-n-eq0-clause-filled g c = λ s e.
    let filled = c.loop-filled.filled in
    let buffer = c.loop-filled.buffer in
    let low : filled ≤ length buffer = c.loop-filled.invariant.within in
    let size : length c.next.new.buf ≡ length buffer - filled = c.next.auto.buf ∙ part_length filled buffer low in
    filled_ended filled (length buffer - filled) buffer c.next.new.buf s _ _ c.in_ok-n.n c.if-n-eq0.true low (length-put_mid filled (length buffer - filled) buffer c.next.new.buf (omega arith) size) (c.loop-filled.invariant.told s e) c.in_ok-n.ensures.taken
