use Rattle.std.proofs.Common.{List, length, ap, arith}
use Rattle.op_frames.specs.declared.reply.DirEntry.{DirEntry}
use Rattle.op_frames.proofs.Rules.{entries_allow}
use Rattle.op_frames.proofs.within_rules.entries_are_within_rules.Goals as goal

pub returns : goal.returns
returns c =
    let long = ap (λ (es : List DirEntry). length es) c.as_slice-entry-items.ensures in
    entries_allow c.args.entries.now c.loop-entry.entry-index c.requires.few (omega (arith, long)) c.loop-entry.invariant
