use Rattle.std.proofs.Common.{◌≡◌, ◌≤◌, ◌-◌, length, Some}
use Rattle.s3_base.specs.Stream.{Stream}
use Rattle.offline_tool.proofs.Streams.{Filled}
use Rattle.offline_tool.proofs.frames.fill.Given as goal

-- what was taken so far stands in the front of the buffer
abbrev pub invariant-loop-filled : goal.invariant-loop-filled
invariant-loop-filled g l = record {
  within : l.filled ≤ length l.buffer;
  later : g.S.Source.faults l.fn.source ≤ g.S.Source.faults l.source;
  told : (s : Stream) → g.S.Source.told l.fn.source ≡ Some s → Filled l.filled l.buffer s (g.S.Source.told l.source);
}

abbrev pub decreases-loop-filled : goal.decreases-loop-filled
decreases-loop-filled g l = length l.initial.buffer - l.filled
