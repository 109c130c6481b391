use Rattle.std.proofs.Common.{◌≡◌, ◌+◌, ◌-◌, ◌^◌, ◌≤◌, ◌++◌, ℕ, List, vec_len, Some}
use Rattle.s3_base.specs.Stream.{Stream}
use Rattle.op_frames.specs.Replay.{replay_of}
use Rattle.offline_tool.specs.Input.{replay_left}
use Rattle.offline_tool.specs.Turns.{IsMidway}
use Rattle.offline_tool.proofs.replay.replay.Given as goal

-- the verdict is that of what is left, and the replay is midway
abbrev pub invariant-loop-behind : goal.invariant-loop-behind
invariant-loop-behind g l = record {
  size : vec_len l.buffer ≡ 4 + 262144;
  low : l.place ≤ 2 ^ 40;
  source_later : g.S.Source.faults l.fn.source ≤ g.S.Source.faults l.source;
  sink_later : g.T.Sink.faults l.fn.sink ≤ g.T.Sink.faults l.sink;
  verdict : (s : Stream) → g.S.Source.told l.fn.source ≡ Some s → (t : Stream) × (g.S.Source.told l.source ≡ Some t) × ((replay_of s.left).verdict ≡ (replay_left l.place t).verdict);
  output : (s : Stream) (before : List ℕ) → g.S.Source.told l.fn.source ≡ Some s → g.T.Sink.written l.fn.sink ≡ Some before
      → (t : Stream) × (out : List ℕ) × (g.S.Source.told l.source ≡ Some t) × (g.T.Sink.written l.sink ≡ Some (before ++ out)) × IsMidway l.limits.block_size s.left l.served l.place (replay_left l.place t) out;
}

abbrev pub decreases-loop-behind : goal.decreases-loop-behind
decreases-loop-behind g l = 2 ^ 40 - l.place
