-- What a replay still reads of its source.
use Rattle.std.specs.Prelude.{ℕ, ◌-◌, List, take}
use Rattle.s3_base.specs.Stream.{Stream}
use Rattle.op_frames.specs.Replay.{Replay, replay_at, input_limit}

-- the bytes of the input that are left at a place: none from the limit on
abbrev pub input_left : ℕ → Stream → List ℕ
input_left place source = take (input_limit - place) source.left

-- the calls that are left, and the verdict
abbrev pub replay_left : ℕ → Stream → Replay
replay_left place source = replay_at place (input_left place source)
