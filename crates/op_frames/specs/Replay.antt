-- The input of a replay: frames of calls, the frame of the end, and anything behind it.
use Rattle.std.specs.Prelude.{◌≡◌, ℕ, zero, suc, ◌+◌, ◌^◌, List, [], ◌∷◌, ◌++◌, length, take, drop, Result, Ok, Err}
use Rattle.frame_fields.specs.declared.fault.FrameFault.{FrameFault}
use Rattle.frame_fields.specs.declared.fault.FrameFault.TheVariants as faults
use Rattle.op_frames.specs.declared.operation.Op.{Op}
use Rattle.op_frames.specs.declared.operation.Step.{Step}
use Rattle.op_frames.specs.declared.operation.Step.TheVariants.{Call, End}
use Rattle.op_frames.specs.Operations.{step_field}
use Rattle.frame_fields.specs.Frames.{read_frame}

-- one call: who, when and what
pub record Request : Type 0 where
  pub pass : ℕ
  pub now : ℕ
  pub op : Op

-- how the input ends: with the end, or at the place of the first field outside its rule
pub data Verdict : Type 0 where
  Ended : Verdict
  Refused : (place : ℕ) → Verdict

pub record Replay : Type 0 where
  pub calls : List Request
  pub verdict : Verdict

-- the place of a fault among the bytes from the frame's first on; bytes that end too early are refused at their end
abbrev pub fault_place : List ℕ → FrameFault → ℕ
fault_place bytes faults.Short = length bytes
fault_place bytes (faults.Bad place) = place
fault_place bytes faults.Memory = 0

abbrev pub ended : Verdict → Replay
ended verdict = record { calls = []; verdict = verdict }

abbrev pub with_call : Request → Replay → Replay
with_call call replay = record { calls = call ∷ replay.calls; verdict = replay.verdict }

-- the calls and the verdict of at most n frames, the first of which begins at the place
unfoldable pub replay_from : ℕ → ℕ → List ℕ → Replay
replay_from zero place bytes = ended (Refused place)
replay_from (suc n) place bytes =
    elim (read_frame step_field bytes) [
      | Ok x ↦ elim x.0 [
        | Call pass now op ↦ with_call (record { pass = pass; now = now; op = op }) (replay_from n (place + x.1) (drop x.1 bytes))
        | End ↦ ended Ended
      ]
      | Err fault ↦ ended (Refused (place + fault_place bytes fault))
    ]

-- the same of all the bytes: each frame takes at least one
unfoldable pub replay_at : ℕ → List ℕ → Replay
replay_at place bytes = replay_from (suc (length bytes)) place bytes

-- an input has at most this many bytes: the byte at this place is outside every rule
abbrev pub input_limit : ℕ
input_limit = 2 ^ 40

-- the calls before the end, and the verdict
abbrev pub replay_of : List ℕ → Replay
replay_of bytes = replay_at 0 (take input_limit bytes)

abbrev pub ReplaysStep : Step → ℕ → ℕ → List ℕ → List ℕ → Type 0
ReplaysStep (Call pass now op) n place bytes rest =
    replay_at place (bytes ++ rest) ≡ with_call (record { pass = pass; now = now; op = op }) (replay_at (place + n) (drop n bytes ++ rest))
ReplaysStep End n place bytes rest = replay_at place (bytes ++ rest) ≡ ended Ended

-- What decoding some bytes says of a replay whose next frame begins with them at a place, and which goes on with the
-- rest: a call comes first, or nothing comes any more. Bytes that end inside a frame say it only of an input that ends.
abbrev pub Replays : Result (Step × ℕ) FrameFault → ℕ → List ℕ → List ℕ → Type 0
Replays (Ok x) place bytes rest = ReplaysStep x.0 x.1 place bytes rest
Replays (Err faults.Short) place bytes rest = rest ≡ [] → replay_at place bytes ≡ ended (Refused (place + length bytes))
Replays (Err (faults.Bad fault)) place bytes rest = replay_at place (bytes ++ rest) ≡ ended (Refused (place + fault))
Replays (Err faults.Memory) place bytes rest = Unit {0}
