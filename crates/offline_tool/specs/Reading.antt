-- What a reader takes from a source into the front of its buffer.
use Rattle.std.specs.Prelude.{◌≡◌, ◌⊎◌, ℕ, ◌+◌, ◌^◌, ◌≤◌, ◌<◌, min, List, length, take, Option, Some, IsTrue}
use Rattle.s3_base.specs.Stream.{Stream, advanced}
use Rattle.op_frames.specs.declared.operation.Step.{Step}
use Rattle.op_frames.specs.declared.operation.Step.TheVariants.{Call, End}
use Rattle.op_frames.specs.Operations.{is_op}
use Rattle.frame_fields.specs.Frames.{said_length}
use Rattle.op_frames.specs.Replay.{Ended, Refused, ended, with_call, input_limit}
use Rattle.offline_tool.specs.Input.{replay_left}
use Rattle.offline_tool.specs.declared.reader.Next.{Next}
use Rattle.offline_tool.specs.declared.reader.Next.TheVariants as next

-- n bytes, as many as the buffer holds or the source has left, are moved into the front of the buffer
pub record FillsFront (n : ℕ) (buffer : List ℕ) (before : Stream) (after : Option Stream) : Type 0 where
  pub count : n ≡ min (length buffer) (length before.left)
  pub bytes : take n buffer ≡ take n before.left
  pub moved : after ≡ Some (advanced n before)

-- how many bytes a frame has that begins with these: its length, or four where its length is outside its rule
abbrev pub IsWhole : List ℕ → ℕ → Type 0
IsWhole bytes n = (4 ≤ n) × (said_length bytes ≤ 262144 → 4 + said_length bytes ≤ n)

-- the next frame, or what there is of it before the input ends, is moved into the front of the buffer
pub record TakesFrame (n : ℕ) (buffer input : List ℕ) (before : Stream) (after : Option Stream) : Type 0 where
  pub bytes : take n buffer ≡ take n input
  pub within : n ≤ length input
  pub at_most : 4 ≤ n → n ≤ 4 + said_length (take n buffer)
  pub enough : (n ≡ length input) ⊎ IsWhole (take n buffer) n
  pub moved : after ≡ Some (advanced n before)

-- a step whose frame ends before a place
abbrev pub next_after : Step → ℕ → Next
next_after (Call pass now op) behind = next.Call pass now op behind
next_after End behind = next.End

-- What comes next in the replay of an input with which the source goes on at a place, and what the source then has left.
abbrev pub IsNext : Next → ℕ → Stream → Stream → Type 0
IsNext (next.Call pass now op behind) place before after =
    replay_left place before ≡ with_call (record { pass = pass; now = now; op = op }) (replay_left behind after)
IsNext next.End place before after = replay_left place before ≡ ended Ended
IsNext (next.Refused at) place before after = replay_left place before ≡ ended (Refused at)

-- a call's operation and time are within the rules of their fields, and the next frame lies behind its own, within the limit
abbrev pub IsOnward : ℕ → Next → Type 0
IsOnward place (next.Call pass now op behind) = IsTrue (is_op op) × (now < 2 ^ 62) × (place < behind) × (behind ≤ input_limit)
IsOnward place next.End = Unit {0}
IsOnward place (next.Refused at) = Unit {0}
