-- What a replay writes.
use Rattle.std.specs.Prelude.{◌≡◌, ◌⊎◌, ℕ, List, [], ◌∷◌, ◌++◌, map, Bool, IsTrue}
use Rattle.std.specs.List.{flat_map, list_all}
use Rattle.sha2.specs.Sha256.{sha256}
use Rattle.op_frames.specs.Replies.{is_reply}
use Rattle.op_frames.specs.Answers.{answer_frame, bad_input_frame}
use Rattle.op_frames.specs.Replay.{Replay, Request, Verdict, Ended, Refused, replay_of}
use Rattle.plain_tree.specs.Calls.{Answered}
use Rattle.plain_tree.specs.Tree.{Tree, made_tree}
use Rattle.offline_tool.specs.Runs.{IsRun}

-- the calls of a run
abbrev pub calls_of : List Answered → List Request
calls_of run = map (λ a. a.call) run

-- one answer frame for each reply, in order
abbrev pub frames_of : List Answered → List ℕ
frames_of run = flat_map (λ a. answer_frame a.reply) run

-- the fields of the reply are within their rules, so that its frame is that of no other such reply
abbrev pub has_fit_reply : Answered → Bool
has_fit_reply a = is_reply a.reply

-- the frame behind the answers to the calls
abbrev pub verdict_frame : Verdict → List ℕ
verdict_frame Ended = []
verdict_frame (Refused place) = bad_input_frame place

-- that frame once no call is left
abbrev pub frame_behind : List Request → Verdict → List ℕ
frame_behind [] verdict = verdict_frame verdict
frame_behind (call ∷ calls) verdict = []

-- All calls were answered, and the output is the frames of the replies and of the verdict.
pub record IsOutputOf (t : Tree) (replay : Replay) (output : List ℕ) : Type 0 where
  pub run : List Answered
  pub calls : calls_of run ≡ replay.calls
  pub answers : IsRun sha256 t run
  pub readable : IsTrue (list_all has_fit_reply run)
  pub frames : output ≡ frames_of run ++ verdict_frame replay.verdict

-- The first calls were answered, and the output is a front of the frames of the replies, and of the verdict once no call is left.
pub record IsFrontOf (t : Tree) (replay : Replay) (output : List ℕ) : Type 0 where
  pub run : List Answered
  pub left : List Request
  pub calls : calls_of run ++ left ≡ replay.calls
  pub answers : IsRun sha256 t run
  pub readable : IsTrue (list_all has_fit_reply run)
  pub rest : List ℕ
  pub frames : output ++ rest ≡ frames_of run ++ frame_behind left replay.verdict

-- the verdict is that the input is refused at a place
abbrev pub IsRefused : Verdict → Type 0
IsRefused Ended = ⊥
IsRefused (Refused place) = Unit {0}

-- What was written when the replay of an input ends with a status, from the tree that was just made with blocks of this size at time 0:
-- with 0 and 4 the whole output, and else a front of one.
pub record EndsWith (block_size : ℕ) (input : List ℕ) (status : ℕ) (output : List ℕ) : Type 0 where
  pub whole : (status ≡ 0) ⊎ (status ≡ 4) → IsOutputOf (made_tree block_size 0) (replay_of input) output
  pub front : IsFrontOf (made_tree block_size 0) (replay_of input) output

-- the verdict of an input that ended with a status
pub record HasVerdict (status : ℕ) (verdict : Verdict) : Type 0 where
  pub ended : status ≡ 0 → verdict ≡ Ended
  pub refused : status ≡ 4 → IsRefused verdict
