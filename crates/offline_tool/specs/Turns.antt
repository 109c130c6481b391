-- One turn of a replay: what it reads, answers and writes.
use Rattle.std.specs.Prelude.{◌≡◌, ◌⊎◌, ℕ, ◌<◌, ◌≤◌, List, [], ◌++◌, Option, Some, IsTrue}
use Rattle.std.specs.List.{list_all}
use Rattle.sha2.specs.Sha256.{sha256}
use Rattle.s3_base.specs.Stream.{Stream}
use Rattle.op_frames.specs.Replay.{Replay, Verdict, input_limit, replay_of}
use Rattle.plain_tree.specs.Calls.{Answered, tree_at_end}
use Rattle.plain_tree.specs.Tree.{made_tree}
use Rattle.tree_rows.specs.Contents.{Contents}
use Rattle.core_model.specs.Occurring.{KnowsAll, occurring}
use Rattle.offline_tool.specs.Input.{replay_left}
use Rattle.offline_tool.specs.Output.{EndsWith, HasVerdict, calls_of, frames_of, has_fit_reply}
use Rattle.offline_tool.specs.Runs.{IsRun}
use Rattle.offline_tool.specs.Serving.{HasBytesOf, Serves}
use Rattle.offline_tool.specs.declared.reader.Stop.{Stop}
use Rattle.offline_tool.specs.declared.reader.Stop.TheVariants.{Fault, Memory}
use Rattle.offline_tool.specs.declared.replay.Turn.{Turn}
use Rattle.offline_tool.specs.declared.replay.Turn.TheVariants.{On, End}
use Rattle.offline_tool.specs.declared.served.Served.{Served}

-- the statuses of a replay whose words are good: done, a fault, no memory, or a refused input
abbrev pub IsStatus : ℕ → Type 0
IsStatus status = (status ≡ 0) ⊎ ((status ≡ 1) ⊎ ((status ≡ 3) ⊎ (status ≡ 4)))

-- a fault ends the replay with 1, and want of memory with 3
abbrev pub stopped_turn : Stop → Turn
stopped_turn Fault = End 1
stopped_turn Memory = End 3

-- the next frame lies behind this one, or the replay ends with one of its statuses
abbrev pub IsTurn : ℕ → Turn → Type 0
IsTurn place (On behind) = (place < behind) × (behind ≤ input_limit)
IsTurn place (End status) = IsStatus status

-- a fault only where one of the counts rose
abbrev pub HasFault : Turn → Type 0 → Type 0
HasFault (On behind) risen = Unit {0}
HasFault (End status) risen = status ≡ 1 → risen

-- the verdict of what is left stays, or it is that of the end
abbrev pub KeepsVerdict : Turn → Verdict → Option Stream → Type 0
KeepsVerdict (On behind) verdict after = (t : Stream) × (after ≡ Some t) × (verdict ≡ (replay_left behind t).verdict)
KeepsVerdict (End status) verdict after = HasVerdict status verdict

-- Between two turns: the calls before the place were answered, the output is the frames of their replies, and the core serves the tree
-- that they left, whose bytes are there for all contents that know what occurred.
pub record IsMidway (block_size : ℕ) (input : List ℕ) (s : Served) (place : ℕ) (left : Replay) (output : List ℕ) : Type 0 where
  pub run : List Answered
  pub calls : calls_of run ++ left.calls ≡ (replay_of input).calls
  pub verdict : left.verdict ≡ (replay_of input).verdict
  pub answers : IsRun sha256 (made_tree block_size 0) run
  pub readable : IsTrue (list_all has_fit_reply run)
  pub frames : output ≡ frames_of run
  pub serves : Serves s place (tree_at_end (made_tree block_size 0) run)
  pub backed : (m : Contents) → KnowsAll sha256 m (occurring [] (made_tree block_size 0) run) → HasBytesOf m s (tree_at_end (made_tree block_size 0) run)

-- The replay goes on midway with what is left, or the output ends with the status. `before` is what the sink had before the replay.
abbrev pub KeepsOutput : Turn → ℕ → List ℕ → Served → List ℕ → Option Stream → Option (List ℕ) → Type 0
KeepsOutput (On behind) block_size input s before after written =
    (t : Stream) × (out : List ℕ) × (after ≡ Some t) × (written ≡ Some (before ++ out)) × IsMidway block_size input s behind (replay_left behind t) out
KeepsOutput (End status) block_size input s before after written =
    (out : List ℕ) × (written ≡ Some (before ++ out)) × EndsWith block_size input status out
