-- The output of a replay, turn after turn.
use Rattle.std.proofs.Common.{◌≡◌, ℕ, List, [], ◌++◌, take, drop, Option, Some, refl, sym, ap, subst, ◌∙◌, append_assoc, arith, ⊎_elim, IsTrue}
use Rattle.std.proofs.lemmas.List.{append-nil, take-append-drop}
use Rattle.s3_base.specs.Stream.{Stream, Appends, AppendsFront}
use Rattle.op_frames.specs.declared.reply.Reply.{Reply}
use Rattle.op_frames.specs.Replies.{is_reply}
use Rattle.op_frames.specs.Answers.{answer_frame, bad_input_frame}
use Rattle.op_frames.specs.Replay.{Request, Replay, Verdict, Ended, Refused, ended, with_call, replay_of}
use Rattle.plain_tree.specs.Calls.{tree_at_end}
use Rattle.plain_tree.specs.Tree.{made_tree}
use Rattle.offline_tool.specs.declared.reader.Next.{Next}
use Rattle.offline_tool.specs.declared.reader.Next.TheVariants as next
use Rattle.offline_tool.specs.declared.reader.Stop.{Stop}
use Rattle.offline_tool.specs.declared.reader.Stop.TheVariants.{Fault, Memory}
use Rattle.offline_tool.specs.declared.replay.Turn.{Turn}
use Rattle.offline_tool.specs.declared.replay.Turn.TheVariants.{On}
use Rattle.offline_tool.specs.declared.served.Served.{Served}
use Rattle.offline_tool.specs.Input.{replay_left}
use Rattle.offline_tool.specs.Reading.{IsNext}
use Rattle.offline_tool.specs.Output.{EndsWith, IsFrontOf, IsOutputOf, calls_of, frame_behind, frames_of, verdict_frame}
use Rattle.offline_tool.specs.Serving.{IsServed}
use Rattle.offline_tool.specs.Turns.{IsMidway, KeepsOutput, stopped_turn}
use Rattle.offline_tool.proofs.Runs.{OccurringLaws, goes_further}

-- ---- what the sink has

appended : (frame before out : List ℕ) (old new : Option (List ℕ)) → old ≡ Some (before ++ out) → Appends frame old new → new ≡ Some (before ++ (out ++ frame))
appended frame before out old new is appends =
    let one : new ≡ Some ((before ++ out) ++ frame) = subst (λ (o : Option (List ℕ)). Appends frame o new) is appends in
    one ∙ ap Some (append_assoc before out frame)

cut_appended : (frame before out : List ℕ) (old new : Option (List ℕ)) → old ≡ Some (before ++ out) → AppendsFront frame old new → (n : ℕ) × (new ≡ Some (before ++ (out ++ take n frame)))
cut_appended frame before out old new is appends =
    let one = subst (λ (o : Option (List ℕ)). AppendsFront frame o new) is appends in
    (one.0, one.2 ∙ ap Some (append_assoc before out (take one.0 frame)))

-- ---- fronts of outputs

module _ (size : ℕ) (input : List ℕ) where
  -- a front of the output of the input
  abbrev pub IsFront : List ℕ → Type 0
  IsFront out = IsFrontOf (made_tree size 0) (replay_of input) out

  -- midway the output so far is a front
  front_midway : (s : Served) (place : ℕ) (left : Replay) (out : List ℕ) → IsMidway size input s place left out → IsFront out
  front_midway s place left out m = record {
    run = m.run;
    left = left.calls;
    calls = m.calls;
    answers = m.answers;
    readable = m.readable;
    rest = frame_behind left.calls (replay_of input).verdict;
    frames = ap (λ (f : List ℕ). f ++ frame_behind left.calls (replay_of input).verdict) m.frames;
  }

  -- a front without its last bytes
  front_cut : (n : ℕ) (out frame : List ℕ) → IsFront (out ++ frame) → IsFront (out ++ take n frame)
  front_cut n out frame f = record {
    run = f.run;
    left = f.left;
    calls = f.calls;
    answers = f.answers;
    readable = f.readable;
    rest = drop n frame ++ f.rest;
    frames =
        sym (append_assoc (out ++ take n frame) (drop n frame) f.rest) ∙ ap (λ (x : List ℕ). x ++ f.rest) (append_assoc out (take n frame) (drop n frame))
        ∙ ap (λ (x : List ℕ). (out ++ x) ++ f.rest) (take-append-drop n frame) ∙ f.frames;
  }

  module _ (s : Served) (place : ℕ) (left : Replay) (out : List ℕ) (verdict : Verdict) (m : IsMidway size input s place left out) (same : left ≡ ended verdict) where
    all_called : calls_of m.run ≡ (replay_of input).calls
    all_called = sym (append-nil (calls_of m.run)) ∙ ap (λ (r : Replay). calls_of m.run ++ r.calls) (sym same) ∙ m.calls

    verdict_is : verdict ≡ (replay_of input).verdict
    verdict_is = ap (λ (r : Replay). r.verdict) (sym same) ∙ m.verdict

    all_frames : out ++ verdict_frame verdict ≡ frames_of m.run ++ verdict_frame (replay_of input).verdict
    all_frames = ap (λ (f : List ℕ). f ++ verdict_frame verdict) m.frames ∙ ap (λ (v : Verdict). frames_of m.run ++ verdict_frame v) verdict_is

    whole : IsOutputOf (made_tree size 0) (replay_of input) (out ++ verdict_frame verdict)
    whole = record {
      run = m.run;
      calls = all_called;
      answers = m.answers;
      readable = m.readable;
      frames = all_frames;
    }

    whole_front : IsFront (out ++ verdict_frame verdict)
    whole_front = record {
      run = m.run;
      left = [];
      calls = append-nil (calls_of m.run) ∙ all_called;
      answers = m.answers;
      readable = m.readable;
      rest = [];
      frames = append-nil (out ++ verdict_frame verdict) ∙ all_frames;
    }

  ends_with_front : (status : ℕ) (out : List ℕ) → (status ≡ 0 → ⊥) → (status ≡ 4 → ⊥) → IsFront out → EndsWith size input status out
  ends_with_front status out not_done not_refused front = record { whole = ⊎_elim (λ is. absurd (not_done is)) (λ is. absurd (not_refused is)); front = front }

  -- ---- the turns

  pub stops : (before out : List ℕ) (s : Served) (stop : Stop) (turn : Turn) (after : Option Stream) (written : Option (List ℕ)) → turn ≡ stopped_turn stop → written ≡ Some (before ++ out) → IsFront out
      → KeepsOutput turn size input s before after written
  stops before out s Fault turn after written same is front =
      subst (λ (x : Turn). KeepsOutput x size input s before after written) (sym same) (out, is, ends_with_front 1 out (λ e. omega (arith, e)) (λ e. omega (arith, e)) front)
  stops before out s Memory turn after written same is front =
      subst (λ (x : Turn). KeepsOutput x size input s before after written) (sym same) (out, is, ends_with_front 3 out (λ e. omega (arith, e)) (λ e. omega (arith, e)) front)

  module _ (laws : OccurringLaws) (before out : List ℕ) (s core : Served) (place behind : ℕ) (source : Stream) (call : Request) (reply : Reply) (x : Next) (after : Option Stream) (old new : Option (List ℕ))
      (m : IsMidway size input s place (replay_left place source) out) (same : x ≡ next.Call call.pass call.now call.op behind) (following : (u : Stream) × (after ≡ Some u) × IsNext x place source u)
      (served : IsServed s core behind (tree_at_end (made_tree size 0) m.run) (record { call = call; reply = reply })) (within : IsTrue (is_reply reply)) (is : old ≡ Some (before ++ out)) where
    left : replay_left place source ≡ with_call call (replay_left behind following.0)
    left = subst (λ (y : Next). IsNext y place source following.0) same following.2

    further : IsMidway size input core behind (replay_left behind following.0) (out ++ answer_frame reply)
    further = goes_further laws size input s core place behind (replay_left place source) (replay_left behind following.0) out (record { call = call; reply = reply }) m left served within

    -- a call that was answered
    pub goes_on : Appends (answer_frame reply) old new → KeepsOutput (On behind) size input core before after new
    goes_on appends = (following.0, out ++ answer_frame reply, following.1, appended (answer_frame reply) before out old new is appends, further)

    -- a call whose answer was not written whole
    pub answer_cut : (stop : Stop) (turn : Turn) → turn ≡ stopped_turn stop → AppendsFront (answer_frame reply) old new → KeepsOutput turn size input core before after new
    answer_cut stop turn ends appends =
        let cut = cut_appended (answer_frame reply) before out old new is appends in
        stops before (out ++ take cut.0 (answer_frame reply)) core stop turn after new ends cut.1
        (front_cut cut.0 out (answer_frame reply) (front_midway core behind (replay_left behind following.0) (out ++ answer_frame reply) further))

  module _ (before out : List ℕ) (s : Served) (place : ℕ) (source : Stream) (m : IsMidway size input s place (replay_left place source) out) where
    -- the end of the input
    pub is_ended : (x : Next) (after : Option Stream) (old : Option (List ℕ)) → x ≡ next.End → (u : Stream) × (after ≡ Some u) × IsNext x place source u → old ≡ Some (before ++ out)
        → (final : List ℕ) × (old ≡ Some (before ++ final)) × EndsWith size input 0 final
    is_ended x after old same following is =
        let left : replay_left place source ≡ ended Ended = subst (λ (y : Next). IsNext y place source following.0) same following.2 in
        let all = whole s place (replay_left place source) out Ended m left in (
          out,
          is,
          record {
            whole = λ _. subst (IsOutputOf (made_tree size 0) (replay_of input)) (append-nil out) all;
            front = front_midway s place (replay_left place source) out m;
          },
        )

    module _ (at : ℕ) (x : Next) (after : Option Stream) (old new : Option (List ℕ)) (same : x ≡ next.Refused at) (following : (u : Stream) × (after ≡ Some u) × IsNext x place source u) (is : old ≡ Some (before ++ out)) where
      refused : replay_left place source ≡ ended (Refused at)
      refused = subst (λ (y : Next). IsNext y place source following.0) same following.2

      -- an input that is refused
      pub is_refused : Appends (bad_input_frame at) old new → (final : List ℕ) × (new ≡ Some (before ++ final)) × EndsWith size input 4 final
      is_refused appends = (
        out ++ bad_input_frame at,
        appended (bad_input_frame at) before out old new is appends,
        record {
          whole = λ _. whole s place (replay_left place source) out (Refused at) m refused;
          front = whole_front s place (replay_left place source) out (Refused at) m refused;
        },
      )

      pub refusal_cut : (stop : Stop) (turn : Turn) → turn ≡ stopped_turn stop → AppendsFront (bad_input_frame at) old new → KeepsOutput turn size input s before after new
      refusal_cut stop turn ends appends =
          let cut = cut_appended (bad_input_frame at) before out old new is appends in
          stops before (out ++ take cut.0 (bad_input_frame at)) s stop turn after new ends cut.1
          (front_cut cut.0 out (bad_input_frame at) (whole_front s place (replay_left place source) out (Refused at) m refused))

    -- nothing was read
    pub read_cut : (core : Served) (stop : Stop) (turn : Turn) (after : Option Stream) (old : Option (List ℕ)) → old ≡ Some (before ++ out) → turn ≡ stopped_turn stop → KeepsOutput turn size input core before after old
    read_cut core stop turn after old is ends = stops before out core stop turn after old ends is (front_midway s place (replay_left place source) out m)

  -- ---- the whole replay

  -- nothing was done
  pub not_begun : (before : List ℕ) (written : Option (List ℕ)) → written ≡ Some before → (out : List ℕ) × (written ≡ Some (before ++ out)) × EndsWith size input 3 out
  not_begun before written is = (
    [],
    is ∙ ap Some (sym (append-nil before)),
    ends_with_front 3 [] (λ e. omega (arith, e)) (λ e. omega (arith, e)) (record {
      run = [];
      left = (replay_of input).calls;
      calls = refl;
      answers = record { shape = tt; bytes = λ free. tt };
      readable = refl;
      rest = frame_behind (replay_of input).calls (replay_of input).verdict;
      frames = refl;
    }),
  )

pub nothing_more : (before : List ℕ) (written : Option (List ℕ)) → written ≡ Some before → written ≡ Some (before ++ [])
nothing_more before written is = is ∙ ap Some (sym (append-nil before))
