use Rattle.std.proofs.Common.{◌∙◌, [], refl, sym, subst, arith, inl, inr, ⊎_elim}
use Rattle.op_frames.specs.Replay.{Verdict}
use Rattle.offline_tool.specs.Output.{HasVerdict}
use Rattle.offline_tool.proofs.Runs.{begins}
use Rattle.offline_tool.proofs.Turn.{not_begun, nothing_more}
use Rattle.offline_tool.proofs.replay.replay.Goals as goal

pub returns-in_default-clause-output : goal.returns-in_default-clause-output
returns-in_default-clause-output g c = λ s before told is. not_begun c.args.limits.now.block_size s.left before _ is

pub returns-in_default-vec-clause-output : goal.returns-in_default-vec-clause-output
returns-in_default-vec-clause-output g c = λ s before told is. not_begun c.args.limits.now.block_size s.left before _ is

pub loop-behind-init : goal.loop-behind-init
loop-behind-init g c = record {
  size = c.in-Ok-vec.ensures.len;
  low = omega arith;
  source_later = omega arith;
  sink_later = omega arith;
  verdict = λ s told. (s, told, refl);
  output = λ s before told is. (s, [], told, nothing_more before _ is, begins c.args.limits.now.block_size s.left _ c.in-Ok.ensures.begun);
}

pub loop-behind-preserved : goal.loop-behind-preserved
loop-behind-preserved g c =
    let i = c.loop-behind.invariant in
    record {
      size = i.size;
      low = c.in-On.ensures.turn.1;
      source_later = omega (arith, i.source_later, c.take_turn.ensures.source_later);
      sink_later = omega (arith, i.sink_later, c.take_turn.ensures.sink_later);
      verdict = λ s told.
          let was = i.verdict s told in
          let now = c.in-On.ensures.verdict was.0 was.1 in
          (now.0, now.1, was.2 ∙ now.2);
      output = λ s before told is.
          let was = i.output s before told is in
          c.in-On.ensures.output was.0 c.args.limits.now.block_size s.left before was.1 was.2 was.3 was.4;
    }

pub returns-in-End-clause-fault : goal.returns-in-End-clause-fault
returns-in-End-clause-fault g c = λ one. ⊎_elim (λ e. inl (omega (arith, c.loop-behind.invariant.source_later, e))) (λ e. inr (omega (arith, c.loop-behind.invariant.sink_later, e))) (c.in-End.ensures.fault one)

pub returns-in-End-clause-verdict : goal.returns-in-End-clause-verdict
returns-in-End-clause-verdict g c = λ s told.
    let i = c.loop-behind.invariant.verdict s told in
    subst (λ (v : Verdict). HasVerdict c.in-End.status v) (sym i.2) (c.in-End.ensures.verdict i.0 i.1)

pub returns-in-End-clause-output : goal.returns-in-End-clause-output
returns-in-End-clause-output g c = λ s before told is.
    let i = c.loop-behind.invariant.output s before told is in
    c.in-End.ensures.output i.0 c.args.limits.now.block_size s.left before i.1 i.2 i.3 i.4
