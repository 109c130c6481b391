use Rattle.std.proofs.Common.{arith}
use Rattle.op_frames.specs.Operations.{step_field}
use Rattle.op_frames.proofs.Operations.{step_is, step_some}
use Rattle.frame_fields.proofs.Frames.{is_found, is_only}
use Rattle.frame_fields.proofs.Bounds.{faults_in}
use Rattle.op_frames.proofs.Replay.{is_replayed}
use Rattle.op_frames.proofs.decode.decode_call.Goals as goal

pub returns-clause-found : goal.returns-clause-found
returns-clause-found c = is_found step_field 262001 step_is c.args.bytes.now c.step_frame_of.result (λ i. omega (arith, c.type_inv.bytes i)) c.step_frame_of.ensures

pub returns-clause-only : goal.returns-clause-only
unfolding step_field
returns-clause-only c = λ step rest allowed e. is_only step_field 262001 step_is (omega arith) c.args.bytes.now c.step_frame_of.result c.step_frame_of.ensures step rest allowed (step_some step) e

pub returns-clause-replay : goal.returns-clause-replay
returns-clause-replay c = is_replayed c.args.bytes.now c.step_frame_of.result (λ i. omega (arith, c.type_inv.bytes i)) c.step_frame_of.ensures

pub returns-clause-short : goal.returns-clause-short
returns-clause-short c = (faults_in step_field 262001 step_is c.args.bytes.now c.step_frame_of.result c.step_frame_of.ensures).0

pub returns-clause-near : goal.returns-clause-near
returns-clause-near c = (faults_in step_field 262001 step_is c.args.bytes.now c.step_frame_of.result c.step_frame_of.ensures).1
