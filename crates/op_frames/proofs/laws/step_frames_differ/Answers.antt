use Rattle.std.proofs.Common.{arith}
use Rattle.op_frames.specs.Operations.{step_field}
use Rattle.op_frames.proofs.Operations.{step_is, step_some}
use Rattle.frame_fields.proofs.Frames.{frames_differ}
use Rattle.op_frames.proofs.laws.step_frames_differ.Goals as goal

pub returns : goal.returns
unfolding step_field
returns c = frames_differ step_field 262001 step_is (omega arith) step_some
