use Rattle.std.proofs.Common.{arith}
use Rattle.op_frames.specs.Operations.{op_field}
use Rattle.op_frames.proofs.Operations.{op_is, op_some}
use Rattle.frame_fields.proofs.Frames.{frames_differ}
use Rattle.op_frames.proofs.laws.op_frames_differ.Goals as goal

pub returns : goal.returns
unfolding op_field
returns c = frames_differ op_field 250001 op_is (omega arith) op_some
