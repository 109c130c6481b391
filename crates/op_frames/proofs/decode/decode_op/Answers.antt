use Rattle.std.proofs.Common.{arith}
use Rattle.op_frames.specs.Operations.{op_field}
use Rattle.op_frames.proofs.Operations.{op_is, op_some}
use Rattle.frame_fields.proofs.Frames.{is_found, is_only}
use Rattle.frame_fields.proofs.Bounds.{faults_in}
use Rattle.op_frames.proofs.decode.decode_op.Goals as goal

pub returns-clause-found : goal.returns-clause-found
returns-clause-found c = is_found op_field 250001 op_is c.args.bytes.now c.op_frame_of.result (λ i. omega (arith, c.type_inv.bytes i)) c.op_frame_of.ensures

pub returns-clause-only : goal.returns-clause-only
unfolding op_field
returns-clause-only c = λ op rest allowed e. is_only op_field 250001 op_is (omega arith) c.args.bytes.now c.op_frame_of.result c.op_frame_of.ensures op rest allowed (op_some op) e

pub returns-clause-short : goal.returns-clause-short
returns-clause-short c = (faults_in op_field 250001 op_is c.args.bytes.now c.op_frame_of.result c.op_frame_of.ensures).0

pub returns-clause-near : goal.returns-clause-near
returns-clause-near c = (faults_in op_field 250001 op_is c.args.bytes.now c.op_frame_of.result c.op_frame_of.ensures).1
