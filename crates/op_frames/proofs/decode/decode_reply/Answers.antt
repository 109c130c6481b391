use Rattle.std.proofs.Common.{arith}
use Rattle.op_frames.specs.Replies.{reply_field}
use Rattle.op_frames.proofs.Replies.{reply_is, reply_some}
use Rattle.frame_fields.proofs.Frames.{is_found, is_only}
use Rattle.frame_fields.proofs.Bounds.{faults_in}
use Rattle.op_frames.proofs.decode.decode_reply.Goals as goal

pub returns-clause-found : goal.returns-clause-found
returns-clause-found c = is_found reply_field 250001 reply_is c.args.bytes.now c.reply_frame_of.result (λ i. omega (arith, c.type_inv.bytes i)) c.reply_frame_of.ensures

pub returns-clause-only : goal.returns-clause-only
unfolding reply_field
returns-clause-only c = λ reply rest allowed e. is_only reply_field 250001 reply_is (omega arith) c.args.bytes.now c.reply_frame_of.result c.reply_frame_of.ensures reply rest allowed (reply_some reply) e

pub returns-clause-short : goal.returns-clause-short
returns-clause-short c = (faults_in reply_field 250001 reply_is c.args.bytes.now c.reply_frame_of.result c.reply_frame_of.ensures).0

pub returns-clause-near : goal.returns-clause-near
returns-clause-near c = (faults_in reply_field 250001 reply_is c.args.bytes.now c.reply_frame_of.result c.reply_frame_of.ensures).1
