use Rattle.std.proofs.Common.{arith}
use Rattle.op_frames.specs.Replies.{reply_field}
use Rattle.op_frames.proofs.Replies.{reply_is, reply_some}
use Rattle.frame_fields.proofs.Frames.{frames_differ}
use Rattle.op_frames.proofs.laws.reply_frames_differ.Goals as goal

pub returns : goal.returns
unfolding reply_field
returns c = frames_differ reply_field 250001 reply_is (omega arith) reply_some
