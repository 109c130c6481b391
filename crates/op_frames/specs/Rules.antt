-- What the field rules ask of a reply beyond the types of its fields.
use Rattle.std.specs.Prelude.{Bool, nat_le}
use Rattle.op_frames.specs.declared.reply.Attr.{Attr}
use Rattle.op_frames.specs.declared.reply.Reply.{Reply}
use Rattle.op_frames.specs.declared.reply.Reply.TheVariants as replies
use Rattle.op_frames.specs.Answers.{has_short_data}

-- the twelve bits of permissions alone
abbrev pub has_mode : Attr → Bool
has_mode attr = nat_le attr.mode 4095

-- its mode, if it has one, is within its rule, or its data are short
abbrev pub has_fit_fields : Reply → Bool
has_fit_fields (replies.Attr attr) = has_mode attr
has_fit_fields (replies.Opened handle attr) = has_mode attr
has_fit_fields reply = has_short_data reply
