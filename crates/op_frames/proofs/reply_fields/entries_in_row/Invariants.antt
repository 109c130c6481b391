use Rattle.std.proofs.Common.{◌≡◌, ◌-◌}
use Rattle.frame_fields.specs.Format.{items_of}
use Rattle.frame_fields.specs.Unread.{rest_of}
use Rattle.op_frames.specs.Replies.{entry_field}
use Rattle.frame_fields.proofs.Lists.{with_others}
use Rattle.op_frames.proofs.reply_fields.entries_in_row.Given as goal

-- those that are taken, and then the others, are all
abbrev pub invariant-loop-taken : goal.invariant-loop-taken
invariant-loop-taken l = items_of entry_field l.fn.count (rest_of l.fn.unread) ≡ with_others l.entries (items_of entry_field (l.fn.count - l._taken) (rest_of l.rest))
