use Rattle.std.proofs.Common.{◌≡◌, ◌++◌, length, take, flat_map}
use Rattle.frame_fields.specs.Fields.{item_count_field}
use Rattle.op_frames.specs.Replies.{entry_field}
use Rattle.op_frames.proofs.encode.put_entries.Given as goal

-- so many entries are written
abbrev pub invariant-loop-entry : goal.invariant-loop-entry
invariant-loop-entry l = l.out ≡ (l.fn.out ++ item_count_field.spell (length l.entries)) ++ flat_map entry_field.spell (take l.entry-index l.entries)
