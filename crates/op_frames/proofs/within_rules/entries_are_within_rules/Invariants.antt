use Rattle.std.proofs.Common.{IsTrue, take}
use Rattle.std.specs.List.{list_all}
use Rattle.op_frames.specs.Replies.{entry_field}
use Rattle.op_frames.proofs.within_rules.entries_are_within_rules.Given as goal

-- so many entries are within their rules
abbrev pub invariant-loop-entry : goal.invariant-loop-entry
invariant-loop-entry l = IsTrue (list_all entry_field.allows (take l.entry-index l.entries))
