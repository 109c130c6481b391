use Rattle.std.proofs.Common.{◌≡◌, ◌++◌, length, take, flat_map}
use Rattle.frame_fields.specs.Fields.{item_count_field, short_name_field}
use Rattle.op_frames.proofs.encode.put_names.Given as goal

-- so many names are written
abbrev pub invariant-loop-name : goal.invariant-loop-name
invariant-loop-name l = l.out ≡ (l.fn.out ++ item_count_field.spell (length l.names)) ++ flat_map short_name_field.spell (take l.name-index l.names)
