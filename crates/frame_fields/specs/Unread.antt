-- What a reader of the code stands for.
use Rattle.std.specs.Prelude.{◌-◌}
use Rattle.frame_fields.specs.declared.fields.Unread.{Unread}
use Rattle.frame_fields.specs.Format.{Rest}

abbrev pub rest_of : Unread → Rest
rest_of u = record { place = u.place; room = u.end - u.place; bytes = u.bytes.now }
