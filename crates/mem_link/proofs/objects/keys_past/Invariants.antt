-- The items so far and those of the objects that are left are the items of all objects past the key.
use Rattle.std.proofs.Common.{◌≡◌, ◌≤◌, ◌++◌, length}
use Rattle.std.specs.Prelude.{map, filter}
use Rattle.std.specs.Ordering.{is_lt}
use Rattle.s3_devices.specs.Objects.{key_cmp}
use Rattle.s3_devices.specs.LinkAnswers.{item_of}
use Rattle.mem_link.proofs.objects.keys_past.Given as goal

abbrev pub invariant-loop-key : goal.invariant-loop-key
invariant-loop-key l = record {
  all : l.keys ++ map item_of l.key-iterator ≡ map item_of (filter (λ e. is_lt (key_cmp l.after e.0)) l.objects.entries);
  few : length l.keys ≤ l.max;
}
