use Rattle.std.proofs.Common.{◌≡◌, ℕ, drop}
use Rattle.fsck_objects.specs.Listed.{length_in, listed_length, or_else}
use Rattle.fsck_objects.proofs.listed.listed_in.Given as goal

abbrev pub invariant-loop-item : goal.invariant-loop-item
invariant-loop-item l = (q : ℕ) → or_else (length_in l.listed q) (listed_length (drop l.item-index l.keys) q) ≡ listed_length l.keys q
