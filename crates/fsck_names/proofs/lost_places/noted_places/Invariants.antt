use Rattle.std.proofs.Common.{◌≡◌, ℕ, drop}
use Rattle.std.specs.Prelude.{◌||◌}
use Rattle.fsck_names.specs.Losing.{has_lost, is_in}
use Rattle.fsck_names.proofs.lost_places.noted_places.Given as goal

abbrev pub invariant-loop-row : goal.invariant-loop-row
invariant-loop-row l = (q : ℕ) → (is_in l.found q || has_lost l.tables (drop l.row-index l.row-items) q) ≡ has_lost l.tables l.row-items q
