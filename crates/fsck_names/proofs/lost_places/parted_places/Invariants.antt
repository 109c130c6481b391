use Rattle.std.proofs.Common.{◌≡◌, ◌++◌, not, filter, drop}
use Rattle.fsck_names.specs.Losses.{is_lost}
use Rattle.fsck_names.proofs.lost_places.parted_places.Given as goal

-- the places so far, and those to come
abbrev pub invariant-loop-row : goal.invariant-loop-row
invariant-loop-row l = record {
  gone : l.gone.items ++ filter (is_lost l.tables) (drop l.row-index l.row-items) ≡ filter (is_lost l.tables) l.row-items;
  kept : l.kept.items ++ filter (λ r. not (is_lost l.tables r)) (drop l.row-index l.row-items) ≡ filter (λ r. not (is_lost l.tables r)) l.row-items;
}
