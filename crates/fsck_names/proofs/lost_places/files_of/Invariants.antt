use Rattle.std.proofs.Common.{◌≡◌, ◌++◌, filter, drop}
use Rattle.std.specs.Prelude.{◌&&◌}
use Rattle.s3_rows.specs.Validity.{is_regular}
use Rattle.fsck_names.specs.Losing.{is_in}
use Rattle.fsck_names.proofs.lost_places.files_of.Given as goal

-- the inodes so far, and those to come
abbrev pub invariant-loop-row : goal.invariant-loop-row
invariant-loop-row l =
    l.found.items ++ filter (λ i. is_regular i.kind && is_in l.losing i.id) (drop l.row-index l.rows)
    ≡ filter (λ i. is_regular i.kind && is_in l.losing i.id) l.rows
