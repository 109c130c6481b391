use Rattle.std.proofs.Common.{◌≡◌, drop}
use Rattle.std.specs.Prelude.{find}
use Rattle.s3_rows.specs.Validity.{is_lost_and_found}
use Rattle.fsck_names.proofs.moves.lost_and_found_of.Given as goal

-- no entry before is lost+found
abbrev pub invariant-loop-row : goal.invariant-loop-row
invariant-loop-row l = find (is_lost_and_found l.tables) (drop l.row-index l.row-items) ≡ find (is_lost_and_found l.tables) l.tables.contents
