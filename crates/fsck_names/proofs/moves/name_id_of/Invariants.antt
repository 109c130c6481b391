use Rattle.std.proofs.Common.{◌≡◌, drop}
use Rattle.std.specs.Prelude.{find}
use Rattle.std.specs.Ordering.{is_eq}
use Rattle.s3_rows.specs.Selections.{bytes_cmp, name_of_bytes}
use Rattle.fsck_names.proofs.moves.name_id_of.Given as goal

-- no name before has the bytes
abbrev pub invariant-loop-row : goal.invariant-loop-row
invariant-loop-row l = find (λ r. is_eq (bytes_cmp r.name l.name)) (drop l.row-index l.row-items) ≡ name_of_bytes l.tables l.name
