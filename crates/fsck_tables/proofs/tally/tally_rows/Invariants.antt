use Rattle.std.proofs.Common.{◌≡◌, ℕ, ◌+◌, drop}
use Rattle.std.specs.Prelude.{count_by}
use Rattle.fsck_tables.specs.Tally.{tally_at}
use Rattle.fsck_tables.proofs.tally.tally_rows.Given as goal

abbrev pub invariant-loop-row : goal.invariant-loop-row
invariant-loop-row g l =
    (id : ℕ) → tally_at l.tally id + count_by (g.C.Counted.counts l.counted id) (drop l.row-index l.rows)
    ≡ tally_at l.fn.tally id + count_by (g.C.Counted.counts l.counted id) l.rows
