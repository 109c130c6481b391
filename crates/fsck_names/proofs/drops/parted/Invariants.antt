use Rattle.std.proofs.Common.{◌≡◌, ◌++◌, not, filter, drop}
use Rattle.fsck_names.proofs.drops.parted.Given as goal

-- the entries so far, and those to come
abbrev pub invariant-loop-row : goal.invariant-loop-row
invariant-loop-row g l =
    let test = g.E.EntryTest.test l.tables in
    record {
      gone : l.gone.items ++ filter test (drop l.row-index l.row-items) ≡ filter test l.row-items;
      kept : l.kept.items ++ filter (λ r. not (test r)) (drop l.row-index l.row-items) ≡ filter (λ r. not (test r)) l.row-items;
    }
