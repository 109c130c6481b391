use Rattle.std.proofs.Common.{◌≡◌, ◌++◌, filter, drop}
use Rattle.fsck_names.proofs.each.passing.Given as goal

-- the inodes so far, and those to come
abbrev pub invariant-loop-row : goal.invariant-loop-row
invariant-loop-row g l =
    let test = g.S.InodeTest.test l.tables in
    l.found.items ++ filter test (drop l.row-index l.row-items) ≡ filter test l.row-items
