use Rattle.std.proofs.Common.{Result, drop}
use Rattle.s3_rows.specs.Tables.{Tables}
use Rattle.fsck_findings.specs.declared.repair.Repair.{Repair}
use Rattle.fsck_findings.specs.declared.repair.PassFault.{PassFault}
use Rattle.fsck_names.specs.Made.{for_each}
use Rattle.fsck_names.specs.Steps.{Gives}
use Rattle.fsck_names.proofs.each.take_each.Given as goal

-- what the steps to come give, all steps give
abbrev pub invariant-loop-row : goal.invariant-loop-row
invariant-loop-row g l =
    let step = g.S.InodeStep.step l.free in
    (result : Result (Unit {0}) PassFault) (v : Tables) (w : Repair)
    → Gives result (for_each step (drop l.row-index l.rows) l.tables) l.tables v l.repair w
    → Gives result (for_each step l.rows l.fn.tables) l.fn.tables v l.fn.repair w
