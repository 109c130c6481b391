use Rattle.std.proofs.Common.{drop}
use Rattle.fsck_findings.proofs.Looked.{Leaves}
use Rattle.fsck_findings.proofs.looking.look_at_all.Given as goal

-- with what is found about the rows that are left, it is all that is found
abbrev pub invariant-loop-row : goal.invariant-loop-row
invariant-loop-row g l = Leaves (g.L.Look.about l.look) (drop l.row-index l.rows) l.rows l.fn.repair l.repair
