use Rattle.std.proofs.Common.{◌≡◌, ◌++◌}
use Rattle.fsck_run.proofs.pass_steps.add_lines.Given as goal

-- so many lines are added
abbrev pub invariant-loop-line : goal.invariant-loop-line
invariant-loop-line l = l.findings ≡ l.fn.findings ++ l.yielded
