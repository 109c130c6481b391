use Rattle.std.proofs.Common.{◌≡◌, ◌∙◌, ℕ, Option, None, Some, ap, subst}
use Rattle.offline_tool.specs.Output.{EndsWith}
use Rattle.offline_tool.specs.Words.{Limits}
use Rattle.offline_tool.proofs.command.run.Goals as goal

-- the size of a block, if there are limits
block_size_of : Option Limits → ℕ
block_size_of None = 0
block_size_of (Some limits) = limits.block_size

pub returns-in-Some-clause-output : goal.returns-in-Some-clause-output
unfolding block_size_of
returns-in-Some-clause-output g c = λ limits s before words told is.
    let size : c.in-Some.limits.block_size ≡ limits.block_size = ap block_size_of (c.in-Some.ensures.limits ∙ words) in
    let output = c.replay.ensures.output s before told is in
    (output.0, output.1, subst (λ (n : ℕ). EndsWith n s.left c.replay.result output.0) size output.2)
