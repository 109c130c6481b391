-- All bytes that were passed are zeros.
use Rattle.std.proofs.Common.{◌≡◌, ◌≤◌, length, take}
use Rattle.block_math.specs.Blocks.{trimmed}
use Rattle.block_math.proofs.blocks.trimmed_len.Given as goal

abbrev pub invariant-loop-len : goal.invariant-loop-len
invariant-loop-len l = record {
  low : l.len ≤ length l.bytes;
  same : trimmed (take l.len l.bytes) ≡ trimmed l.bytes;
}

abbrev pub decreases-loop-len : goal.decreases-loop-len
decreases-loop-len l = l.len
