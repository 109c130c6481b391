use Rattle.std.proofs.Common.{◌≡◌, ◌+◌, ◌<◌, ◌≤◌, ℕ, get_or}
use Rattle.mem_disk.proofs.bytes.write_bytes.Given as goal

abbrev pub invariant-loop-i : goal.invariant-loop-i
invariant-loop-i l = record {
  written : (k : ℕ) → k < l.i → get_or l.disk (l.at + k) 0 ≡ get_or l.bytes k 0;
  below : (k : ℕ) → k < l.at → get_or l.disk k 0 ≡ get_or l.fn.disk k 0;
  above : (k : ℕ) → l.at + l.i ≤ k → get_or l.disk k 0 ≡ get_or l.fn.disk k 0;
}
