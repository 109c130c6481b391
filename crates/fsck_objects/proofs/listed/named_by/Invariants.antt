use Rattle.std.proofs.Common.{◌≡◌, ℕ, drop}
use Rattle.std.specs.Prelude.{◌||◌}
use Rattle.fsck_objects.specs.Listed.{is_in}
use Rattle.fsck_objects.specs.Missing.{is_of_block}
use Rattle.fsck_objects.proofs.listed.named_by.Given as goal

abbrev pub invariant-loop-row : goal.invariant-loop-row
invariant-loop-row l = (q : ℕ) → (is_in l.named q || is_of_block (drop l.row-index l.blocks) q) ≡ is_of_block l.blocks q
