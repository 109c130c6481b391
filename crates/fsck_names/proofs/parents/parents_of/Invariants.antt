use Rattle.std.proofs.Common.{◌≡◌, ℕ, ◌≤◌, ◌==◌, length, drop}
use Rattle.std.specs.Prelude.{find, option_map}
use Rattle.std.specs.BTreeMap.{get}
use Rattle.std.specs.Ordering.{nat_cmp}
use Rattle.fsck_names.proofs.parents.parents_of.Given as goal

-- of the entries that are done, the first counts
abbrev pub invariant-loop-left : goal.invariant-loop-left
invariant-loop-left l = record {
  within : l.left ≤ length l.contents;
  first : (id : ℕ) → get nat_cmp l.parents id ≡ option_map (λ r. r.parent) (find (λ r. r.inode == id) (drop l.left l.contents));
}

abbrev pub decreases-loop-left : goal.decreases-loop-left
decreases-loop-left l = l.left
