-- The batch of a copy with a visit more.
use Rattle.std.proofs.Common.{◌≡◌, ℕ, List, ◌++◌, Bool, true, false, cond, None, Some, refl, sym, ap, ◌∙◌}
use Rattle.std.specs.Prelude.{◌&&◌}
use Rattle.s3_rows.specs.declared.change.Change.{Change}
use Rattle.s3_rows.specs.Batches.{tables_after}
use Rattle.s3_rows.specs.Rows.{Inode}
use Rattle.s3_rows.specs.Tables.{Tables}
use Rattle.tree_copy.specs.declared.entries.CopySpot.{CopySpot}
use Rattle.tree_copy.specs.CopiedNames.{entry_may_come, with_entry}
use Rattle.tree_copy.specs.CopiedRows.{child_copied}
use Rattle.tree_copy.specs.CopyWalks.{is_id, visit_batch}

last_worn : (a b c : Bool) → false ≡ c → (a && b && c) ≡ false
last_worn true true c is = sym is
last_worn true false c is = refl
last_worn false b c is = refl

all_true : (a b c : Bool) → a ≡ true → b ≡ true → true ≡ c → (a && b && c) ≡ true
all_true true true c one two is = sym is
all_true true false c one two is = absurd (cc two)
all_true false b c one two is = absurd (cc one)

module _ (spot : CopySpot) (r : Inode) (name : List ℕ) (t : Tables) (batch : List Change) where
  abbrev added : List Change
  added = batch ++ with_entry (child_copied spot.again t spot.copy spot.now r (tables_after batch t)) spot.directory name spot.copy (tables_after batch t)

  abbrev may_come : Bool
  may_come = entry_may_come spot.again t spot.copy spot.now r name (tables_after batch t)

  pub visit_worn : false ≡ entry_may_come spot.again t spot.copy spot.now r name (tables_after batch t) → None ≡ visit_batch spot r name t batch
  visit_worn is = sym (ap (λ b. cond b (Some added) None) (last_worn (is_id spot.directory) (is_id spot.copy) may_come is))

  pub visit_there : (after : List Change) → is_id spot.directory ≡ true → is_id spot.copy ≡ true
      → true ≡ entry_may_come spot.again t spot.copy spot.now r name (tables_after batch t)
      → after ≡ batch ++ with_entry (child_copied spot.again t spot.copy spot.now r (tables_after batch t)) spot.directory name spot.copy (tables_after batch t)
      → Some after ≡ visit_batch spot r name t batch
  visit_there after directory copy fits is =
      ap Some is ∙ sym (ap (λ b. cond b (Some added) None) (all_true (is_id spot.directory) (is_id spot.copy) may_come directory copy fits))
