-- What calls on blocks leave of the devices, as the core finds it.
use Rattle.std.proofs.Common.{◌≡◌, ◌-◌, ◌≤◌, ℕ, List, true, Option, None, Some, sym, ◌∙◌, subst, arith}
use Rattle.std.specs.Prelude.{option_map}
use Rattle.op_frames.specs.declared.operation.Op.{Op}
use Rattle.plain_tree.specs.Tree.{Tree}
use Rattle.s3_rows.specs.Ranges.{HasRanges}
use Rattle.s3_rows.specs.declared.change.Change.{Change}
use Rattle.s3_rows.specs.Batches.{tables_after}
use Rattle.s3_rows.specs.Tables.{IsOrdered}
use Rattle.s3_rows.specs.Told.{Told, IfTold, with_batch}
use Rattle.s3_rows.specs.Validity.{IsValid}
use Rattle.s3_devices.specs.Objects.{Objects}
use Rattle.s3_devices.specs.Told.{Becomes}
use Rattle.file_ops.specs.FileChanges.{AreFew, KeepsObjects, KeepsObjectsOf}
use Rattle.file_ops.specs.Placed.{ArePrepared}
use Rattle.volume_core.specs.declared.row_core.RowCore.{RowCore}
use Rattle.volume_core.specs.Causes.{writes_blocks}
use Rattle.volume_core.specs.Refusals.{IsAlike}
use Rattle.volume_core.specs.Standing.{AreFewTold, StandsFor}
use Rattle.volume_core.proofs.LawsUsed.{DrawnLaws, HeldLaws}
use Rattle.volume_core.proofs.Standing.{becomes_told, becomes_weaker, fact_told, is_alike, told_fact}

module _ {K : Type 0} (told : K → Option Told) (before after : RowCore K) (digest_of : List ℕ → List ℕ) (objects later : Option Objects) (whole : Tree) (s : StandsFor told before whole)
    (known : Option Told) (same_known : known ≡ told before.keeper) (ranges : IfTold known HasRanges) (k m : Option Told) (same : k ≡ told before.keeper) where
  pub drawn_from : Becomes ArePrepared k m → Becomes ArePrepared (told before.keeper) m
  drawn_from prepared = subst (λ x. Becomes ArePrepared x m) same prepared

  -- tables in which objects were drawn are in order
  pub drawn_ordered : DrawnLaws → Becomes ArePrepared k m → IfTold m IsOrdered
  drawn_ordered laws prepared =
      let later = becomes_told ArePrepared (told before.keeper) m s.now (drawn_from prepared) s.tells in
      fact_told m later.0 IsOrdered later.1 (subst IsOrdered (sym later.2.0.1) (laws.valid s.now.tables later.2.0.0 s.served.valid).ordered)

  pub kept_objects : KeepsObjects k objects later → Becomes (KeepsObjectsOf s.now.tables) objects later
  kept_objects kept =
      told_fact k s.now (λ t. IsValid t → HasRanges t → Becomes (KeepsObjectsOf t) objects later) (same ∙ s.tells) kept s.served.valid (told_fact known s.now HasRanges (same_known ∙ s.tells) ranges)

  pub still_tells : KeepsObjects k objects later → Becomes (λ o now. Unit {0}) objects later
  still_tells kept = becomes_weaker (KeepsObjectsOf s.now.tables) (λ o now. Unit {0}) (λ o now is. tt) objects later (kept_objects kept)

  -- objects were drawn, and nothing else is told
  pub only_drawn : DrawnLaws → HeldLaws → Becomes ArePrepared k m → KeepsObjects k objects later → AreFewTold k m → told after.keeper ≡ m → after.handles ≡ before.handles
      → (op : Op) → writes_blocks op ≡ true → IsAlike told before after digest_of objects later whole op
  only_drawn laws held prepared kept few tells handles op writes =
      is_alike told before after whole s laws (subst (λ x. Becomes ArePrepared (told before.keeper) x) (sym tells) (drawn_from prepared)) held digest_of objects later (kept_objects kept) handles
      (subst (λ x. AreFewTold (told before.keeper) x) (sym tells) (subst (λ x. AreFewTold x m) same few)) op writes

-- what holds of ordered tables holds of those that are told, which are
pub few_ordered : (k m : Option Told) (batch : List Change) (count : ℕ) → IfTold m IsOrdered → IfTold k (λ t. IfTold m (λ u. IsOrdered u → AreFew count t (tables_after batch u)))
    → IfTold k (λ t. IfTold m (λ u. AreFew count t (tables_after batch u)))
few_ordered None m batch count ordered few = tt
few_ordered (Some s) None batch count ordered few = tt
few_ordered (Some s) (Some u) batch count ordered few = few ordered

-- at most as many more as a call may draw
pub few_more : (k m : Option Told) (count : ℕ) → count ≤ 34 → IfTold k (λ t. IfTold m (λ u. AreFew count t u)) → AreFewTold k m
few_more None m count most few = tt
few_more (Some s) None count most few = tt
few_more (Some s) (Some u) count most few = record { blocks = omega (arith, few.blocks, most); objects = omega (arith, few.objects, most); places = omega (arith, few.places, most) }

-- the same of tables after a batch
pub few_after : (k m after : Option Told) (batch : List Change) (count : ℕ) → count ≤ 34 → after ≡ option_map (with_batch batch) m → IfTold k (λ t. IfTold m (λ u. AreFew count t (tables_after batch u))) → AreFewTold k after
few_after None m after batch count most committed few = tt
few_after (Some s) None after batch count most committed few = subst (λ x. AreFewTold (Some s) x) (sym committed) tt
few_after (Some s) (Some u) after batch count most committed few =
    subst (λ x. AreFewTold (Some s) x) (sym committed) (record { blocks = omega (arith, few.blocks, most); objects = omega (arith, few.objects, most); places = omega (arith, few.places, most) })
