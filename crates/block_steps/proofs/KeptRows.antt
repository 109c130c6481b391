-- What is held and known of blocks, where each row is one that was there.
use Rattle.std.proofs.Common.{◌≡◌, ℕ, List, [], ◌∷◌, Some, sym, ap, ◌∙◌}
use Rattle.std.specs.Prelude.{length, option_map}
use Rattle.std.specs.List.{AllByRecursion}
use Rattle.std.specs.Cmp.{nat_cmp_total}
use Rattle.s3_rows.specs.declared.digest.Digest.{Digest}
use Rattle.s3_rows.specs.Rows.{Block}
use Rattle.s3_rows.specs.Keyed.{row_at}
use Rattle.s3_rows.specs.Stores.{AreHeld, IsHeld}
use Rattle.s3_rows.specs.Tables.{IsOrdered, Tables, by_block}
use Rattle.row_lemmas.proofs.Keyed.RowAt.{row_at_meets, row_at_own}
use Rattle.tree_rows.specs.Contents.{Contents, HaveBytes, bytes_of}
use Rattle.core_model.specs.Safe.{HaveHeld, Held}
use Rattle.ref_counts.specs.Links.{AreRowsOf}

-- ---- a fact of every block

-- a fact of the digest, the size and the object of a block
abbrev IsOfParts : (Block → Type 0) → Type 0
IsOfParts P = (r old : Block) → r.digest ≡ old.digest → r.size ≡ old.size → r.object ≡ old.object → P old → P r

AllByRecursion-kept : (P : Block → Type 0) → IsOfParts P → (t after : Tables) → IsOrdered after → AreRowsOf t after
    → AllByRecursion P t.blocks → AllByRecursion P after.blocks
AllByRecursion-kept P parts t after ordered kept all = each after.blocks (row_at_own by_block nat_cmp_total after.blocks ordered.blocks)
  where
    each : (rows : List Block) → AllByRecursion (λ (r : Block). row_at by_block r.id after.blocks ≡ Some r) rows → AllByRecursion P rows
    each [] own = tt
    each (r ∷ rs) own =
        let was = kept r.id r own.0 in
        (parts r was.0 was.2 was.3 was.4 (row_at_meets by_block P r.id t.blocks was.0 all was.1), each rs own.1)

-- ---- what is held

module _ (m : Contents) (held : Held) where
  abbrev IsStored : Block → Type 0
  IsStored r = held r.object ≡ bytes_of m r.digest.0

  to_stored : (rows : List Block) → HaveHeld m held rows → AllByRecursion IsStored rows
  to_stored [] all = tt
  to_stored (r ∷ rs) all = (all.0, to_stored rs all.1)

  from_stored : (rows : List Block) → AllByRecursion IsStored rows → HaveHeld m held rows
  from_stored [] all = tt
  from_stored (r ∷ rs) all = (all.0, from_stored rs all.1)

  pub HaveHeld-kept : (t after : Tables) → IsOrdered t → IsOrdered after → AreRowsOf t after → HaveHeld m held t.blocks → HaveHeld m held after.blocks
  HaveHeld-kept t after before ordered kept all =
      from_stored after.blocks (AllByRecursion-kept IsStored
      (λ r old digest size object own. ap held object ∙ own ∙ sym (ap (λ (d : Digest). bytes_of m d.0) digest))
      t after ordered kept (to_stored t.blocks all))

-- ---- what is known

module _ (m : Contents) where
  abbrev IsKnown : Block → Type 0
  IsKnown r = option_map length (bytes_of m r.digest.0) ≡ Some r.size

  to_known : (rows : List Block) → HaveBytes m rows → AllByRecursion IsKnown rows
  to_known [] all = tt
  to_known (r ∷ rs) all = (all.0, to_known rs all.1)

  from_known : (rows : List Block) → AllByRecursion IsKnown rows → HaveBytes m rows
  from_known [] all = tt
  from_known (r ∷ rs) all = (all.0, from_known rs all.1)

  pub HaveBytes-kept : (t after : Tables) → IsOrdered t → IsOrdered after → AreRowsOf t after → HaveBytes m t.blocks → HaveBytes m after.blocks
  HaveBytes-kept t after before ordered kept all =
      from_known after.blocks (AllByRecursion-kept IsKnown
      (λ r old digest size object own. ap (λ (d : Digest). option_map length (bytes_of m d.0)) digest ∙ own ∙ sym (ap (λ (n : ℕ). Some n) size))
      t after ordered kept (to_known t.blocks all))

-- ---- what is held by its digest

module _ (digest_of : List ℕ → List ℕ) (held : Held) where
  to_held : (rows : List Block) → AreHeld digest_of held rows → AllByRecursion (IsHeld digest_of held) rows
  to_held [] all = tt
  to_held (r ∷ rs) all = (all.0, to_held rs all.1)

  from_held : (rows : List Block) → AllByRecursion (IsHeld digest_of held) rows → AreHeld digest_of held rows
  from_held [] all = tt
  from_held (r ∷ rs) all = (all.0, from_held rs all.1)

  pub AreHeld-kept : (t after : Tables) → IsOrdered t → IsOrdered after → AreRowsOf t after → AreHeld digest_of held t.blocks → AreHeld digest_of held after.blocks
  AreHeld-kept t after before ordered kept all =
      from_held after.blocks (AllByRecursion-kept (IsHeld digest_of held)
      (λ r old digest size object own. record {
        bytes = own.bytes;
        there = ap held object ∙ own.there;
        digest = own.digest ∙ sym (ap (λ (d : Digest). d.0) digest);
        size = own.size ∙ sym size;
      })
      t after ordered kept (to_held t.blocks all))
