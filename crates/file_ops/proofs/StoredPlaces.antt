-- What the store holds of all rows once blocks are placed.
use Rattle.std.proofs.Common.{◌≡◌, ℕ, ◌+◌, ◌≤◌, ◌<◌, ◌^◌, List, [], Bool, true, false, Option, None, Some, refl, sym, ap, ◌∙◌, subst, count_by, arith, eqb-true, ltb-true}
use Rattle.std.specs.Prelude.{IsTrue, ◌==◌, is_some, nat_lt}
use Rattle.std.specs.List.{list_any}
use Rattle.std.specs.Ordering.{is_eq}
use Rattle.s3_rows.specs.declared.change.Change.{Change}
use Rattle.s3_rows.specs.Rows.{Block, Object, Parameters}
use Rattle.s3_rows.specs.Stores.{AreHeld, IsHeld}
use Rattle.s3_rows.specs.Told.{Told}
use Rattle.s3_rows.specs.Keyed.{put}
use Rattle.s3_rows.specs.Tables.{Tables, by_block, by_object}
use Rattle.s3_rows.specs.Batches.{tables_after}
use Rattle.s3_rows.specs.Selections.{object_at}
use Rattle.s3_rows.specs.Validity.{counts_object}
use Rattle.row_lemmas.proofs.Sums.{list_any_from_count_by}
use Rattle.row_lemmas.proofs.Tests.{is_eq-nat_cmp}
use Rattle.row_lemmas.proofs.Keyed.RowAt.{row_at_key, row_at_passes}
use Rattle.s3_devices.specs.Keys.{objects_in}
use Rattle.s3_devices.specs.Objects.{Objects}
use Rattle.tree_rows.specs.Contents.{Contents, bytes_of}
use Rattle.core_model.specs.Safe.{HaveHeld, Held, new_object, with_new_objects}
use Rattle.core_model.specs.Occurring.{Knows, is_stored}
use Rattle.block_steps.specs.Places.{places_relinked}
use Rattle.file_ops.specs.declared.new_block.NewBlock.{NewBlock}
use Rattle.file_ops.specs.declared.place.Place.{Place}
use Rattle.file_ops.specs.Placed.{ArePlaceable, ArePut, KnowsBlocks, WerePlaced, is_object_of, links_of, places_counted, with_drawn}
use Rattle.file_ops.specs.Resolved.{is_new, resolved}
use Rattle.file_ops.proofs.CountedPlaces.{CountLaws}
use Rattle.file_ops.proofs.HeldPlaces.{AllSo-any, AllSo-known, any_all, new_in_range, new_rows_ok}
use Rattle.file_ops.proofs.KeptBlocks.{KeptLaws, counted_keeps}
use Rattle.file_ops.proofs.NamedBlocks.{LinkLaws, by_parts, owed, placed_raw, same_params, start}
use Rattle.file_ops.proofs.PutObjects.{held_after_all-old}

-- the laws of what the store holds
pub record StoreLaws : Type 0 where
  pub others : (m : Contents) (held after : Held) (rows : List Block) → ((object : ℕ) → IsTrue (list_any (λ r. r.object == object) rows) → after object ≡ held object)
      → HaveHeld m held rows → HaveHeld m after rows
  pub row : (m : Contents) (held : Held) (r : Block) (rows : List Block) → held r.object ≡ bytes_of m r.digest.0 → HaveHeld m held rows → HaveHeld m held (put by_block r rows)
  pub stored_others : (digest_of : List ℕ → List ℕ) (held after : Held) (rows : List Block) → ((object : ℕ) → IsTrue (list_any (λ r. r.object == object) rows) → after object ≡ held object)
      → AreHeld digest_of held rows → AreHeld digest_of after rows
  pub stored_row : (digest_of : List ℕ → List ℕ) (held : Held) (r : Block) (rows : List Block) → IsHeld digest_of held r → AreHeld digest_of held rows → AreHeld digest_of held (put by_block r rows)

module _ (laws : CountLaws) (links : LinkLaws) (kept : KeptLaws) (store : StoreLaws) (digest_of : List ℕ → List ℕ) (t after : Tables) (params : Parameters) (made : t.params ≡ Some params)
    (blocks : List NewBlock) where
  abbrev xs : List Place
  xs = resolved digest_of t [] params.next_block params.next_object blocks

  abbrev q : Parameters
  q = with_drawn (count_by is_new xs) params

  module _ (drawn : after ≡ with_new_objects (count_by is_new xs) t) (batch : List Change) (inode : ℕ) (able : ArePlaceable after batch inode blocks)
      (room : params.next_object + count_by is_new xs ≤ 2 ^ 62) (o o2 : Objects) (puts : ArePut blocks xs o o2) where
    abbrev u0 : Tables
    u0 = tables_after batch after

    -- an object that a block has is no new one
    not_new : (x : ℕ) → list_any (λ (r : Block). r.object == x) u0.blocks ≡ true → list_any (is_object_of x) xs ≡ false
    not_new x some = by_case (list_any (is_object_of x) xs) refl
      where
        by_case : (k : Bool) → list_any (is_object_of x) xs ≡ k → k ≡ false
        by_case false is = refl
        by_case true is =
            let range = new_in_range digest_of t blocks [] params.next_block params.next_object x is in
            let at : object_at u0 x ≡ Some (new_object x) = (start laws links digest_of t after params made blocks drawn batch inode able).objects x range.0 range.1 in
            let counted : IsTrue (counts_object u0 (new_object x)) = row_at_passes by_object (counts_object u0) x u0.objects (new_object x) able.valid.counts.objects at in
            let none : 0 ≡ count_by (λ (r : Block). r.object == x) u0.blocks = eqb-true 0 (count_by (λ (r : Block). r.object == x) u0.blocks) counted in
            let clash : true ≡ false = sym some ∙ list_any_from_count_by (λ (r : Block). r.object == x) u0.blocks (sym none) in
            absurd (cc clash)

    -- its number is below the next one
    low : (x : ℕ) → list_any (λ (r : Block). r.object == x) u0.blocks ≡ true → x < 2 ^ 64
    low x some = by_row (object_at u0 x) refl there
      where
        there : IsTrue (is_some (object_at u0 x))
        there =
            let found = any_all (λ (r : Block). is_some (object_at u0 r.object)) (λ (r : Block). r.object == x) u0.blocks some able.valid.rows.objects in
            subst (λ (n : ℕ). IsTrue (is_some (object_at u0 n))) (eqb-true found.0.object x found.1) found.2

        by_row : (row : Option Object) → object_at u0 x ≡ row → IsTrue (is_some row) → x < 2 ^ 64
        by_row None at is = absurd (cc is)
        by_row (Some r) at is =
            let free : IsTrue (nat_lt r.id able.valid.params.next_object) = row_at_passes by_object (λ (y : Object). nat_lt y.id able.valid.params.next_object) x u0.objects r able.valid.free.objects at in
            let below : r.id < able.valid.params.next_object = ltb-true r.id able.valid.params.next_object free in
            let own : x ≡ r.id = eqb-true x r.id (sym (is_eq-nat_cmp x r.id) ∙ ap is_eq (row_at_key by_object x u0.objects r at)) in
            let next : able.valid.params.next_object ≡ params.next_object + count_by is_new xs =
            ap (λ (p : Parameters). p.next_object) (same_params laws links digest_of t after params made blocks drawn batch inode able) in
            omega (arith, below, own, next, room)

    old_object : (x : ℕ) → IsTrue (list_any (λ (r : Block). r.object == x) u0.blocks) → objects_in o2 x ≡ objects_in o x
    old_object x some = puts x (low x some) ∙ held_after_all-old x blocks xs (objects_in o x) (not_new x some)

    module _ (more : List Change) (adds : places_counted q xs u0 ≡ Some more) where
      abbrev v : Tables
      v = tables_after more u0

      pub stored_raw : (w : Tables) → w ≡ tables_after (places_relinked inode (links_of blocks xs) v) v → AreHeld digest_of (objects_in o) u0.blocks → AreHeld digest_of (objects_in o2) w.blocks
      stored_raw w is held =
          subst (λ (x : Tables). AreHeld digest_of (objects_in o2) x.blocks) (sym is)
          (kept.stored digest_of (objects_in o2) v (tables_after (places_relinked inode (links_of blocks xs) v) v)
          (owed laws links digest_of t after params made blocks drawn batch inode able more adds).ordered
          (placed_raw laws links digest_of t after params made blocks drawn batch inode able more adds).valid.ordered
          (links.rows v inode (links_of blocks xs))
          (counted_keeps laws (AreHeld digest_of (objects_in o2)) (IsHeld digest_of (objects_in o2)) (kept.stored digest_of (objects_in o2)) (store.stored_row digest_of (objects_in o2)) q xs u0 more
          adds able.valid.ordered
          (new_rows_ok digest_of t (IsHeld digest_of (objects_in o2)) (λ b. Unit {0}) (objects_in o2)
          (λ b block object stored any here. record { bytes = b.stored; there = here; digest = refl; size = refl })
          blocks [] params.next_block params.next_object (params.next_object + count_by is_new xs) (objects_in o) (AllSo-any blocks) (omega arith)
          (λ n high. puts n (omega (arith, high, room))))
          (store.stored_others digest_of (objects_in o) (objects_in o2) u0.blocks old_object held)))

      pub held_raw : (w : Tables) → w ≡ tables_after (places_relinked inode (links_of blocks xs) v) v → (m : Contents) → KnowsBlocks digest_of m blocks
          → HaveHeld m (objects_in o) u0.blocks → HaveHeld m (objects_in o2) w.blocks
      held_raw w is m knows held =
          subst (λ (x : Tables). HaveHeld m (objects_in o2) x.blocks) (sym is)
          (kept.held m (objects_in o2) v (tables_after (places_relinked inode (links_of blocks xs) v) v)
          (owed laws links digest_of t after params made blocks drawn batch inode able more adds).ordered
          (placed_raw laws links digest_of t after params made blocks drawn batch inode able more adds).valid.ordered
          (links.rows v inode (links_of blocks xs))
          (counted_keeps laws (HaveHeld m (objects_in o2)) (λ r. objects_in o2 r.object ≡ bytes_of m r.digest.0) (kept.held m (objects_in o2)) (store.row m (objects_in o2)) q xs u0 more
          adds able.valid.ordered
          (new_rows_ok digest_of t (λ r. objects_in o2 r.object ≡ bytes_of m r.digest.0) (λ b. is_stored b.stored ≡ true → Knows digest_of m b.stored) (objects_in o2)
          (λ b block object stored known here. here ∙ sym (known stored))
          blocks [] params.next_block params.next_object (params.next_object + count_by is_new xs) (objects_in o) (AllSo-known digest_of m blocks knows) (omega arith)
          (λ n high. puts n (omega (arith, high, room))))
          (store.others m (objects_in o) (objects_in o2) u0.blocks old_object held)))

module _ (laws : CountLaws) (links : LinkLaws) (kept : KeptLaws) (store : StoreLaws) (digest_of : List ℕ → List ℕ) (inode : ℕ) (blocks : List NewBlock) (before after : Told) (batch now : List Change)
    (did : WerePlaced digest_of inode blocks before after batch now) (able : ArePlaceable after.tables batch inode blocks) (o o2 : Objects) (puts : ArePut blocks did.xs o o2) where
  pub stored : AreHeld digest_of (objects_in o) after.tables.blocks → AreHeld digest_of (objects_in o2) (tables_after now after.tables).blocks
  stored held =
      by_parts digest_of inode blocks before after batch now did (λ xs w. ArePut blocks xs o o2 → AreHeld digest_of (objects_in o2) w.blocks)
      (λ params made drawn more room adds put.
      stored_raw laws links kept store digest_of before.tables after.tables params made blocks drawn batch inode able room o o2 put more adds _ refl
      (subst (AreHeld digest_of (objects_in o)) (sym able.blocks_stay) held))
      puts

  pub held_known : (m : Contents) → KnowsBlocks digest_of m blocks → HaveHeld m (objects_in o) after.tables.blocks → HaveHeld m (objects_in o2) (tables_after now after.tables).blocks
  held_known m knows held =
      by_parts digest_of inode blocks before after batch now did (λ xs w. ArePut blocks xs o o2 → HaveHeld m (objects_in o2) w.blocks)
      (λ params made drawn more room adds put.
      held_raw laws links kept store digest_of before.tables after.tables params made blocks drawn batch inode able room o o2 put more adds _ refl m knows
      (subst (HaveHeld m (objects_in o)) (sym able.blocks_stay) held))
      puts
