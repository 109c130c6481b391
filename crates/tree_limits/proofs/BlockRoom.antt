-- While few numbers of blocks and objects are in use, what is worn for blocks of a file is the count of some block.
use Rattle.std.proofs.Common.{◌≡◌, ℕ, ◌+◌, ◌≤◌, ◌^◌, ◌⊎◌, inl, inr, List, [], ◌∷◌, length, Bool, true, false, Option, None, Some, refl, sym, ap, ◌∙◌, subst, count_by, arith}
use Rattle.std.specs.Prelude.{IsTrue, not, find, is_some, option_map, unwrap_or}
use Rattle.std.specs.List.{list_all}
use Rattle.std.proofs.lemmas.Bool.{cases_lt}
use Rattle.std.proofs.lemmas.Cmp.{nat_cmp_total}
use Rattle.std.proofs.lemmas.List.{length-map}
use Rattle.std.proofs.lemmas.List.Sums.{count_by-le-length}
use Rattle.s3_rows.specs.declared.change.Change.{Change}
use Rattle.s3_rows.specs.declared.change.Change.TheVariants as changes
use Rattle.s3_rows.specs.Rows.{Block, Inode, Parameters}
use Rattle.s3_rows.specs.Keyed.{row_at}
use Rattle.s3_rows.specs.Tables.{Tables, by_block}
use Rattle.s3_rows.specs.Batches.{tables_after}
use Rattle.s3_rows.specs.Selections.{block_at}
use Rattle.s3_rows.specs.Validity.{IsValid}
use Rattle.row_lemmas.proofs.Tests.{find_passes, list_all_from_find, list_all_weaker}
use Rattle.row_lemmas.proofs.Keyed.RowAt.{row_at_from_find}
use Rattle.s3_devices.specs.Objects.{Objects}
use Rattle.core_model.specs.Safe.{with_new_objects}
use Rattle.block_steps.specs.Owed.{next_block_of}
use Rattle.file_ops.specs.declared.new_block.NewBlock.{NewBlock}
use Rattle.file_ops.specs.declared.place.Place.{Place}
use Rattle.file_ops.specs.FileChanges.{AreWorn, next_object_of}
use Rattle.file_ops.specs.NewBlocks.{numbers_of}
use Rattle.file_ops.specs.Placed.{LacksCounts, LacksNumbers, places_counted, with_drawn}
use Rattle.file_ops.specs.Resolved.{IsWorn, is_new, resolved}
use Rattle.file_ops.proofs.NamedBlocks.{length-resolved}
use Rattle.file_ops.proofs.PlacedBlocks.{blocks-with_new_objects}
use Rattle.tree_limits.proofs.PlaceRoom.{HasRoom, above_test, all_counted, can_rise, test_above}

-- ---- the beginning

-- the row of an inode is no block
blocks_stay : (batch : List Change) → (batch ≡ []) ⊎ ((row : Inode) × (batch ≡ changes.PutInode row ∷ [])) → (u : Tables) → (tables_after batch u).blocks ≡ u.blocks
blocks_stay batch (inl is) u = ap (λ (cs : List Change). (tables_after cs u).blocks) is
blocks_stay batch (inr put) u = ap (λ (cs : List Change). (tables_after cs u).blocks) put.1

fewer : (n left : ℕ) → left ≤ n → (r : Block) → IsTrue (can_rise n r) → IsTrue (can_rise left r)
fewer n left less r is = test_above (r.refcount + left) (2 ^ 62) (omega (arith, above_test (r.refcount + n) (2 ^ 62) is, less))

start_room : (t u : Tables) (n left : ℕ) → u.blocks ≡ t.blocks → IsTrue (list_all (can_rise n) t.blocks) → left ≤ n → HasRoom t [] left u
start_room t u n left same rise less = record {
  counts =
      subst (λ (rows : List Block). IsTrue (list_all (can_rise left) rows)) (sym same)
      (list_all_weaker (can_rise n) (can_rise left) (fewer n left less) t.blocks rise);
  old = λ id there. ap (λ (rows : List Block). is_some (row_at by_block id rows)) same ∙ there;
  seen = λ d r found. absurd (cc found);
}

-- ---- what stands in the way

module _ (digest_of : List ℕ → List ℕ) (t : Tables) (blocks : List NewBlock) where
  -- where blocks are found, by the parameters
  abbrev found_by : Option Parameters → List Place
  found_by o = elim o [ None ↦ [] | Some p ↦ resolved digest_of t [] p.next_block p.next_object blocks ]

  abbrev LacksNumbersBy : Option Parameters → Option Parameters → Type 0
  LacksNumbersBy o whole = elim o [ None ↦ Unit {0} | Some p ↦ IsWorn p.next_block p.next_object (count_by is_new (found_by whole)) ]

  abbrev LacksCountsBy : List Change → Option Parameters → Option Parameters → Type 0
  LacksCountsBy batch o whole =
      elim o [
        | None ↦ Unit {0}
        | Some p ↦
            places_counted (with_drawn (count_by is_new (found_by whole)) p) (found_by whole)
            (tables_after batch (with_new_objects (count_by is_new (found_by whole)) t)) ≡ None
      ]

  module _ (p : Parameters) (made : t.params ≡ Some p) where
    numbers_lack : LacksNumbers digest_of t blocks → IsWorn p.next_block p.next_object (count_by is_new (found_by (Some p)))
    numbers_lack lacks = subst (λ (o : Option Parameters). LacksNumbersBy o o) made lacks

    counts_lack : (batch : List Change) → LacksCounts digest_of t batch blocks
        → places_counted (with_drawn (count_by is_new (found_by (Some p))) p) (found_by (Some p))
        (tables_after batch (with_new_objects (count_by is_new (found_by (Some p))) t)) ≡ None
    counts_lack batch lacks = subst (λ (o : Option Parameters). LacksCountsBy batch o o) made lacks

-- numbers are left where few are in use
numbers_left : (block object count : ℕ) → block ≤ 2 ^ 60 → object ≤ 2 ^ 60 → count ≤ 2 ^ 60 → IsWorn block object count → ⊥
numbers_left block object count low small few (inl worn) = omega (arith, low, few, worn)
numbers_left block object count low small few (inr worn) = omega (arith, small, few, worn)

-- no number is worn while few are in use, and no count of a block that may rise for each place
pub room_not_worn : (digest_of : List ℕ → List ℕ) (t : Tables) (objects : Option Objects) (file : Inode) (block_size : ℕ) (new : List ℕ → List ℕ) (changed : List ℕ) (batch : List Change)
    → IsValid t → (batch ≡ []) ⊎ ((row : Inode) × (batch ≡ changes.PutInode row ∷ [])) → (n : ℕ) → length changed ≤ n → n ≤ 2 ^ 60
    → next_block_of t ≤ 2 ^ 60 → next_object_of t ≤ 2 ^ 60 → IsTrue (list_all (can_rise n) t.blocks)
    → AreWorn digest_of t objects file block_size new changed batch → ⊥
room_not_worn digest_of t objects file block_size new changed batch valid puts n few bound low small rise are = by_cause are.worn
  where
    p : Parameters
    p = valid.params

    count : ℕ
    count = count_by is_new (resolved digest_of t [] valid.params.next_block valid.params.next_object are.blocks)

    within : length are.blocks ≤ n
    within =
        let whole : length (numbers_of are.blocks) ≡ length changed = ap length are.numbers in
        let each : length (numbers_of are.blocks) ≡ length are.blocks = length-map are.blocks (λ (b : NewBlock). b.blockno) in
        omega (arith, whole, each, few)

    long : length are.blocks ≤ 2 ^ 60
    long = omega (arith, within, bound)

    some : count_by is_new (resolved digest_of t [] valid.params.next_block valid.params.next_object are.blocks) ≤ 2 ^ 60
    some =
        let most : count_by is_new (resolved digest_of t [] valid.params.next_block valid.params.next_object are.blocks)
        ≤ length (resolved digest_of t [] valid.params.next_block valid.params.next_object are.blocks) =
        count_by-le-length is_new (resolved digest_of t [] valid.params.next_block valid.params.next_object are.blocks) in
        let each = length-resolved digest_of t [] valid.params.next_block valid.params.next_object are.blocks in
        omega (arith, most, each, long)

    block_low : valid.params.next_block ≤ 2 ^ 60
    block_low = let same : next_block_of t ≡ valid.params.next_block = ap (λ (o : Option Parameters). unwrap_or (option_map (λ (x : Parameters). x.next_block) o) 0) valid.is_made in omega (arith, same, low)

    object_low : valid.params.next_object ≤ 2 ^ 60
    object_low = let same : next_object_of t ≡ valid.params.next_object = ap (λ (o : Option Parameters). unwrap_or (option_map (λ (x : Parameters). x.next_object) o) 0) valid.is_made in omega (arith, same, small)

    by_cause : LacksNumbers digest_of t are.blocks ⊎ LacksCounts digest_of t batch are.blocks → ⊥
    by_cause (inl lacks) =
        numbers_left p.next_block p.next_object count block_low object_low some
        (numbers_lack digest_of t are.blocks p valid.is_made lacks)
    by_cause (inr lacks) =
        let u = tables_after batch (with_new_objects count t) in
        all_counted digest_of t (with_drawn count p) valid.ordered.blocks are.blocks [] p.next_block p.next_object u long
        (start_room t u n (length are.blocks) (blocks_stay batch puts (with_new_objects count t) ∙ blocks-with_new_objects count t) rise within)
        (counts_lack digest_of t are.blocks p valid.is_made batch lacks)

-- ---- a block that is full

unchecked : (b : Bool) → IsTrue (not (not b)) → IsTrue b
unchecked true is = refl
unchecked false is = absurd (cc is)

-- so where one is worn, the count of some block cannot rise so often
pub worn_has_row : (digest_of : List ℕ → List ℕ) (t : Tables) (objects : Option Objects) (file : Inode) (block_size : ℕ) (new : List ℕ → List ℕ) (changed : List ℕ) (batch : List Change)
    → IsValid t → (batch ≡ []) ⊎ ((row : Inode) × (batch ≡ changes.PutInode row ∷ [])) → (n : ℕ) → length changed ≤ n → n ≤ 2 ^ 60
    → next_block_of t ≤ 2 ^ 60 → next_object_of t ≤ 2 ^ 60 → AreWorn digest_of t objects file block_size new changed batch
    → (r : Block) × (block_at t r.id ≡ Some r) × (2 ^ 62 ≤ r.refcount + n)
worn_has_row digest_of t objects file block_size new changed batch valid puts n few bound low small are = by_row (find (λ (r : Block). not (can_rise n r)) t.blocks) refl
  where
    above : (r : Block) → IsTrue (not (can_rise n r)) → 2 ^ 62 ≤ r.refcount + n
    above r fails =
        elim (cases_lt (r.refcount + n) (2 ^ 62)) [
          | inl less ↦
              let clash : false ≡ true = sym (ap not (test_above (r.refcount + n) (2 ^ 62) less)) ∙ fails in
              absurd (cc clash)
          | inr end ↦ end
        ]

    by_row : (found : Option Block) → find (λ (r : Block). not (can_rise n r)) t.blocks ≡ found → (r : Block) × (block_at t r.id ≡ Some r) × (2 ^ 62 ≤ r.refcount + n)
    by_row None none =
        absurd (room_not_worn digest_of t objects file block_size new changed batch valid puts n few bound low small
        (list_all_weaker (λ (r : Block). not (not (can_rise n r))) (can_rise n) (λ r is. unchecked (can_rise n r) is) t.blocks
        (list_all_from_find (λ (r : Block). not (can_rise n r)) t.blocks none)) are)
    by_row (Some r) found =
        let cannot : Block → Bool = λ x. not (can_rise n x) in
        (r, row_at_from_find by_block nat_cmp_total cannot t.blocks r valid.ordered.blocks found, above r (find_passes cannot t.blocks r found))
