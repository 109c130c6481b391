-- Each block that places name has room for as many uses as there are places, so that all are counted.
use Rattle.std.proofs.Common.{◌≡◌, ℕ, suc, ◌+◌, ◌<◌, ◌≤◌, ◌^◌, ◌⊎◌, inl, inr, List, [], ◌∷◌, ◌++◌, length, Bool, true, false, cond, Option, None, Some, refl, sym, ap, ◌∙◌, subst, arith}
use Rattle.std.specs.Prelude.{IsTrue, is_some, nat_lt, option_and_then, option_map}
use Rattle.std.specs.List.{list_all}
use Rattle.std.specs.Option.{option_or}
use Rattle.std.specs.Ordering.{is_eq}
use Rattle.std.proofs.lemmas.Bool.Decides.{nat_tests}
use Rattle.std.proofs.lemmas.Cmp.{nat_cmp_total}
use Rattle.s3_rows.specs.declared.change.Change.{Change}
use Rattle.s3_rows.specs.declared.change.Change.TheVariants as changes
use Rattle.s3_rows.specs.declared.digest.Digest.{Digest}
use Rattle.s3_rows.specs.Rows.{Block, Parameters}
use Rattle.s3_rows.specs.Keyed.{has_key, put, rises, row_at}
use Rattle.s3_rows.specs.Tables.{Tables, by_block}
use Rattle.s3_rows.specs.Batches.{tables_after}
use Rattle.s3_rows.specs.Selections.{block_at, block_of_digest, bytes_cmp}
use Rattle.row_lemmas.proofs.Tests.{list_all_weaker}
use Rattle.row_lemmas.proofs.Keyed.Put.{list_all-put, row_at-put, row_at-put_same}
use Rattle.row_lemmas.proofs.Keyed.RowAt.{row_at_from_find, row_at_passes}
use Rattle.ref_counts.specs.Links.{counted_block}
use Rattle.block_steps.specs.Places.{block_made}
use Rattle.file_ops.specs.declared.new_block.NewBlock.{NewBlock}
use Rattle.file_ops.specs.declared.place.Place.{Place}
use Rattle.file_ops.specs.declared.place.Place.TheVariants as places
use Rattle.file_ops.specs.Placed.{place_counted, places_counted, with_next_block}
use Rattle.file_ops.specs.Resolved.{digest_for, known_or_new, new_row, new_with, next_after, place_for, resolved}

-- ---- words

-- the block has a row
abbrev pub HasRow : Tables → ℕ → Type 0
HasRow u id = IsTrue (is_some (block_at u id))

-- the count of a block may rise so often
abbrev pub can_rise : ℕ → Block → Bool
can_rise left r = nat_lt (r.refcount + left) (2 ^ 62)

-- Of t the blocks are those before, and some places are counted: each count may rise for all that are left, and each block that a
-- place may name has its row.
pub record HasRoom (t : Tables) (before : List Place) (left : ℕ) (u : Tables) : Type 0 where
  pub counts : IsTrue (list_all (can_rise left) u.blocks)
  pub old : (id : ℕ) → HasRow t id → HasRow u id
  pub seen : (d : Digest) (r : Block) → new_with d before ≡ Some r → HasRow u r.id

-- one place is counted, and there is room for the others
record HasCounted (t : Tables) (q : Parameters) (x : Place) (before : List Place) (left : ℕ) (u : Tables) : Type 0 where
  one : List Change
  counted : place_counted q x u ≡ Some one
  room : HasRoom t (before ++ x ∷ []) left (tables_after one u)

-- ---- numbers

pub above_test : (a b : ℕ) → IsTrue (nat_lt a b) → a < b
above_test a b is = grind (arith, nat_tests)

pub test_above : (a b : ℕ) → a < b → IsTrue (nat_lt a b)
test_above a b less = grind (arith, nat_tests)

lower : (a n : ℕ) → IsTrue (nat_lt (a + suc n) (2 ^ 62)) → IsTrue (nat_lt (a + n) (2 ^ 62))
lower a n is = test_above (a + n) (2 ^ 62) (let less = above_test (a + suc n) (2 ^ 62) is in omega (arith, less))

-- ---- new_with

-- a new block that is found is one before, or the last
new_with-push : (d : Digest) (xs : List Place) (x : Place) (r : Block) → new_with d (xs ++ x ∷ []) ≡ Some r → (new_with d xs ≡ Some r) ⊎ (x ≡ places.New r)
new_with-push d [] places.Zeros r is = absurd (cc is)
new_with-push d [] (places.Known y) r is = absurd (cc is)
new_with-push d [] (places.New y) r is = by_case (is_eq (bytes_cmp y.digest.0 d.0)) is
  where
    by_case : (b : Bool) → cond b (Some y) None ≡ Some r → (None ≡ Some r) ⊎ (places.New y ≡ places.New r)
    by_case true found = let same : y ≡ r = cc found in inr (ap places.New same)
    by_case false found = absurd (cc found)
new_with-push d (places.Zeros ∷ xs) x r is = new_with-push d xs x r is
new_with-push d (places.Known y ∷ xs) x r is = new_with-push d xs x r is
new_with-push d (places.New y ∷ xs) x r is = by_case (is_eq (bytes_cmp y.digest.0 d.0)) is (new_with-push d xs x r)
  where
    by_case : (b : Bool) → cond b (Some y) (new_with d (xs ++ x ∷ [])) ≡ Some r
        → (new_with d (xs ++ x ∷ []) ≡ Some r → (new_with d xs ≡ Some r) ⊎ (x ≡ places.New r))
        → (cond b (Some y) (new_with d xs) ≡ Some r) ⊎ (x ≡ places.New r)
    by_case true found others = inl found
    by_case false found others = others found

-- ---- rows

-- a row that is put leaves all others there
HasRow-put : (r : Block) (u v : Tables) → v.blocks ≡ put by_block r u.blocks → (id : ℕ) → HasRow u id → HasRow v id
HasRow-put r u v puts id there =
    ap (λ (rows : List Block). is_some (row_at by_block id rows)) puts ∙ ap is_some (row_at-put by_block nat_cmp_total id r u.blocks)
    ∙ by_case (has_key by_block id r)
  where
    by_case : (b : Bool) → is_some (cond b (Some r) (block_at u id)) ≡ true
    by_case true = refl
    by_case false = there

-- and is there itself
HasRow-put_same : (r : Block) (u v : Tables) → v.blocks ≡ put by_block r u.blocks → HasRow v r.id
HasRow-put_same r u v puts = ap (λ (rows : List Block). is_some (row_at by_block r.id rows)) puts ∙ ap is_some (row_at-put_same by_block nat_cmp_total r u.blocks)

-- ---- room

module _ (t : Tables) (before : List Place) (left : ℕ) (u : Tables) (room : HasRoom t before (suc left) u) where
  counts_left : IsTrue (list_all (can_rise left) u.blocks)
  counts_left = list_all_weaker (can_rise (suc left)) (can_rise left) (λ (r : Block) is. lower r.refcount left is) u.blocks room.counts

  -- a place that puts no row
  room_same : (x : Place) → ((r : Block) → x ≡ places.New r → ⊥) → HasRoom t (before ++ x ∷ []) left u
  room_same x old = record {
    counts = counts_left;
    old = room.old;
    seen = λ d r found. elim (new_with-push d before x r found) [ inl is ↦ room.seen d r is | inr is ↦ absurd (old r is) ];
  }

  -- a place that puts a row
  room_put : (x : Place) (row : Block) (v : Tables) → v.blocks ≡ put by_block row u.blocks → row.refcount + left < 2 ^ 62
      → ((r : Block) → x ≡ places.New r → r.id ≡ row.id) → HasRoom t (before ++ x ∷ []) left v
  room_put x row v puts low own = record {
    counts =
        subst (λ (rows : List Block). IsTrue (list_all (can_rise left) rows)) (sym puts)
        (list_all-put by_block (can_rise left) row u.blocks (test_above (row.refcount + left) (2 ^ 62) low) counts_left);
    old = λ id there. HasRow-put row u v puts id (room.old id there);
    seen =
        λ d r found.
        elim (new_with-push d before x r found) [
          | inl is ↦ HasRow-put row u v puts r.id (room.seen d r is)
          | inr is ↦ subst (λ (id : ℕ). HasRow v id) (sym (own r is)) (HasRow-put_same row u v puts)
        ];
  }

  -- ---- one place

  module _ (q : Parameters) where
    counted_zeros : HasCounted t q places.Zeros before left u
    counted_zeros = record { one = []; counted = refl; room = room_same places.Zeros (λ r is. cc is) }

    counted_new : (r : Block) → left < 2 ^ 61 → HasCounted t q (places.New r) before left u
    counted_new r few =
        let row : Block = record { id = r.id; digest = r.digest; refcount = 1; size = r.size; object = r.object } in
        record {
          one = block_made (with_next_block r.id q) r.object r.digest r.size;
          counted = refl;
          room =
              room_put (places.New r) row (tables_after (block_made (with_next_block r.id q) r.object r.digest r.size) u) refl (omega (arith, few))
              (λ y is. let same : r ≡ y = cc is in ap (λ (b : Block). b.id) (sym same));
        }

    counted_known : (r : Block) → HasRow u r.id → HasCounted t q (places.Known r) before left u
    counted_known r there = by_row (block_at u r.id) refl there
      where
        by_count : (b : Block) → block_at u r.id ≡ Some b → b.refcount + suc left < 2 ^ 62 → (k : Bool) → nat_lt (b.refcount + 1) (2 ^ 62) ≡ k → HasCounted t q (places.Known r) before left u
        by_count b at low true is =
            let row : Block = record b { refcount = b.refcount + 1 } in
            record {
              one = changes.PutBlock row ∷ [];
              counted = ap counted_block at ∙ ap (λ (k : Bool). cond k (Some (changes.PutBlock row ∷ [])) None) is;
              room = room_put (places.Known r) row (tables_after (changes.PutBlock row ∷ []) u) refl (omega (arith, low)) (λ y same. absurd (cc same));
            }
        by_count b at low false is =
            let less : b.refcount + 1 < 2 ^ 62 = omega (arith, low) in
            let clash : true ≡ false = sym (test_above (b.refcount + 1) (2 ^ 62) less) ∙ is in
            absurd (cc clash)

        by_row : (found : Option Block) → block_at u r.id ≡ found → IsTrue (is_some found) → HasCounted t q (places.Known r) before left u
        by_row None at is = let clash : false ≡ true = is in absurd (cc clash)
        by_row (Some b) at is =
            by_count b at (above_test (b.refcount + suc left) (2 ^ 62) (row_at_passes by_block (can_rise (suc left)) r.id u.blocks b room.counts at))
            (nat_lt (b.refcount + 1) (2 ^ 62)) refl

    -- where the bytes of a block are found, in rows that rise
    counted_place : (digest_of : List ℕ → List ℕ) (block object : ℕ) (bytes : List ℕ) → IsTrue (rises by_block t.blocks) → left < 2 ^ 61
        → HasCounted t q (place_for digest_of t before block object bytes) before left u
    counted_place digest_of block object [] rising few = counted_zeros
    counted_place digest_of block object (b ∷ bytes) rising few =
        by_row (block_of_digest t d) refl (new_with d before) refl
      where
        d : Digest
        d = digest_for digest_of (b ∷ bytes)

        by_row : (a : Option Block) → block_of_digest t (digest_for digest_of (b ∷ bytes)) ≡ a → (e : Option Block) → new_with (digest_for digest_of (b ∷ bytes)) before ≡ e
            → HasCounted t q (known_or_new (option_or a e) (new_row digest_of block object (b ∷ bytes))) before left u
        by_row (Some r) found e made =
            let at : block_at t r.id ≡ Some r = row_at_from_find by_block nat_cmp_total (λ (x : Block). is_eq (bytes_cmp x.digest.0 (digest_of (b ∷ bytes)))) t.blocks r rising found in
            counted_known r (room.old r.id (ap is_some at))
        by_row None found (Some r) made = counted_known r (room.seen (digest_for digest_of (b ∷ bytes)) r made)
        by_row None found None made = counted_new (new_row digest_of block object (b ∷ bytes)) few

-- ---- all places

-- what is added for places is none only where it is for the first, or then for the others
others_none : (q : Parameters) (x : Place) (xs : List Place) (u : Tables) (one : List Change) → place_counted q x u ≡ Some one
    → places_counted q (x ∷ xs) u ≡ None → places_counted q xs (tables_after one u) ≡ None
others_none q x xs u one first is =
    by_rest (places_counted q xs (tables_after one u))
    (sym (ap (λ (o : Option (List Change)). option_and_then (λ (cs : List Change). option_map (λ (ds : List Change). cs ++ ds) (places_counted q xs (tables_after cs u))) o) first) ∙ is)
  where
    by_rest : (rest : Option (List Change)) → option_map (λ (ds : List Change). one ++ ds) rest ≡ None → rest ≡ None
    by_rest None none = refl
    by_rest (Some ds) none = absurd (cc none)

module _ (digest_of : List ℕ → List ℕ) (t : Tables) (q : Parameters) (rising : IsTrue (rises by_block t.blocks)) where
  pub all_counted : (blocks : List NewBlock) (before : List Place) (block object : ℕ) (u : Tables) → length blocks ≤ 2 ^ 60 → HasRoom t before (length blocks) u
      → places_counted q (resolved digest_of t before block object blocks) u ≡ None → ⊥
  all_counted [] before block object u few room none = cc none
  all_counted (b ∷ bs) before block object u few room none =
      let long : suc (length bs) ≤ 2 ^ 60 = few in
      let x = place_for digest_of t before block object b.stored in
      let rest = resolved digest_of t (before ++ x ∷ []) (next_after x block) (next_after x object) bs in
      let c = counted_place t before (length bs) u room q digest_of block object b.stored rising (omega (arith, long)) in
      all_counted bs (before ++ x ∷ []) (next_after x block) (next_after x object) (tables_after c.one u) (omega (arith, long)) c.room
      (others_none q x rest u c.one c.counted none)
