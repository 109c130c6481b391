-- Blocks that are counted one after the other, from valid tables on.
use Rattle.std.proofs.Common.{◌≡◌, ℕ, zero, suc, ◌+◌, ◌≤◌, ◌<◌, List, [], ◌∷◌, ◌++◌, length, Bool, true, false, cond, Option, None, Some, refl, sym, ap, ◌∙◌, subst, count_by, arith, eqb-true}
use Rattle.std.specs.Prelude.{IsTrue, ◌==◌, nat_le, option_and_then, option_map}
use Rattle.std.specs.List.{list_all}
use Rattle.std.specs.Option.{option_or}
use Rattle.std.specs.Ordering.{is_eq}
use Rattle.std.proofs.lemmas.Bool.{and_parts}
use Rattle.std.proofs.lemmas.Bool.Decides.{nat_tests}
use Rattle.std.proofs.lemmas.Cmp.{nat_cmp_total}
use Rattle.std.proofs.lemmas.List.{append-nil, append_assoc}
use Rattle.std.proofs.lemmas.List.Sums.{sum_by-cons}
use Rattle.s3_rows.specs.declared.change.Change.{Change}
use Rattle.s3_rows.specs.declared.digest.Digest.{Digest}
use Rattle.s3_rows.specs.Rows.{Block, Parameters}
use Rattle.s3_rows.specs.Keyed.{rises}
use Rattle.s3_rows.specs.Tables.{Tables, by_block, by_object}
use Rattle.s3_rows.specs.Batches.{tables_after}
use Rattle.s3_rows.specs.Selections.{block_of_digest, bytes_cmp, object_at}
use Rattle.row_lemmas.proofs.Tables.{tables_after-tables_after}
use Rattle.row_lemmas.proofs.Tests.{is_eq-nat_cmp}
use Rattle.row_lemmas.proofs.Keyed.Put.{row_at-put}
use Rattle.row_lemmas.proofs.Keyed.RowAt.{row_at_from_find}
use Rattle.core_model.specs.Safe.{new_object, with_new_object, with_new_objects}
use Rattle.block_steps.specs.Owed.{times}
use Rattle.block_steps.specs.Places.{block_made, blocks_named}
use Rattle.file_ops.specs.declared.new_block.NewBlock.{NewBlock}
use Rattle.file_ops.specs.declared.place.Place.{Place}
use Rattle.file_ops.specs.declared.place.Place.TheVariants as places
use Rattle.file_ops.specs.Placed.{links_of, place_counted, places_counted, with_next_block}
use Rattle.file_ops.specs.Resolved.{digest_for, is_new, known_or_new, new_row, new_with, next_after, place_for, resolved}
use Rattle.file_ops.proofs.CountedPlaces.{AreCounting, CountLaws, HaveForms-new_with, counting_known, counting_new, counting_zeros}
use Rattle.file_ops.proofs.Drawn.{params-with_new_objects, with_new_objects-suc}

-- ---- with_new_objects

one_leaves_blocks : (p : Option Parameters) (t : Tables) → (with_new_object p t).blocks ≡ t.blocks
one_leaves_blocks None t = refl
one_leaves_blocks (Some p) t = refl

pub blocks-with_new_objects : (count : ℕ) (t : Tables) → (with_new_objects count t).blocks ≡ t.blocks
blocks-with_new_objects zero t = refl
blocks-with_new_objects (suc count) t = blocks-with_new_objects count (with_new_object t.params t) ∙ one_leaves_blocks t.params t

below_last : (o n count : ℕ) → o < n + suc count → (o == n + count) ≡ false → o < n + count
below_last o n count high is = grind (arith, nat_tests)

-- the objects that are drawn are there
pub drawn_there : (count : ℕ) (t : Tables) (p : Parameters) (o : ℕ) → t.params ≡ Some p → p.next_object ≤ o → o < p.next_object + count
    → object_at (with_new_objects count t) o ≡ Some (new_object o)
drawn_there zero t p o made low high = absurd (omega arith)
drawn_there (suc count) t p o made low high = step (drawn_there count t p o made low)
  where
    by_last : (o < p.next_object + count → object_at (with_new_objects count t) o ≡ Some (new_object o)) → (b : Bool) → (o == p.next_object + count) ≡ b
        → cond b (Some (new_object (p.next_object + count))) (object_at (with_new_objects count t) o) ≡ Some (new_object o)
    by_last others true is = ap (λ (x : ℕ). Some (new_object x)) (sym (eqb-true o (p.next_object + count) is))
    by_last others false is = others (below_last o p.next_object count high is)

    step : (o < p.next_object + count → object_at (with_new_objects count t) o ≡ Some (new_object o)) → object_at (with_new_objects (suc count) t) o ≡ Some (new_object o)
    step others =
        let u = with_new_objects count t in
        let n = p.next_object + count in
        let whole : object_at (with_new_objects (suc count) t) o ≡ object_at (with_new_object (Some (record p { next_object = n })) u) o =
        ap (λ (v : Tables). object_at v o) (with_new_objects-suc count t) ∙ ap (λ (x : Option Parameters). object_at (with_new_object x u) o) (params-with_new_objects count t p made) in
        whole ∙ row_at-put by_object nat_cmp_total o (new_object n) u.objects ∙ ap (λ (b : Bool). cond b (Some (new_object n)) (object_at u o)) (is_eq-nat_cmp o n)
        ∙ by_last others (o == n) refl

-- ---- what is owed

-- the blocks that places name, the last one first
abbrev pub ids_onto : List Place → List ℕ → List ℕ
ids_onto [] ids = ids
ids_onto (places.Zeros ∷ xs) ids = ids_onto xs ids
ids_onto (places.Known r ∷ xs) ids = ids_onto xs (r.id ∷ ids)
ids_onto (places.New r ∷ xs) ids = ids_onto xs (r.id ∷ ids)

times-cons : (id x : ℕ) (ids : List ℕ) → times id (x ∷ ids) ≡ cond (x == id) 1 0 + times id ids
times-cons id x ids = sum_by-cons (λ (y : ℕ). cond (y == id) 1 0) x ids

moved : (a b c whole : ℕ) (first second : ℕ) → first ≡ a + b → second ≡ a + c → b + second ≡ whole → first + c ≡ whole
moved a b c whole first second is also same = omega (arith, is, also, same)

pub times-ids_onto : (id : ℕ) (blocks : List NewBlock) (xs : List Place) (ids : List ℕ) → length xs ≡ length blocks
    → times id (blocks_named (links_of blocks xs)) + times id ids ≡ times id (ids_onto xs ids)
times-ids_onto id [] [] ids same = omega arith
times-ids_onto id [] (x ∷ xs) ids same = absurd (cc same)
times-ids_onto id (b ∷ bs) [] ids same = absurd (cc same)
times-ids_onto id (b ∷ bs) (places.Zeros ∷ xs) ids same = times-ids_onto id bs xs ids (cc same)
times-ids_onto id (b ∷ bs) (places.Known r ∷ xs) ids same =
    moved (cond (r.id == id) 1 0) (times id (blocks_named (links_of bs xs))) (times id ids) _ _ _
    (times-cons id r.id (blocks_named (links_of bs xs))) (times-cons id r.id ids) (times-ids_onto id bs xs (r.id ∷ ids) (cc same))
times-ids_onto id (b ∷ bs) (places.New r ∷ xs) ids same =
    moved (cond (r.id == id) 1 0) (times id (blocks_named (links_of bs xs))) (times id ids) _ _ _
    (times-cons id r.id (blocks_named (links_of bs xs))) (times-cons id r.id ids) (times-ids_onto id bs xs (r.id ∷ ids) (cc same))

-- ---- places_counted

-- what is added for places is what is added for the first, and then for the others
pub record IsSplit (p : Parameters) (x : Place) (xs : List Place) (u : Tables) (more : List Change) : Type 0 where
  pub one : List Change
  pub rest : List Change
  pub first : place_counted p x u ≡ Some one
  pub others : places_counted p xs (tables_after one u) ≡ Some rest
  pub whole : more ≡ one ++ rest

pub counted_split : (p : Parameters) (x : Place) (xs : List Place) (u : Tables) (more : List Change) → places_counted p (x ∷ xs) u ≡ Some more → IsSplit p x xs u more
counted_split p x xs u more is = by_first (place_counted p x u) refl is
  where
    by_rest : (one : List Change) → place_counted p x u ≡ Some one → (rest : Option (List Change)) → places_counted p xs (tables_after one u) ≡ rest
        → option_map (λ (cs : List Change). one ++ cs) rest ≡ Some more → IsSplit p x xs u more
    by_rest one first None others whole = absurd (cc whole)
    by_rest one first (Some rest) others whole =
        let same : one ++ rest ≡ more = cc whole in
        record { one = one; rest = rest; first = first; others = others; whole = sym same }

    by_first : (one : Option (List Change)) → place_counted p x u ≡ one
        → option_and_then (λ (cs : List Change). option_map (λ (ds : List Change). cs ++ ds) (places_counted p xs (tables_after cs u))) one ≡ Some more → IsSplit p x xs u more
    by_first None first whole = absurd (cc whole)
    by_first (Some one) first whole = by_rest one first (places_counted p xs (tables_after one u)) refl whole

-- ---- numbers

below_size : (b : NewBlock) (p : Parameters) → IsTrue (nat_le (length b.stored) p.block_size) → length b.stored ≤ p.block_size
below_size b p is = grind (arith, nat_tests)

ids_onto_onto : (x : Place) (rest : List Place) (ids : List ℕ) → ids_onto rest (ids_onto (x ∷ []) ids) ≡ ids_onto (x ∷ rest) ids
ids_onto_onto places.Zeros rest ids = refl
ids_onto_onto (places.Known r) rest ids = refl
ids_onto_onto (places.New r) rest ids = refl

room_for : (x : Place) (object last left all : ℕ) → all ≡ cond (is_new x) 1 0 + left → is_new x ≡ true → object + all ≤ last → object < last
room_for places.Zeros object last left all counts new room = absurd (cc new)
room_for (places.Known r) object last left all counts new room = absurd (cc new)
room_for (places.New r) object last left all counts new room = omega (arith, counts, room)

room_left : (x : Place) (object last left all : ℕ) → all ≡ cond (is_new x) 1 0 + left → object + all ≤ last → next_after x object + left ≤ last
room_left places.Zeros object last left all counts room = omega (arith, counts, room)
room_left (places.Known r) object last left all counts room = omega (arith, counts, room)
room_left (places.New r) object last left all counts room = omega (arith, counts, room)

-- ---- all places

module _ (laws : CountLaws) (digest_of : List ℕ → List ℕ) (t u0 : Tables) (p : Parameters) (last : ℕ) (rising : IsTrue (rises by_block t.blocks)) where
  -- one place
  counting_one : (bytes : List ℕ) (before : List Place) (block object : ℕ) (u : Tables) (ids : List ℕ) (one : List Change) → AreCounting t u0 p last before block object u ids
      → length bytes ≤ p.block_size → (is_new (place_for digest_of t before block object bytes) ≡ true → object < last)
      → place_counted p (place_for digest_of t before block object bytes) u ≡ Some one
      → AreCounting t u0 p last (before ++ place_for digest_of t before block object bytes ∷ []) (next_after (place_for digest_of t before block object bytes) block)
      (next_after (place_for digest_of t before block object bytes) object) (tables_after one u) (ids_onto (place_for digest_of t before block object bytes ∷ []) ids)
  counting_one [] before block object u ids one c within room is =
      let none : [] ≡ one = cc is in
      subst (λ (cs : List Change). AreCounting t u0 p last (before ++ places.Zeros ∷ []) block object (tables_after cs u) ids) none
      (counting_zeros laws t u0 p last before block object u ids c)
  counting_one (b ∷ bytes) before block object u ids one c within room is =
      by_row (block_of_digest t d) refl (new_with d before) refl room is
    where
      d : Digest
      d = digest_for digest_of (b ∷ bytes)

      own : Block
      own = new_row digest_of block object (b ∷ bytes)

      by_row : (a : Option Block) → block_of_digest t (digest_for digest_of (b ∷ bytes)) ≡ a → (e : Option Block) → new_with (digest_for digest_of (b ∷ bytes)) before ≡ e
          → (is_new (known_or_new (option_or a e) (new_row digest_of block object (b ∷ bytes))) ≡ true → object < last)
          → place_counted p (known_or_new (option_or a e) (new_row digest_of block object (b ∷ bytes))) u ≡ Some one
          → AreCounting t u0 p last (before ++ known_or_new (option_or a e) (new_row digest_of block object (b ∷ bytes)) ∷ [])
          (next_after (known_or_new (option_or a e) (new_row digest_of block object (b ∷ bytes))) block)
          (next_after (known_or_new (option_or a e) (new_row digest_of block object (b ∷ bytes))) object) (tables_after one u)
          (ids_onto (known_or_new (option_or a e) (new_row digest_of block object (b ∷ bytes)) ∷ []) ids)
      by_row (Some r) found e made room is =
          counting_known laws t u0 p last before block object u ids c r one
          (c.old r (row_at_from_find by_block nat_cmp_total (λ (x : Block). is_eq (bytes_cmp x.digest.0 (digest_of (b ∷ bytes)))) t.blocks r rising found)) is
      by_row None found (Some r) made room is =
          counting_known laws t u0 p last before block object u ids c r one
          (HaveForms-new_with u before (digest_for digest_of (b ∷ bytes)) r c.counted made) is
      by_row None found None made room is =
          let same : block_made (with_next_block block p) object (digest_for digest_of (b ∷ bytes)) (length (b ∷ bytes)) ≡ one = cc is in
          subst
          (λ (cs : List Change).
          AreCounting t u0 p last (before ++ places.New (new_row digest_of block object (b ∷ bytes)) ∷ []) (block + 1) (object + 1) (tables_after cs u) (block ∷ ids))
          same
          (counting_new laws t u0 p last before block object u ids c (digest_for digest_of (b ∷ bytes)) (length (b ∷ bytes)) found made within (room refl))

  -- and all of them
  pub counting_all : (blocks : List NewBlock) (before : List Place) (block object : ℕ) (u : Tables) (ids : List ℕ) (more : List Change) → AreCounting t u0 p last before block object u ids
      → IsTrue (list_all (λ b. nat_le (length b.stored) p.block_size) blocks) → object + count_by is_new (resolved digest_of t before block object blocks) ≤ last
      → places_counted p (resolved digest_of t before block object blocks) u ≡ Some more
      → (n : ℕ) × (m : ℕ) × AreCounting t u0 p last (before ++ resolved digest_of t before block object blocks) n m (tables_after more u)
      (ids_onto (resolved digest_of t before block object blocks) ids)
  counting_all [] before block object u ids more c sizes room is =
      let none : [] ≡ more = cc is in (
        block,
        object,
        subst (λ (l : List Place). AreCounting t u0 p last l block object (tables_after more u) ids) (sym (append-nil before))
            (subst (λ (cs : List Change). AreCounting t u0 p last before block object (tables_after cs u) ids) none c),
      )
  counting_all (b ∷ bs) before block object u ids more c sizes room is =
      let x = place_for digest_of t before block object b.stored in
      let rest = resolved digest_of t (before ++ x ∷ []) (next_after x block) (next_after x object) bs in
      let s = counted_split p x rest u more is in
      let parts = and_parts (nat_le (length b.stored) p.block_size) (list_all (λ (y : NewBlock). nat_le (length y.stored) p.block_size) bs) sizes in
      let counts : count_by is_new (x ∷ rest) ≡ cond (is_new x) 1 0 + count_by is_new rest = sum_by-cons (λ (y : Place). cond (is_new y) 1 0) x rest in
      let c1 = counting_one b.stored before block object u ids s.one c (below_size b p parts.0) (λ new. room_for x object last (count_by is_new rest) (count_by is_new (x ∷ rest)) counts new room) s.first in
      let all = counting_all bs (before ++ x ∷ []) (next_after x block) (next_after x object) (tables_after s.one u) (ids_onto (x ∷ []) ids) s.rest c1 parts.1
      (room_left x object last (count_by is_new rest) (count_by is_new (x ∷ rest)) counts room) s.others in (
        all.0,
        all.1,
        subst (λ (v : Tables). AreCounting t u0 p last (before ++ (x ∷ rest)) all.0 all.1 v (ids_onto (x ∷ rest) ids))
            (tables_after-tables_after s.one s.rest u ∙ ap (λ (cs : List Change). tables_after cs u) (sym s.whole))
            (subst (λ (l : List Place). AreCounting t u0 p last l all.0 all.1 (tables_after s.rest (tables_after s.one u)) (ids_onto (x ∷ rest) ids)) (append_assoc before (x ∷ []) rest)
            (subst (λ (is : List ℕ). AreCounting t u0 p last ((before ++ x ∷ []) ++ rest) all.0 all.1 (tables_after s.rest (tables_after s.one u)) is) (ids_onto_onto x rest ids) all.2)),
      )
