-- What the store holds of placed blocks.
use Rattle.std.proofs.Common.{◌≡◌, ℕ, suc, ◌+◌, ◌≤◌, ◌<◌, List, [], ◌∷◌, ◌++◌, Bool, true, false, cond, Option, None, Some, refl, ap, ◌∙◌, count_by, arith, eqb-true, eq-eqb}
use Rattle.std.specs.Prelude.{IsTrue, ◌||◌}
use Rattle.std.specs.List.{list_all, list_any}
use Rattle.std.proofs.lemmas.Bool.{and_parts}
use Rattle.std.proofs.lemmas.List.Sums.{sum_by-cons}
use Rattle.s3_rows.specs.Rows.{Block}
use Rattle.s3_rows.specs.Tables.{Tables}
use Rattle.tree_rows.specs.Contents.{Contents}
use Rattle.core_model.specs.Safe.{Held}
use Rattle.core_model.specs.Occurring.{Knows, is_stored}
use Rattle.file_ops.specs.declared.new_block.NewBlock.{NewBlock}
use Rattle.file_ops.specs.declared.place.Place.{Place}
use Rattle.file_ops.specs.declared.place.Place.TheVariants as places
use Rattle.file_ops.specs.Placed.{KnowsBlocks, held_after, held_after_all, is_object_of}
use Rattle.file_ops.specs.Resolved.{digest_for, is_new, known_or_new, known_row, new_row, next_after, place_for, resolved}
use Rattle.file_ops.proofs.KeptBlocks.{AreNewOk}
use Rattle.file_ops.proofs.PutObjects.{held_after_all-old}

-- ---- lists

-- of rows that all pass one test, one that passes another
pub any_all : {R : Type 0} (p q : R → Bool) (rows : List R) → list_any q rows ≡ true → IsTrue (list_all p rows) → (r : R) × (q r ≡ true) × IsTrue (p r)
any_all p q [] some all = absurd (cc some)
any_all p q (r ∷ rs) some all = by_case (q r) refl some (any_all p q rs) (and_parts (p r) (list_all p rs) all)
  where
    by_case : (b : Bool) → q r ≡ b → (b || list_any q rs) ≡ true → (list_any q rs ≡ true → IsTrue (list_all p rs) → (x : _) × (q x ≡ true) × IsTrue (p x)) → IsTrue (p r) × IsTrue (list_all p rs)
        → (x : _) × (q x ≡ true) × IsTrue (p x)
    by_case true is now others parts = (r, is, parts.0)
    by_case false is now others parts = others now parts.1

-- each of these blocks is so
abbrev pub AllSo : (NewBlock → Type 0) → List NewBlock → Type 0
AllSo P [] = Unit {0}
AllSo P (b ∷ bs) = P b × AllSo P bs

pub AllSo-any : (blocks : List NewBlock) → AllSo (λ b. Unit {0}) blocks
AllSo-any [] = tt
AllSo-any (b ∷ bs) = (tt, AllSo-any bs)

pub AllSo-known : (digest_of : List ℕ → List ℕ) (m : Contents) (blocks : List NewBlock) → KnowsBlocks digest_of m blocks → AllSo (λ b. is_stored b.stored ≡ true → Knows digest_of m b.stored) blocks
AllSo-known digest_of m [] knows = tt
AllSo-known digest_of m (b ∷ bs) knows = (knows.0, AllSo-known digest_of m bs knows.1)

-- ---- numbers of new objects

next_sum : (x : Place) (object left all : ℕ) → all ≡ cond (is_new x) 1 0 + left → next_after x object + left ≡ object + all
next_sum places.Zeros object left all counts = omega (arith, counts)
next_sum (places.Known r) object left all counts = omega (arith, counts)
next_sum (places.New r) object left all counts = omega (arith, counts)

next_up : (x : Place) (object : ℕ) → object ≤ next_after x object
next_up places.Zeros object = omega arith
next_up (places.Known r) object = omega arith
next_up (places.New r) object = omega arith

module _ (digest_of : List ℕ → List ℕ) (t : Tables) where
  -- the object of a new block has the next number
  place_object : (bytes : List ℕ) (before : List Place) (block object o : ℕ) → is_object_of o (place_for digest_of t before block object bytes) ≡ true
      → (o ≡ object) × (is_new (place_for digest_of t before block object bytes) ≡ true)
  place_object [] before block object o is = absurd (cc is)
  place_object (b ∷ bytes) before block object o is = by_row (known_row t before (digest_for digest_of (b ∷ bytes))) is
    where
      by_row : (row : Option Block) → is_object_of o (known_or_new row (new_row digest_of block object (b ∷ bytes))) ≡ true
          → (o ≡ object) × (is_new (known_or_new row (new_row digest_of block object (b ∷ bytes))) ≡ true)
      by_row None same = (eqb-true o object same, refl)
      by_row (Some r) same = absurd (cc same)

  -- and holds the bytes after they are put
  held_new : (bytes : List ℕ) (before : List Place) (block object : ℕ) (held : Option (List ℕ)) → is_new (place_for digest_of t before block object bytes) ≡ true
      → held_after object bytes (place_for digest_of t before block object bytes) held ≡ Some bytes
  held_new [] before block object held new = absurd (cc new)
  held_new (b ∷ bytes) before block object held new = by_row (known_row t before (digest_for digest_of (b ∷ bytes))) new
    where
      by_row : (row : Option Block) → is_new (known_or_new row (new_row digest_of block object (b ∷ bytes))) ≡ true
          → held_after object (b ∷ bytes) (known_or_new row (new_row digest_of block object (b ∷ bytes))) held ≡ Some (b ∷ bytes)
      by_row None same = ap (λ (k : Bool). cond k (Some (b ∷ bytes)) held) (eq-eqb object object refl)
      by_row (Some r) same = absurd (cc same)

  -- the numbers lie among those that are drawn
  pub new_in_range : (blocks : List NewBlock) (before : List Place) (block object o : ℕ) → list_any (is_object_of o) (resolved digest_of t before block object blocks) ≡ true
      → (object ≤ o) × (o < object + count_by is_new (resolved digest_of t before block object blocks))
  new_in_range [] before block object o is = absurd (cc is)
  new_in_range (b ∷ bs) before block object o is =
      by_case (is_object_of o (place_for digest_of t before block object b.stored)) refl is
      (new_in_range bs (before ++ place_for digest_of t before block object b.stored ∷ []) (next_after (place_for digest_of t before block object b.stored) block)
      (next_after (place_for digest_of t before block object b.stored) object) o)
      (sum_by-cons (λ (y : Place). cond (is_new y) 1 0) (place_for digest_of t before block object b.stored)
      (resolved digest_of t (before ++ place_for digest_of t before block object b.stored ∷ []) (next_after (place_for digest_of t before block object b.stored) block)
      (next_after (place_for digest_of t before block object b.stored) object) bs))
    where
      by_case : (k : Bool) → is_object_of o (place_for digest_of t before block object b.stored) ≡ k
          → (k || list_any (is_object_of o)
          (resolved digest_of t (before ++ place_for digest_of t before block object b.stored ∷ []) (next_after (place_for digest_of t before block object b.stored) block)
          (next_after (place_for digest_of t before block object b.stored) object) bs)) ≡ true
          → (list_any (is_object_of o)
          (resolved digest_of t (before ++ place_for digest_of t before block object b.stored ∷ []) (next_after (place_for digest_of t before block object b.stored) block)
          (next_after (place_for digest_of t before block object b.stored) object) bs) ≡ true
          → (next_after (place_for digest_of t before block object b.stored) object ≤ o)
          × (o < next_after (place_for digest_of t before block object b.stored) object
          + count_by is_new
          (resolved digest_of t (before ++ place_for digest_of t before block object b.stored ∷ []) (next_after (place_for digest_of t before block object b.stored) block)
          (next_after (place_for digest_of t before block object b.stored) object) bs)))
          → count_by is_new (resolved digest_of t before block object (b ∷ bs))
          ≡ cond (is_new (place_for digest_of t before block object b.stored)) 1 0
          + count_by is_new
          (resolved digest_of t (before ++ place_for digest_of t before block object b.stored ∷ []) (next_after (place_for digest_of t before block object b.stored) block)
          (next_after (place_for digest_of t before block object b.stored) object) bs)
          → (object ≤ o) × (o < object + count_by is_new (resolved digest_of t before block object (b ∷ bs)))
      by_case true own now others counts =
          let at = place_object b.stored before block object o own in
          let one : cond {A = ℕ} (is_new (place_for digest_of t before block object b.stored)) 1 0 ≡ suc 0 = ap (λ (n : Bool). cond {A = ℕ} n 1 0) at.1 in
          (omega (arith, at.0), omega (arith, at.0, one, counts))
      by_case false own now others counts =
          let later = others now in
          let x = place_for digest_of t before block object b.stored in
          let sum = next_sum x object _ _ counts in
          (omega (arith, later.0, next_up x object), omega (arith, later.1, sum))

  -- ---- new rows

  module _ (Ok : Block → Type 0) (P : NewBlock → Type 0) (held : Held)
      (give : (b : NewBlock) (block object : ℕ) → is_stored b.stored ≡ true → P b → held object ≡ Some b.stored → Ok (new_row digest_of block object b.stored)) where
    one_ok : (bytes : List ℕ) (before : List Place) (block object : ℕ) (xs : List Place)
        → (is_stored bytes ≡ true → is_new (place_for digest_of t before block object bytes) ≡ true → Ok (new_row digest_of block object bytes)) → AreNewOk Ok xs
        → AreNewOk Ok (place_for digest_of t before block object bytes ∷ xs)
    one_ok [] before block object xs own ok = ok
    one_ok (b ∷ bytes) before block object xs own ok = by_row (known_row t before (digest_for digest_of (b ∷ bytes))) (own refl)
      where
        by_row : (row : Option Block) → (is_new (known_or_new row (new_row digest_of block object (b ∷ bytes))) ≡ true → Ok (new_row digest_of block object (b ∷ bytes)))
            → AreNewOk Ok (known_or_new row (new_row digest_of block object (b ∷ bytes)) ∷ xs)
        by_row None good = (good refl, ok)
        by_row (Some r) good = ok

    -- what each new block and the bytes that its object holds give, holds of its row
    pub new_rows_ok : (blocks : List NewBlock) (before : List Place) (block object last : ℕ) (was : Held) → AllSo P blocks
        → object + count_by is_new (resolved digest_of t before block object blocks) ≤ last
        → ((o : ℕ) → o < last → held o ≡ held_after_all o blocks (resolved digest_of t before block object blocks) (was o))
        → AreNewOk Ok (resolved digest_of t before block object blocks)
    new_rows_ok [] before block object last was all room now = tt
    new_rows_ok (b ∷ bs) before block object last was all room now =
        let x = place_for digest_of t before block object b.stored in
        let rest = resolved digest_of t (before ++ x ∷ []) (next_after x block) (next_after x object) bs in
        let counts : count_by is_new (x ∷ rest) ≡ cond (is_new x) 1 0 + count_by is_new rest = sum_by-cons (λ (y : Place). cond (is_new y) 1 0) x rest in
        let sum = next_sum x object (count_by is_new rest) (count_by is_new (x ∷ rest)) counts in
        one_ok b.stored before block object rest
        (λ stored new.
        let one : cond {A = ℕ} (is_new x) 1 0 ≡ suc 0 = ap (λ (n : Bool). cond {A = ℕ} n 1 0) new in
        give b block object stored all.0
        (now object (omega (arith, room, counts, one))
        ∙ held_after_all-old object bs rest (held_after object b.stored x (was object)) (apart x rest new (new_in_range bs (before ++ x ∷ []) (next_after x block) (next_after x object) object))
        ∙ held_new b.stored before block object (was object) new))
        (new_rows_ok bs (before ++ x ∷ []) (next_after x block) (next_after x object) last (λ o. held_after o b.stored x (was o)) all.1 (omega (arith, sum, room)) now)
      where
        later : (x : Place) → is_new x ≡ true → next_after x object ≡ object + 1
        later places.Zeros new = absurd (cc new)
        later (places.Known r) new = absurd (cc new)
        later (places.New r) new = refl

        apart : (x : Place) (rest : List Place) → is_new x ≡ true
            → (list_any (is_object_of object) rest ≡ true → (next_after x object ≤ object) × (object < next_after x object + count_by is_new rest))
            → list_any (is_object_of object) rest ≡ false
        apart x rest new range = by_case (list_any (is_object_of object) rest) refl
          where
            by_case : (k : Bool) → list_any (is_object_of object) rest ≡ k → k ≡ false
            by_case true is = absurd (omega (arith, (range is).0, later x new))
            by_case false is = refl
