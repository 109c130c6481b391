-- The places of blocks, found one after the other.
use Rattle.std.proofs.Common.{◌≡◌, ℕ, ◌+◌, ◌<◌, ◌^◌, ◌⊎◌, inl, inr, List, [], ◌∷◌, ◌++◌, length, Bool, true, false, cond, Option, None, Some, refl, sym, ap, ◌∙◌, count_by, arith}
use Rattle.std.specs.Prelude.{◌==◌}
use Rattle.std.proofs.lemmas.List.{append_assoc}
use Rattle.std.proofs.lemmas.List.Sums.{sum_by-cons}
use Rattle.s3_rows.specs.declared.digest.Digest.{Digest}
use Rattle.s3_rows.specs.Rows.{Block, IsNext}
use Rattle.s3_rows.specs.Tables.{Tables}
use Rattle.file_ops.specs.declared.new_block.NewBlock.{NewBlock}
use Rattle.file_ops.specs.declared.place.Place.{Place}
use Rattle.file_ops.specs.declared.place.Place.TheVariants as places
use Rattle.file_ops.specs.Resolved.{IsWorn, digest_for, is_new, known_or_new, known_row, new_row, next_after, place_for, resolved}
use Rattle.file_ops.proofs.Left.{count_by-append}

-- ---- place_for

-- that of a block with bytes
pub place_for_bytes : (digest_of : List ℕ → List ℕ) (t : Tables) (before : List Place) (block object : ℕ) (bytes : List ℕ) → (length bytes == 0) ≡ false
    → place_for digest_of t before block object bytes ≡ known_or_new (known_row t before (digest_for digest_of bytes)) (new_row digest_of block object bytes)
place_for_bytes digest_of t before block object [] some = absurd (cc some)
place_for_bytes digest_of t before block object (b ∷ bytes) some = refl

module _ (digest_of : List ℕ → List ℕ) (t : Tables) (before : List Place) (block object : ℕ) (bytes : List ℕ) (some : (length bytes == 0) ≡ false) (digest : Digest)
    (is : digest.0 ≡ digest_of bytes) where
  named : digest ≡ digest_for digest_of bytes
  named = ap (λ (l : List ℕ). let d : Digest = record { 0 = l } in d) is

  found : (row : Option Block) → row ≡ known_row t before digest → place_for digest_of t before block object bytes ≡ known_or_new row (new_row digest_of block object bytes)
  found row here =
      place_for_bytes digest_of t before block object bytes some
      ∙ ap (λ (d : Digest). known_or_new (known_row t before d) (new_row digest_of block object bytes)) (sym named)
      ∙ ap (λ (r : Option Block). known_or_new r (new_row digest_of block object bytes)) (sym here)

  pub place_known : (row : Block) → Some row ≡ known_row t before digest → places.Known row ≡ place_for digest_of t before block object bytes
  place_known row here = sym (found (Some row) here)

  pub place_new : None ≡ known_row t before digest
      → places.New (record { id = block; digest = digest; refcount = 1; size = length bytes; object = object }) ≡ place_for digest_of t before block object bytes
  place_new here =
      ap (λ (d : Digest). places.New (record { id = block; digest = d; refcount = 1; size = length bytes; object = object })) named
      ∙ sym (found None here)

  pub place_is_new : None ≡ known_row t before digest → is_new (place_for digest_of t before block object bytes) ≡ true
  place_is_new here = ap is_new (found None here)

-- ---- next_after

-- a place more counts as the next number does
pub count_more : (xs : List Place) (x : Place) (first now : ℕ) → now ≡ first + count_by is_new xs → next_after x now ≡ first + count_by is_new (xs ++ x ∷ [])
count_more xs places.Zeros first now is = omega (arith, count_by-append is_new xs (places.Zeros ∷ []), is)
count_more xs (places.Known r) first now is = omega (arith, count_by-append is_new xs (places.Known r ∷ []), is)
count_more xs (places.New r) first now is = omega (arith, count_by-append is_new xs (places.New r ∷ []), is)

-- a new block at the end of the numbers is one too many
pub worn_from : (xs : List Place) (y : Place) (rest all : List Place) (block object first_block first_object : ℕ) → is_new y ≡ true
    → (block ≡ 2 ^ 62) ⊎ (object ≡ 2 ^ 62) → block ≡ first_block + count_by is_new xs → object ≡ first_object + count_by is_new xs
    → xs ++ (y ∷ rest) ≡ all → IsWorn first_block first_object (count_by is_new all)
worn_from xs y rest all block object first_block first_object new last blocks objects whole = by_end last total
  where
    total : count_by is_new all ≡ count_by is_new xs + (1 + count_by is_new rest)
    total =
        ap (count_by is_new) (sym whole)
        ∙ count_by-append is_new xs (y ∷ rest)
        ∙ ap (λ (n : ℕ). count_by is_new xs + n) (sum_by-cons (λ (x : Place). cond (is_new x) 1 0) y rest)
        ∙ ap (λ (k : Bool). count_by is_new xs + (cond k 1 0 + count_by is_new rest)) new

    by_end : (block ≡ 2 ^ 62) ⊎ (object ≡ 2 ^ 62) → count_by is_new all ≡ count_by is_new xs + (1 + count_by is_new rest) → IsWorn first_block first_object (count_by is_new all)
    by_end (inl is) sum = inl (omega (arith, sum, blocks, is))
    by_end (inr is) sum = inr (omega (arith, sum, objects, is))

-- ---- resolved

module _ (digest_of : List ℕ → List ℕ) (t : Tables) (xs : List Place) (block object : ℕ) (b : NewBlock) (bs left : List NewBlock) (here : left ≡ b ∷ bs) where
  -- one block more
  pub resolved_more : (x : Place) → x ≡ place_for digest_of t xs block object b.stored
      → (xs ++ x ∷ []) ++ resolved digest_of t (xs ++ x ∷ []) (next_after x block) (next_after x object) bs ≡ xs ++ resolved digest_of t xs block object left
  resolved_more x is =
      append_assoc xs (x ∷ []) (resolved digest_of t (xs ++ x ∷ []) (next_after x block) (next_after x object) bs)
      ∙ ap (λ (y : Place). xs ++ (y ∷ resolved digest_of t (xs ++ y ∷ []) (next_after y block) (next_after y object) bs)) is
      ∙ ap (λ (l : List NewBlock). xs ++ resolved digest_of t xs block object l) (sym here)

  -- there are more new blocks than numbers
  pub resolved_worn : (first_block first_object : ℕ) (all : List Place) → is_new (place_for digest_of t xs block object b.stored) ≡ true
      → (block ≡ 2 ^ 62) ⊎ (object ≡ 2 ^ 62) → block ≡ first_block + count_by is_new xs → object ≡ first_object + count_by is_new xs
      → xs ++ resolved digest_of t xs block object left ≡ all → IsWorn first_block first_object (count_by is_new all)
  resolved_worn first_block first_object all new last blocks objects whole =
      let y = place_for digest_of t xs block object b.stored in
      worn_from xs y (resolved digest_of t (xs ++ y ∷ []) (next_after y block) (next_after y object) bs) all block object first_block first_object new last blocks objects
      (ap (λ (l : List NewBlock). xs ++ resolved digest_of t xs block object l) (sym here) ∙ whole)

  -- with the list of places and the numbers as they are then
  pub resolved_pushed : (x : Place) (before now : List Place) (next_block next_object : ℕ) → before ≡ xs → x ≡ place_for digest_of t before block object b.stored
      → now ≡ xs ++ x ∷ [] → next_block ≡ next_after x block → next_object ≡ next_after x object
      → now ++ resolved digest_of t now next_block next_object bs ≡ xs ++ resolved digest_of t xs block object left
  resolved_pushed x before now next_block next_object same is pushed blocks objects =
      ap (λ (l : List Place). l ++ resolved digest_of t l next_block next_object bs) pushed
      ∙ ap (λ (n : ℕ). (xs ++ x ∷ []) ++ resolved digest_of t (xs ++ x ∷ []) n next_object bs) blocks
      ∙ ap (λ (n : ℕ). (xs ++ x ∷ []) ++ resolved digest_of t (xs ++ x ∷ []) (next_after x block) n bs) objects
      ∙ resolved_more x (is ∙ ap (λ (l : List Place). place_for digest_of t l block object b.stored) same)

-- the number after one that is left is a next number too
pub IsNext-next_after : (x : Place) (n m : ℕ) → (is_new x ≡ true → n < 2 ^ 62) → IsNext n → m ≡ next_after x n → IsNext m
IsNext-next_after places.Zeros n m room next is = (omega (arith, next.0, is), omega (arith, next.1, is))
IsNext-next_after (places.Known r) n m room next is = (omega (arith, next.0, is), omega (arith, next.1, is))
IsNext-next_after (places.New r) n m room next is = (omega (arith, next.0, is), omega (arith, room refl, is))
