-- Blocks that a write or another length of a file leaves alone.
use Rattle.std.proofs.Common.{◌≡◌, ◌≢◌, ◌⊎◌, ℕ, zero, suc, ◌+◌, ◌-◌, ◌*◌, ◌/◌, ◌%◌, ◌<◌, ◌≤◌, List, [], ◌∷◌, ◌++◌, Bool, true, false, cond, length, take, drop, min, get_or, refl, sym, ap, ◌∙◌, inl, inr, arith, length-append, length-drop, eqb-true}
use Rattle.std.specs.Prelude.{◌==◌, ◌&&◌, ◌||◌, nat_lt, if◌then◌else◌}
use Rattle.std.specs.List.{filter, list_any}
use Rattle.std.proofs.Math.Nat.{mul-le-mul_right, div-mul-le_self}
use Rattle.std.proofs.lemmas.Bool.{cases_lt}
use Rattle.std.proofs.lemmas.Bool.Decides.{nat_tests}
use Rattle.std.proofs.lemmas.List.{get_or-drop, get_or-take, length-take, length-take-le, ext_get_or}
use Rattle.block_math.specs.Blocks.{piece_of}
use Rattle.block_math.specs.Changes.{padded, resized, written_at}
use Rattle.block_math.specs.Ranges.{piece_count, piece_start}
use Rattle.block_math.proofs.FileLemmas.{block_of-written_elsewhere, get_or-block_of}
use Rattle.block_math.proofs.LengthLemmas.{le-padded, length-resized}
use Rattle.block_math.proofs.PieceLemmas.{piece_start-whole}
use Rattle.core_model.specs.Changes.{IsLeft, blocks_of_resize, blocks_of_write, numbers_from, rest_of, tail_before, tail_of, touched_blocks}
use Rattle.core_model.proofs.Shown.{get_or-resized}

-- ---- pieces

pub length-piece_of : (size n : ℕ) (bytes : List ℕ) → length (piece_of size bytes n) ≡ rest_of size (length bytes) n
length-piece_of size n bytes = length-take size (drop (n * size) bytes) ∙ ap (min size) (length-drop (n * size) bytes)

pub get_or-piece_of : (size n i : ℕ) (bytes : List ℕ) → i < size → get_or (piece_of size bytes n) i 0 ≡ get_or bytes (n * size + i) 0
get_or-piece_of size n i bytes low = get_or-take size (drop (n * size) bytes) i 0 low ∙ get_or-drop (n * size) bytes i 0

-- a file that has the same bytes where the piece after lies
piece_same : (size n : ℕ) (before after : List ℕ) → ((i : ℕ) → i < size → n * size + i < length after → get_or after (n * size + i) 0 ≡ get_or before (n * size + i) 0)
    → piece_of size after n ≡ resized (length (piece_of size after n)) (piece_of size before n)
piece_same size n before after same =
    let len : ℕ = length (piece_of size after n) in
    let is : len ≡ rest_of size (length after) n = length-piece_of size n after in
    ext_get_or 0 (piece_of size after n) (resized len (piece_of size before n)) (sym (length-resized len (piece_of size before n)))
    (λ i below.
    let low : i < size = omega (arith, is) in
    get_or-piece_of size n i after low ∙ same i low (omega (arith, is)) ∙ sym (get_or-piece_of size n i before low)
    ∙ sym (get_or-resized len (piece_of size before n) i below))

-- ---- tests on lists of numbers

not_either : (a b : Bool) → (a || b) ≡ false → (a ≡ false) × (b ≡ false)
not_either true b is = absurd (cc is)
not_either false b is = (refl, is)

eqb_itself : (n : ℕ) → (n == n) ≡ true
eqb_itself n = grind (arith, nat_tests)

apart : (a b : ℕ) → (a == b) ≡ false → a ≢ b
apart a b is same = absurd (let own : (a == b) ≡ true = ap (λ x. a == x) (sym same) ∙ eqb_itself a in cc (sym own ∙ is))

list_any-append : (p : ℕ → Bool) (xs ys : List ℕ) → list_any p (xs ++ ys) ≡ false → (list_any p xs ≡ false) × (list_any p ys ≡ false)
list_any-append p [] ys none = (refl, none)
list_any-append p (x ∷ xs) ys none =
    let parts : (p x ≡ false) × (list_any p (xs ++ ys) ≡ false) = not_either (p x) (list_any p (xs ++ ys)) none in
    let rest : (list_any p xs ≡ false) × (list_any p ys ≡ false) = list_any-append p xs ys parts.1 in
    (ap (λ b. b || list_any p xs) parts.0 ∙ rest.0, rest.1)

outside_numbers : (n first count : ℕ) → list_any (λ m. m == n) (numbers_from first count) ≡ false → (n < first) ⊎ (first + count ≤ n)
outside_numbers n first zero none = elim (cases_lt n first) [ inl low ↦ inl low | inr high ↦ inr (omega arith) ]
outside_numbers n first (suc count) none =
    let parts : ((first == n) ≡ false) × (list_any (λ m. m == n) (numbers_from (first + 1) count) ≡ false) =
    not_either (first == n) (list_any (λ m. m == n) (numbers_from (first + 1) count)) none in
    let other : first ≢ n = apart first n parts.0 in
    elim (outside_numbers n (first + 1) count parts.1) [ inl low ↦ inl (omega (arith, other)) | inr high ↦ inr (omega arith) ]

-- ---- the tail

-- a place lies before the end of its block
below_next : (n size : ℕ) → 0 < size → n < (n / size + 1) * size
below_next n size some = omega arith

-- the block in which the last byte of a file lies
last_block : (size len n : ℕ) → 0 < size → n * size < len → len < (n + 1) * size + 1 → (len - 1) / size ≡ n
last_block size len n some above below =
    let q : ℕ = (len - 1) / size in
    let low : q * size ≤ len - 1 = div-mul-le_self (len - 1) size in
    let high : len - 1 < (q + 1) * size = below_next (len - 1) size some in
    elim (cases_lt n q) [
      | inl less ↦ absurd (let next : (n + 1) * size ≤ q * size = mul-le-mul_right size (omega arith) in omega arith)
      | inr least ↦ elim (cases_lt q n) [
        | inl more ↦ absurd (let next : (q + 1) * size ≤ n * size = mul-le-mul_right size (omega arith) in omega arith)
        | inr most ↦ omega arith
      ]
    ]

-- a tail that comes before the first block of a longer range is among the changed blocks
tail_is_changed : (size len longer first n : ℕ) (stored : ℕ → ℕ) → (len - 1) / size ≡ n → 0 < len → len < longer → n < first → rest_of size len n < stored n
    → list_any (λ m. m == n) (tail_before size len longer first stored) ≡ true
tail_is_changed size len longer first n stored last some grown before tail =
    let P : List ℕ → Type 0 = λ xs. list_any (λ m. m == n) xs ≡ true in
    let has : tail_of size len stored ≡ n ∷ [] = ap (λ q. if nat_lt (rest_of size len q) (stored q) && nat_lt 0 len then q ∷ [] else []) last
    ∙ ap (λ b. if b && nat_lt 0 len then n ∷ [] else []) (is_lt (rest_of size len n) (stored n) tail) ∙ ap (λ b. if b then n ∷ [] else []) (is_lt 0 len some) in
    let kept : filter (λ m. nat_lt m first) (tail_of size len stored) ≡ n ∷ [] = ap (filter (λ m. nat_lt m first)) has ∙ ap (λ b. cond b (n ∷ []) []) (is_lt n first before) in
    let all : tail_before size len longer first stored ≡ n ∷ [] = ap (λ b. if b then filter (λ m. nat_lt m first) (tail_of size len stored) else []) (is_lt len longer grown) ∙ kept in
    ap (list_any (λ m. m == n)) all ∙ ap (λ b. b || false) (eqb_itself n)
  where
    is_lt : (a b : ℕ) → a < b → nat_lt a b ≡ true
    is_lt a b less = grind (arith, nat_tests)

-- ---- what would show

-- where a file grows, a block that is left either is whole, or has no stored form, or a tail would have been changed
module _ (size n len longer : ℕ) (stored : ℕ → ℕ) (some : 0 < size) (past : (m : ℕ) → len ≤ m * size → stored m ≡ 0) where
  fits_grown : len < longer → (n * size < len → len < (n + 1) * size → rest_of size len n < stored n → ⊥)
      → (rest_of size longer n ≤ rest_of size len n) ⊎ (stored n ≤ rest_of size len n)
  fits_grown grown no_tail =
      elim (cases_lt len ((n + 1) * size)) [
        | inr whole ↦ inl (omega arith)
        | inl within ↦ elim (cases_lt (n * size) len) [
          | inr beyond ↦ (let none : stored n ≡ 0 = past n beyond in inr (omega arith))
          | inl inside ↦ elim (cases_lt (rest_of size len n) (stored n)) [ inl tail ↦ absurd (no_tail inside within tail) | inr none ↦ inr none ]
        ]
      ]

  fits_cut : longer ≤ len → (rest_of size longer n ≤ rest_of size len n) ⊎ (stored n ≤ rest_of size len n)
  fits_cut shorter = inl (omega arith)

-- the same of the pieces as long as these rests
of_rests : {a b c d s : ℕ} → a ≡ b → c ≡ d → (b ≤ d) ⊎ (s ≤ d) → (a ≤ c) ⊎ (s ≤ c)
of_rests is own (inl small) = inl (omega arith)
of_rests is own (inr small) = inr (omega arith)

-- ---- a write

module _ (size off n : ℕ) (new bytes : List ℕ) (stored : ℕ → ℕ) (some : 0 < size) (written : 0 < length new)
    (past : (m : ℕ) → length bytes ≤ m * size → stored m ≡ 0)
    (none : list_any (λ m. m == n) (blocks_of_write size off (length new) (length bytes) stored) ≡ false) where
  parts : (list_any (λ m. m == n) (tail_before size (length bytes) (off + length new) (off / size) stored) ≡ false)
      × (list_any (λ m. m == n) (touched_blocks size off (length new)) ≡ false)
  parts = list_any-append (λ m. m == n) (tail_before size (length bytes) (off + length new) (off / size) stored) (touched_blocks size off (length new)) none

  elsewhere : (n < off / size) ⊎ (off / size + piece_count off (length new) size ≤ n)
  elsewhere = outside_numbers n (off / size) (piece_count off (length new) size) parts.1

  length-written : length (written_at off new bytes) ≡ (off + length new) + (length bytes - (off + length new))
  length-written =
      omega (
        arith,
        length-append (take off (padded off bytes) ++ new) (drop (off + length new) bytes),
        length-append (take off (padded off bytes)) new,
        length-take-le off (padded off bytes) (le-padded off bytes),
        length-drop (off + length new) bytes,
      )

  -- the blocks of both files are the same there
  same : (i : ℕ) → i < size → n * size + i < length (written_at off new bytes) → get_or (written_at off new bytes) (n * size + i) 0 ≡ get_or bytes (n * size + i) 0
  same i low inside =
      sym (get_or-block_of size n i (written_at off new bytes) low) ∙ ap (λ (b : List ℕ). get_or b i 0) (block_of-written_elsewhere off size n new bytes some elsewhere)
      ∙ get_or-block_of size n i bytes low

  no_tail : length bytes < off + length new → n * size < length bytes → length bytes < (n + 1) * size → rest_of size (length bytes) n < stored n → ⊥
  no_tail grown inside within tail =
      let first : n < off / size = elim elsewhere [
        | inl early ↦ early
        | inr late ↦ absurd (
            let whole : length new ≤ piece_start off size (piece_count off (length new) size) = piece_start-whole off (length new) size some in
            let begin : (off / size + piece_count off (length new) size) * size ≤ n * size = mul-le-mul_right size late in
            omega (arith, whole, begin))
      ] in
      let is : list_any (λ m. m == n) (tail_before size (length bytes) (off + length new) (off / size) stored) ≡ true =
      tail_is_changed size (length bytes) (off + length new) (off / size) n stored (last_block size (length bytes) n some inside (omega arith)) (omega arith) grown first tail in
      let clash : true ≡ false = sym is ∙ parts.0 in
      absurd (cc clash)

  fits : (rest_of size (length (written_at off new bytes)) n ≤ rest_of size (length bytes) n) ⊎ (stored n ≤ rest_of size (length bytes) n)
  fits = elim (cases_lt (length bytes) (off + length new)) [
    | inl grown ↦ fits_grown size n (length bytes) (length (written_at off new bytes)) stored some past (omega (arith, length-written)) (no_tail grown)
    | inr within ↦ fits_cut size n (length bytes) (length (written_at off new bytes)) stored some past (omega (arith, length-written))
  ]

  pub IsLeft-written : IsLeft size n stored bytes (written_at off new bytes)
  IsLeft-written = record {
    piece = piece_same size n bytes (written_at off new bytes) same;
    fits = of_rests (length-piece_of size n (written_at off new bytes)) (length-piece_of size n bytes) fits;
  }

-- ---- another length

module _ (size longer n : ℕ) (bytes : List ℕ) (stored : ℕ → ℕ) (some : 0 < size)
    (past : (m : ℕ) → length bytes ≤ m * size → stored m ≡ 0)
    (none : list_any (λ m. m == n) (blocks_of_resize size longer (length bytes) stored) ≡ false) where
  -- of the changed blocks, neither the tail nor the block that the length lies within
  both : (list_any (λ m. m == n) (tail_before size (length bytes) longer (longer / size) stored) ≡ false) × (longer % size ≢ 0 → longer / size ≢ n)
  both = by_test (longer % size == 0) refl none
    where
      by_test : (b : Bool) → (longer % size == 0) ≡ b
          → list_any (λ m. m == n) (if b then tail_before size (length bytes) longer (longer / size) stored else tail_before size (length bytes) longer (longer / size) stored ++ longer / size ∷ []) ≡ false
          → (list_any (λ m. m == n) (tail_before size (length bytes) longer (longer / size) stored) ≡ false) × (longer % size ≢ 0 → longer / size ≢ n)
      by_test true is left = (left, λ other. absurd (other (eqb-true (longer % size) 0 is)))
      by_test false is left =
          let each : (list_any (λ m. m == n) (tail_before size (length bytes) longer (longer / size) stored) ≡ false) × (list_any (λ m. m == n) (longer / size ∷ []) ≡ false) =
          list_any-append (λ m. m == n) (tail_before size (length bytes) longer (longer / size) stored) (longer / size ∷ []) left in
          (each.0, λ other. apart (longer / size) n (not_either (longer / size == n) false each.1).0)

  same_bytes : (i : ℕ) → i < size → n * size + i < length (resized longer bytes) → get_or (resized longer bytes) (n * size + i) 0 ≡ get_or bytes (n * size + i) 0
  same_bytes i low inside = get_or-resized longer bytes (n * size + i) (omega (arith, length-resized longer bytes))

  no_old_tail : length bytes < longer → n * size < length bytes → length bytes < (n + 1) * size → rest_of size (length bytes) n < stored n → ⊥
  no_old_tail grown inside within tail =
      let q : ℕ = longer / size in
      let low : q * size ≤ longer = div-mul-le_self longer size in
      let high : longer < (q + 1) * size = below_next longer size some in
      let first : n < q = elim (cases_lt n q) [
        | inl early ↦ early
        | inr late ↦ (elim (cases_lt q n) [
          | inl more ↦ absurd (let next : (q + 1) * size ≤ n * size = mul-le-mul_right size (omega arith) in omega arith)
          | inr most ↦ absurd (
              let own : q ≡ n = omega arith in
              let begin : q * size ≡ n * size = ap (λ x. x * size) own in
              let rest : longer % size ≢ 0 = λ zero_rest. omega (arith, within_block longer size some, zero_rest, begin) in
              both.1 rest own)
        ])
      ] in
      let is : list_any (λ m. m == n) (tail_before size (length bytes) longer q stored) ≡ true =
      tail_is_changed size (length bytes) longer q n stored (last_block size (length bytes) n some inside (omega arith)) (omega arith) grown first tail in
      let clash : true ≡ false = sym is ∙ both.0 in
      absurd (cc clash)
    where
      within_block : (n size : ℕ) → 0 < size → n ≡ n / size * size + n % size
      within_block n size some = omega arith

  fits_resized : (rest_of size (length (resized longer bytes)) n ≤ rest_of size (length bytes) n) ⊎ (stored n ≤ rest_of size (length bytes) n)
  fits_resized = elim (cases_lt (length bytes) longer) [
    | inl grown ↦ fits_grown size n (length bytes) (length (resized longer bytes)) stored some past (omega (arith, length-resized longer bytes)) (no_old_tail grown)
    | inr within ↦ fits_cut size n (length bytes) (length (resized longer bytes)) stored some past (omega (arith, length-resized longer bytes))
  ]

  pub IsLeft-resized : IsLeft size n stored bytes (resized longer bytes)
  IsLeft-resized = record {
    piece = piece_same size n bytes (resized longer bytes) same_bytes;
    fits = of_rests (length-piece_of size n (resized longer bytes)) (length-piece_of size n bytes) fits_resized;
  }
