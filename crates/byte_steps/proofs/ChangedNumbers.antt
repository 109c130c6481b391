-- Which numbers of blocks are changed, and what the others keep of a file that grows.
use Rattle.std.proofs.Common.{◌≡◌, ◌≢◌, ℕ, ◌+◌, ◌-◌, ◌*◌, ◌/◌, ◌%◌, ◌<◌, ◌≤◌, List, [], ◌∷◌, ◌++◌, Bool, true, false, length, take, drop, refl, sym, ap, ◌∙◌, subst, inl, inr, arith, length-append, length-drop, eqb-true}
use Rattle.std.specs.Prelude.{◌==◌, if◌then◌else◌, Contains}
use Rattle.std.specs.List.{list_any}
use Rattle.std.proofs.Math.Nat.{mul-le-mul_right}
use Rattle.std.proofs.Math.Seq.{take-length}
use Rattle.std.proofs.lemmas.Bool.{cases_lt, eq-eqb, or_parts}
use Rattle.std.proofs.lemmas.List.{length-take-le}
use Rattle.std.proofs.lemmas.List.Elements.{Contains-append_right}
use Rattle.std.proofs.lemmas.Map.Views.{Contains-from_any}
use Rattle.block_math.specs.Blocks.{piece_of, trimmed}
use Rattle.block_math.specs.Changes.{padded, resized, written_at}
use Rattle.block_math.proofs.LengthLemmas.{le-padded, length-padded, length-resized}
use Rattle.block_math.proofs.TrimmedLemmas.{trimmed-padded}
use Rattle.core_model.specs.Changes.{IsLeft, blocks_of_resize, rest_of, tail_before}
use Rattle.core_model.proofs.Elements.{Contains-cases, Contains-first, Contains-none}
use Rattle.core_model.proofs.Left.{length-piece_of}

-- ---- tests on lists of numbers

-- a number that the test finds is in the list
pub Contains-list_any : (n : ℕ) (numbers : List ℕ) → list_any (λ m. m == n) numbers ≡ true → Contains numbers n
Contains-list_any n numbers is = Contains-from_any {eq = λ a b. b == a} (λ x y same. sym (eqb-true y x same)) n numbers is

-- and one that it does not find is not
pub not_contained : (n : ℕ) (numbers : List ℕ) → list_any (λ m. m == n) numbers ≡ false → Contains numbers n → ⊥
not_contained n [] none there = Contains-none n there
not_contained n (x ∷ xs) none there =
    let parts : ((x == n) ≡ false) × (list_any (λ m. m == n) xs ≡ false) = or_parts (x == n) (list_any (λ m. m == n) xs) none in
    elim (Contains-cases x xs n there) [
      | inl same ↦
          let clash : true ≡ false = sym (eq-eqb n n refl) ∙ ap (λ m. m == n) (sym same) ∙ parts.0 in
          absurd (cc clash)
      | inr later ↦ not_contained n xs parts.1 later
    ]

-- ---- trimmed forms

-- bytes with zeros behind them trim to the same
trimmed-resized : (len : ℕ) (bytes : List ℕ) → length bytes ≤ len → trimmed (resized len bytes) ≡ trimmed bytes
trimmed-resized len bytes short =
    let whole : len ≡ length (padded len bytes) = omega (arith, length-padded len bytes) in
    ap trimmed (ap (λ n. take n (padded len bytes)) whole ∙ take-length (padded len bytes)) ∙ trimmed-padded len bytes

-- so does a block that is left alone, where the file has no fewer bytes in it
pub trimmed-left : (size n : ℕ) (stored : ℕ → ℕ) (before after : List ℕ) → IsLeft size n stored before after
    → rest_of size (length before) n ≤ rest_of size (length after) n → trimmed (piece_of size after n) ≡ trimmed (piece_of size before n)
trimmed-left size n stored before after left grown =
    ap trimmed left.piece
    ∙ trimmed-resized (length (piece_of size after n)) (piece_of size before n) (omega (arith, length-piece_of size n before, length-piece_of size n after, grown))

-- ---- a write

length-written : (off : ℕ) (new bytes : List ℕ) → length (written_at off new bytes) ≡ (off + length new) + (length bytes - (off + length new))
length-written off new bytes =
    omega (
      arith,
      length-append (take off (padded off bytes) ++ new) (drop (off + length new) bytes),
      length-append (take off (padded off bytes)) new,
      length-take-le off (padded off bytes) (le-padded off bytes),
      length-drop (off + length new) bytes,
    )

-- no block of a file has fewer bytes after a write
pub grown-written_at : (size off n : ℕ) (new bytes : List ℕ) → rest_of size (length bytes) n ≤ rest_of size (length (written_at off new bytes)) n
grown-written_at size off n new bytes = omega (arith, length-written off new bytes)

-- ---- another length

-- a length within a block changes it
within_changed : (size longer len n : ℕ) (stored : ℕ → ℕ) → list_any (λ m. m == n) (blocks_of_resize size longer len stored) ≡ false → longer % size ≢ 0 → longer / size ≢ n
within_changed size longer len n stored none = by_test (longer % size == 0) refl none
  where
    by_test : (b : Bool) → (longer % size == 0) ≡ b
        → list_any (λ m. m == n) (if b then tail_before size len longer (longer / size) stored else tail_before size len longer (longer / size) stored ++ longer / size ∷ []) ≡ false
        → longer % size ≢ 0 → longer / size ≢ n
    by_test true is left other same = other (eqb-true (longer % size) 0 is)
    by_test false is left other same =
        let last : List ℕ = longer / size ∷ [] in
        not_contained n (tail_before size len longer (longer / size) stored ++ last) left
        (Contains-append_right (tail_before size len longer (longer / size) stored) last n
        (subst (λ m. Contains last m) same (Contains-first (longer / size) [])))

-- no block but a changed one, or one past the end, has fewer bytes after a file gets another length
pub grown-resized : (size longer n : ℕ) (bytes : List ℕ) (stored : ℕ → ℕ) → 0 < size → list_any (λ m. m == n) (blocks_of_resize size longer (length bytes) stored) ≡ false
    → n * size < length (resized longer bytes) → rest_of size (length bytes) n ≤ rest_of size (length (resized longer bytes)) n
grown-resized size longer n bytes stored some none inside =
    let len : length (resized longer bytes) ≡ longer = length-resized longer bytes in
    let q : ℕ = longer / size in
    let parts : longer ≡ q * size + longer % size = within_block longer size some in
    let low : longer % size < size = rest_below longer size some in
    let first : n < q = elim (cases_lt n q) [
      | inl early ↦ early
      | inr late ↦ elim (cases_lt q n) [
        | inl more ↦ absurd (let next : (q + 1) * size ≤ n * size = mul-le-mul_right size (omega arith) in omega (arith, one_more q size))
        | inr most ↦ absurd (
            let own : q ≡ n = omega arith in
            let begin : q * size ≡ n * size = ap (λ x. x * size) own in
            let rest : longer % size ≢ 0 = λ zero_rest. omega (arith, zero_rest, begin) in
            within_changed size longer (length bytes) n stored none rest own)
      ]
    ] in
    let next : (n + 1) * size ≤ q * size = mul-le-mul_right size (omega arith) in
    omega (arith, one_more n size)
  where
    within_block : (n size : ℕ) → 0 < size → n ≡ n / size * size + n % size
    within_block n size some = omega arith

    rest_below : (n size : ℕ) → 0 < size → n % size < size
    rest_below n size some = omega arith

    one_more : (q size : ℕ) → (q + 1) * size ≡ q * size + size
    one_more q size = omega arith
