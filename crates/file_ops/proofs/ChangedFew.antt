-- How many blocks of a file change at most.
use Rattle.std.proofs.Common.{◌≡◌, ℕ, zero, suc, ◌+◌, ◌-◌, ◌*◌, ◌/◌, ◌%◌, ◌<◌, ◌≤◌, inl, inr, List, [], ◌∷◌, ◌++◌, length, Bool, true, false, cond, refl, ap, arith}
use Rattle.std.specs.Prelude.{◌==◌, ◌&&◌, nat_lt, filter, if◌then◌else◌}
use Rattle.std.proofs.Math.Nat.{add-mul, div-mul-le_self, lt-div-mul-add, mul-le-mul_right}
use Rattle.std.proofs.lemmas.Bool.{cases_lt}
use Rattle.std.proofs.lemmas.List.{length-append}
use Rattle.block_math.specs.Ranges.{piece_count}
use Rattle.core_model.specs.Changes.{blocks_of_resize, blocks_of_write, numbers_from, rest_of, tail_before}

tail_few : (size len longer first : ℕ) (stored : ℕ → ℕ) → length (tail_before size len longer first stored) ≤ 1
tail_few size len longer first stored =
    by_longer (nat_lt len longer) (nat_lt (rest_of size len last) (stored last) && nat_lt 0 len)
  where
    last : ℕ
    last = (len - 1) / size

    by_first : (b : Bool) → length {A = ℕ} (cond b (last ∷ []) []) ≤ 1
    by_first true = let most : 1 ≤ 1 = omega arith in most
    by_first false = let most : 0 ≤ 1 = omega arith in most

    by_longer : (a b : Bool) → length {A = ℕ} (if a then filter (λ n. nat_lt n first) (if b then last ∷ [] else []) else []) ≤ 1
    by_longer false b = let most : 0 ≤ 1 = omega arith in most
    by_longer true false = let most : 0 ≤ 1 = omega arith in most
    by_longer true true = by_first (nat_lt last first)

length-numbers_from : (first count : ℕ) → length (numbers_from first count) ≡ count
length-numbers_from first zero = refl
length-numbers_from first (suc count) = ap suc (length-numbers_from (first + 1) count)

pub written_few : (size off count len : ℕ) (stored : ℕ → ℕ) → length (blocks_of_write size off count len stored) ≤ piece_count off count size + 1
written_few size off count len stored =
    let pieces : ℕ = piece_count off count size in
    let before : List ℕ = tail_before size len (off + count) (off / size) stored in
    let touched : List ℕ = numbers_from (off / size) pieces in
    let tail : length before ≤ 1 = tail_few size len (off + count) (off / size) stored in
    let long : length touched ≡ pieces = length-numbers_from (off / size) pieces in
    let whole : length (blocks_of_write size off count len stored) ≡ length before + length touched = length-append before touched in
    omega (arith, tail, long, whole)

pub resized_few : (size longer len : ℕ) (stored : ℕ → ℕ) → length (blocks_of_resize size longer len stored) ≤ 2
resized_few size longer len stored = by_case (longer % size == 0) (tail_few size len longer (longer / size) stored)
  where
    by_case : (b : Bool) → length (tail_before size len longer (longer / size) stored) ≤ 1
        → length {A = ℕ} (if b then tail_before size len longer (longer / size) stored else tail_before size len longer (longer / size) stored ++ longer / size ∷ []) ≤ 2
    by_case true tail = omega (arith, tail)
    by_case false tail =
        let whole : length (tail_before size len longer (longer / size) stored ++ longer / size ∷ []) ≡ length (tail_before size len longer (longer / size) stored) + 1 =
        length-append (tail_before size len longer (longer / size) stored) (longer / size ∷ []) in
        omega (arith, tail, whole)

-- ---- a Write has at most 131,072 bytes

-- numbers of blocks that are this far apart lie as many blocks apart
count_bound : (first last size len off : ℕ) → 0 < size → 4096 ≤ size → len ≤ 131072 → last * size ≤ off + len → off < first * size + size → last + 1 - first + 1 ≤ 34
count_bound first last size len off some least most ends begins =
    elim (cases_lt (last - first) 33) [
      | inl low ↦ omega (arith, low)
      | inr high ↦
          (let far : (first + 33) * size ≤ last * size = mul-le-mul_right size (omega (arith, high)) in
          absurd (omega (arith, far, add-mul first 33 size, ends, begins, least, most)))
    ]

pub few_write : (len off size : ℕ) → 4096 ≤ size → len ≤ 131072 → piece_count off len size + 1 ≤ 34
few_write len off size least most = by_len (len == 0) refl
  where
    some : 0 < size
    some = omega arith

    bound : (len == 0) ≡ false → (off + len - 1) / size + 1 - off / size + 1 ≤ 34
    bound filled =
        count_bound (off / size) ((off + len - 1) / size) size len off some least most
        (omega (arith, div-mul-le_self (off + len - 1) size)) (lt-div-mul-add some)

    by_len : (b : Bool) → (len == 0) ≡ b → cond b 0 ((off + len - 1) / size + 1 - off / size) + 1 ≤ 34
    by_len true is = omega arith
    by_len false is = bound is
