-- Where the blocks that a range touches begin.
use Rattle.std.proofs.Common.{◌≡◌, ℕ, ◌+◌, ◌-◌, ◌*◌, ◌/◌, ◌<◌, ◌≤◌, Bool, true, false, cond, refl, arith}
use Rattle.std.specs.Prelude.{◌==◌, min}
use Rattle.std.proofs.lemmas.Bool.Decides.{nat_tests}
use Rattle.std.proofs.Math.Nat.{mul-le-mul_right, div-mul-le_self}
use Rattle.block_math.specs.Ranges.{piece_count, piece_start, IsPiece}

some_from_test : (n : ℕ) → (n == 0) ≡ false → 0 < n
some_from_test n is = grind (arith, nat_tests)

none_from_test : (n : ℕ) → (n == 0) ≡ true → n ≡ 0
none_from_test n is = grind (arith, nat_tests)

-- a number lies before the end of its block
below_next : (n size : ℕ) → 0 < size → n < (n / size + 1) * size
below_next n size some = omega arith

-- the k-th block begins before the end of the range
pub begins_before_end : (off len size k : ℕ) → 0 < size → k < piece_count off len size → (off / size + k) * size < off + len
begins_before_end off len size k some there = by_case (len == 0) refl there
  where
    by_case : (b : Bool) → (len == 0) ≡ b → k < cond b 0 ((off + len - 1) / size + 1 - off / size) → (off / size + k) * size < off + len
    by_case true is low = absurd (omega arith)
    by_case false is low =
        let full : 0 < len = some_from_test len is in
        let last : off / size + k ≤ (off + len - 1) / size = omega arith in
        let begin : (off / size + k) * size ≤ (off + len - 1) / size * size = mul-le-mul_right size last in
        let end : (off + len - 1) / size * size ≤ off + len - 1 = div-mul-le_self (off + len - 1) size in
        omega arith

-- and ends past the beginning of the range
pub ends_past_begin : (off size k : ℕ) → 0 < size → off < (off / size + k) * size + size
ends_past_begin off size k some =
    let next : off < (off / size + 1) * size = below_next off size some in
    let more : (off / size + 1) * size ≤ (off / size + (k + 1)) * size = mul-le-mul_right size (omega arith) in
    omega arith

pub piece_start-first : (off size : ℕ) → 0 < size → piece_start off size 0 ≡ 0
piece_start-first off size some =
    let begin : off / size * size ≤ off = div-mul-le_self off size in
    omega arith

-- a range with a piece has a byte
some_from_count : (off len size k : ℕ) → k < piece_count off len size → 0 < len
some_from_count off len size k there = by_case (len == 0) refl there
  where
    by_case : (b : Bool) → (len == 0) ≡ b → k < cond b 0 ((off + len - 1) / size + 1 - off / size) → 0 < len
    by_case true is low = absurd (omega arith)
    by_case false is low = some_from_test len is

pub piece_start-each : (off len size k : ℕ) → 0 < size → k < piece_count off len size → piece_start off size k < len
piece_start-each off len size k some there =
    let before : (off / size + k) * size < off + len = begins_before_end off len size k some there in
    let full : 0 < len = some_from_count off len size k there in
    omega arith

pub piece_start-end : (off len size : ℕ) → 0 < size → 0 < len → len ≤ piece_start off size ((off + len - 1) / size + 1 - off / size)
piece_start-end off len size some full =
    let next : off + len - 1 < ((off + len - 1) / size + 1) * size = below_next (off + len - 1) size some in
    let more : ((off + len - 1) / size + 1) * size ≤ (off / size + ((off + len - 1) / size + 1 - off / size)) * size = mul-le-mul_right size (omega arith) in
    let reached : off + len ≤ (off / size + ((off + len - 1) / size + 1 - off / size)) * size = omega (arith, next, more, full) in
    omega (arith, reached)

pub piece_start-whole : (off len size : ℕ) → 0 < size → len ≤ piece_start off size (piece_count off len size)
piece_start-whole off len size some = by_case (len == 0) refl
  where
    by_case : (b : Bool) → (len == 0) ≡ b → len ≤ piece_start off size (cond b 0 ((off + len - 1) / size + 1 - off / size))
    by_case true is = let none : len ≡ 0 = none_from_test len is in omega arith
    by_case false is = piece_start-end off len size some (some_from_test len is)

-- the parts of a piece, where from and end are those in the range
pub IsPiece-parts : (off len size k from end : ℕ) → 0 < size → k < piece_count off len size
    → from ≡ (off / size + k) * size - off → end ≡ min ((off / size + k) * size + size - off) len
    → IsPiece off len size k record {
      blockno = off / size + k;
      at = off + from - (off / size + k) * size;
      from = from;
      len = end - from;
    }
IsPiece-parts off len size k from end some there begins ends =
    let before : (off / size + k) * size < off + len = begins_before_end off len size k some there in
    let after : off < (off / size + k) * size + size = ends_past_begin off size k some in
    let full : 0 < len = some_from_count off len size k there in
    let next : (off / size + (k + 1)) * size ≡ (off / size + k) * size + size = omega arith in
    record {
      blockno = refl;
      from = begins;
      until = omega arith;
      place = omega arith;
      within = omega arith;
      some = omega arith;
    }
