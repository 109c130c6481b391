-- The bytes of blocks one by one, and what changes of a file do to its blocks.
use Rattle.std.proofs.Common.{◌≡◌, ℕ, zero, suc, ◌+◌, ◌-◌, ◌*◌, ◌/◌, ◌<◌, ◌≤◌, ◌⊎◌, inl, inr, List, ◌++◌, length, take, drop, replicate, min, get_or, refl, sym, ap, ◌∙◌, arith, length-append, length-drop}
use Rattle.std.proofs.Math.ListN.{get_or-append}
use Rattle.std.proofs.Math.Nat.{mul-le-mul_right, div-mul-le_self}
use Rattle.std.proofs.Math.Seq.{get_or-append_right}
use Rattle.std.proofs.lemmas.Bool.{cases_lt}
use Rattle.std.proofs.lemmas.List.{get_or_past, get_or-drop, get_or-take, length-take, length-take-le, ext_get_or, get_or-append-add}
use Rattle.block_math.specs.Blocks.{piece_of, block_of, patched, cut_at}
use Rattle.block_math.specs.Changes.{padded, written_at}
use Rattle.block_math.specs.Ranges.{piece_count, piece_start, IsPiece}
use Rattle.block_math.specs.declared.parts.Piece.{Piece}
use Rattle.block_math.proofs.LengthLemmas.{length-padded, le-padded}
use Rattle.block_math.proofs.PieceLemmas.{piece_start-whole}

-- ---- lengths

pub length-block_of : (size n : ℕ) (bytes : List ℕ) → length (block_of size bytes n) ≡ size
length-block_of size n bytes = omega (arith, length-padded size (piece_of size bytes n), length-take size (drop (n * size) bytes))

length-patched : (at : ℕ) (bytes block : List ℕ) → at + length bytes ≤ length block → length (patched at bytes block) ≡ length block
length-patched at bytes block fits =
    omega (arith, length-append (take at block ++ bytes) (drop (at + length bytes) block), length-append (take at block) bytes, length-take at block, length-drop (at + length bytes) block)

length-cut_at : (len : ℕ) (block : List ℕ) → length (cut_at len block) ≡ length block
length-cut_at len block = omega (arith, length-padded (length block) (take len block), length-take len block)

-- ---- one byte

get_or-zeros : (n i : ℕ) → get_or {A = ℕ} (replicate n 0) i 0 ≡ 0
get_or-zeros zero i = refl
get_or-zeros (suc n) zero = refl
get_or-zeros (suc n) (suc i) = get_or-zeros n i

-- zeros at the end are as what lies past it
pub get_or-padded : (size : ℕ) (bytes : List ℕ) (i : ℕ) → get_or (padded size bytes) i 0 ≡ get_or bytes i 0
get_or-padded size bytes i = by_case (cases_lt i (length bytes))
  where
    by_case : (i < length bytes) ⊎ (length bytes ≤ i) → get_or (padded size bytes) i 0 ≡ get_or bytes i 0
    by_case (inl low) = get_or-append bytes (replicate (size - length bytes) 0) 0 i low
    by_case (inr high) =
        get_or-append_right bytes (replicate (size - length bytes) 0) i 0 high
        ∙ get_or-zeros (size - length bytes) (i - length bytes)
        ∙ sym (get_or_past bytes i 0 high)

pub get_or-block_of : (size n i : ℕ) (bytes : List ℕ) → i < size → get_or (block_of size bytes n) i 0 ≡ get_or bytes (n * size + i) 0
get_or-block_of size n i bytes low =
    get_or-padded size (piece_of size bytes n) i
    ∙ get_or-take size (drop (n * size) bytes) i 0 low
    ∙ get_or-drop (n * size) bytes i 0

-- the new bytes stand from a place on, and all others are as before
record IsSpliced (at : ℕ) (new before after : List ℕ) : Type 0 where
  below : (i : ℕ) → i < at → get_or after i 0 ≡ get_or before i 0
  inside : (i : ℕ) → i < length new → get_or after (at + i) 0 ≡ get_or new i 0
  above : (i : ℕ) → at + length new ≤ i → get_or after i 0 ≡ get_or before i 0

spliced : (at : ℕ) (front new before : List ℕ) → length front ≡ at → ((i : ℕ) → i < at → get_or front i 0 ≡ get_or before i 0)
    → IsSpliced at new before (front ++ new ++ drop (at + length new) before)
spliced at front new before size same =
    let rest : List ℕ = drop (at + length new) before in
    let both : length (front ++ new) ≡ length front + length new = length-append front new in
    record {
      below = λ i low. get_or-append (front ++ new) rest 0 i (omega arith) ∙ get_or-append front new 0 i (omega arith) ∙ same i low;
      inside = λ i low.
          get_or-append (front ++ new) rest 0 (at + i) (omega arith)
          ∙ ap (λ n. get_or (front ++ new) (n + i) 0) (sym size)
          ∙ get_or-append-add front new i 0;
      above = λ i high.
          let place : at + length new + (i - length (front ++ new)) ≡ i = omega arith in
          get_or-append_right (front ++ new) rest i 0 (omega arith)
          ∙ get_or-drop (at + length new) before (i - length (front ++ new)) 0
          ∙ ap (λ n. get_or before n 0) place;
    }

spliced_by_write : (off : ℕ) (new bytes : List ℕ) → IsSpliced off new bytes (written_at off new bytes)
spliced_by_write off new bytes =
    spliced off (take off (padded off bytes)) new bytes
    (length-take-le off (padded off bytes) (le-padded off bytes))
    (λ i low. get_or-take off (padded off bytes) i 0 low ∙ get_or-padded off bytes i)

spliced_by_patch : (at : ℕ) (new block : List ℕ) → at + length new ≤ length block → IsSpliced at new block (patched at new block)
spliced_by_patch at new block fits =
    spliced at (take at block) new block (length-take-le at block (omega arith)) (λ i low. get_or-take at block i 0 low)

-- ---- blocks

-- a piece of a write patches its block
pub block_of-written_at : (off size k : ℕ) (new bytes : List ℕ) (p : Piece) → IsPiece off (length new) size k p
    → block_of size (written_at off new bytes) p.blockno ≡ patched p.at (take p.len (drop p.from new)) (block_of size bytes p.blockno)
block_of-written_at off size k new bytes p piece =
    let old : List ℕ = block_of size bytes p.blockno in
    let part : List ℕ = take p.len (drop p.from new) in
    let start : p.blockno * size ≡ (off / size + k) * size = ap (λ m. m * size) piece.blockno in
    let next : (off / size + (k + 1)) * size ≡ (off / size + k) * size + size = omega arith in
    let from : p.from ≡ (off / size + k) * size - off = piece.from in
    let until : p.from + p.len ≡ min (length new) ((off / size + (k + 1)) * size - off) = piece.until in
    let place : p.blockno * size + p.at ≡ off + p.from = piece.place in
    let within : p.at + p.len ≤ size = piece.within in
    let long : length part ≡ p.len = length-take-le p.len (drop p.from new) (omega (arith, length-drop p.from new)) in
    let whole : length old ≡ size = length-block_of size p.blockno bytes in
    let fits : p.at + length part ≤ length old = omega (arith, long, whole, within) in
    let write : IsSpliced off new bytes (written_at off new bytes) = spliced_by_write off new bytes in
    let patch : IsSpliced p.at part old (patched p.at part old) = spliced_by_patch p.at part old fits in
    let sizes : length (block_of size (written_at off new bytes) p.blockno) ≡ length (patched p.at part old) =
    length-block_of size p.blockno (written_at off new bytes) ∙ sym (length-patched p.at part old fits ∙ whole) in
    ext_get_or 0 _ _ sizes (λ i low.
    let small : i < size = omega (arith, low, length-block_of size p.blockno (written_at off new bytes)) in
    get_or-block_of size p.blockno i (written_at off new bytes) small
    ∙ one_byte off size k new bytes p i small from place until next start within long write patch)
  where
    one_byte : (off size k : ℕ) (new bytes : List ℕ) (p : Piece) (i : ℕ) → i < size
        → p.from ≡ (off / size + k) * size - off → p.blockno * size + p.at ≡ off + p.from
        → p.from + p.len ≡ min (length new) ((off / size + (k + 1)) * size - off)
        → (off / size + (k + 1)) * size ≡ (off / size + k) * size + size → p.blockno * size ≡ (off / size + k) * size → p.at + p.len ≤ size
        → length (take p.len (drop p.from new)) ≡ p.len
        → IsSpliced off new bytes (written_at off new bytes)
        → IsSpliced p.at (take p.len (drop p.from new)) (block_of size bytes p.blockno) (patched p.at (take p.len (drop p.from new)) (block_of size bytes p.blockno))
        → get_or (written_at off new bytes) (p.blockno * size + i) 0 ≡ get_or (patched p.at (take p.len (drop p.from new)) (block_of size bytes p.blockno)) i 0
    one_byte off size k new bytes p i small from place until next start within long write patch = by_case (cases_lt i p.at) (cases_lt i (p.at + p.len))
      where
        by_case : (i < p.at) ⊎ (p.at ≤ i) → (i < p.at + p.len) ⊎ (p.at + p.len ≤ i)
            → get_or (written_at off new bytes) (p.blockno * size + i) 0 ≡ get_or (patched p.at (take p.len (drop p.from new)) (block_of size bytes p.blockno)) i 0
        by_case (inl low) either =
            write.below (p.blockno * size + i) (omega arith) ∙ sym (get_or-block_of size p.blockno i bytes small) ∙ sym (patch.below i low)
        by_case (inr high) (inl low) =
            let j : ℕ = i - p.at in
            let place_in_file : p.blockno * size + i ≡ off + (p.from + j) = omega arith in
            let place_in_block : p.at + j ≡ i = omega arith in
            ap (λ m. get_or (written_at off new bytes) m 0) place_in_file
            ∙ write.inside (p.from + j) (omega arith)
            ∙ sym (get_or-take p.len (drop p.from new) j 0 (omega arith) ∙ get_or-drop p.from new j 0)
            ∙ sym (patch.inside j (omega arith))
            ∙ ap (λ m. get_or (patched p.at (take p.len (drop p.from new)) (block_of size bytes p.blockno)) m 0) place_in_block
        by_case (inr high) (inr past) =
            write.above (p.blockno * size + i) (omega arith) ∙ sym (get_or-block_of size p.blockno i bytes small) ∙ sym (patch.above i (omega arith))

-- a block that a write does not touch stays
pub block_of-written_elsewhere : (off size n : ℕ) (new bytes : List ℕ) → 0 < size
    → (n < off / size) ⊎ (off / size + piece_count off (length new) size ≤ n)
    → block_of size (written_at off new bytes) n ≡ block_of size bytes n
block_of-written_elsewhere off size n new bytes some elsewhere =
    let sizes : length (block_of size (written_at off new bytes) n) ≡ length (block_of size bytes n) =
    length-block_of size n (written_at off new bytes) ∙ sym (length-block_of size n bytes) in
    ext_get_or 0 _ _ sizes (λ i low.
    let small : i < size = omega (arith, low, length-block_of size n (written_at off new bytes)) in
    get_or-block_of size n i (written_at off new bytes) small
    ∙ by_case i small elsewhere (cases_lt (n * size + i) off)
    ∙ sym (get_or-block_of size n i bytes small))
  where
    by_case : (i : ℕ) → i < size → (n < off / size) ⊎ (off / size + piece_count off (length new) size ≤ n)
        → (n * size + i < off) ⊎ (off ≤ n * size + i) → get_or (written_at off new bytes) (n * size + i) 0 ≡ get_or bytes (n * size + i) 0
    by_case i small either (inl low) = (spliced_by_write off new bytes).below (n * size + i) low
    by_case i small (inl early) (inr high) =
        let next : (n + 1) * size ≤ off / size * size = mul-le-mul_right size (omega arith) in
        let begin : off / size * size ≤ off = div-mul-le_self off size in
        absurd (omega arith)
    by_case i small (inr late) (inr high) =
        let whole : length new ≤ piece_start off size (piece_count off (length new) size) = piece_start-whole off (length new) size some in
        let past : (off / size + piece_count off (length new) size) * size ≤ n * size = mul-le-mul_right size late in
        (spliced_by_write off new bytes).above (n * size + i) (omega (arith, whole, past, high))

-- a file that is cut has cut blocks
pub block_of-take : (len size n : ℕ) (bytes : List ℕ) → block_of size (take len bytes) n ≡ cut_at (len - n * size) (block_of size bytes n)
block_of-take len size n bytes =
    let sizes : length (block_of size (take len bytes) n) ≡ length (cut_at (len - n * size) (block_of size bytes n)) =
    length-block_of size n (take len bytes) ∙ sym (length-cut_at (len - n * size) (block_of size bytes n) ∙ length-block_of size n bytes) in
    ext_get_or 0 _ _ sizes (λ i low.
    let small : i < size = omega (arith, low, length-block_of size n (take len bytes)) in
    get_or-block_of size n i (take len bytes) small
    ∙ by_case i small (cases_lt (n * size + i) len)
    ∙ sym (get_or-padded (length (block_of size bytes n)) (take (len - n * size) (block_of size bytes n)) i))
  where
    by_case : (i : ℕ) → i < size → (n * size + i < len) ⊎ (len ≤ n * size + i)
        → get_or (take len bytes) (n * size + i) 0 ≡ get_or (take (len - n * size) (block_of size bytes n)) i 0
    by_case i small (inl low) =
        get_or-take len bytes (n * size + i) 0 low
        ∙ sym (get_or-block_of size n i bytes small)
        ∙ sym (get_or-take (len - n * size) (block_of size bytes n) i 0 (omega arith))
    by_case i small (inr high) =
        get_or_past (take len bytes) (n * size + i) 0 (omega (arith, length-take len bytes))
        ∙ sym (get_or_past (take (len - n * size) (block_of size bytes n)) i 0 (omega (arith, length-take (len - n * size) (block_of size bytes n))))

-- zeros at the end of a file change no block
pub block_of-padded : (len size n : ℕ) (bytes : List ℕ) → block_of size (padded len bytes) n ≡ block_of size bytes n
block_of-padded len size n bytes =
    let sizes : length (block_of size (padded len bytes) n) ≡ length (block_of size bytes n) =
    length-block_of size n (padded len bytes) ∙ sym (length-block_of size n bytes) in
    ext_get_or 0 _ _ sizes (λ i low.
    let small : i < size = omega (arith, low, length-block_of size n (padded len bytes)) in
    get_or-block_of size n i (padded len bytes) small ∙ get_or-padded len bytes (n * size + i) ∙ sym (get_or-block_of size n i bytes small))
