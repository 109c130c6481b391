-- Bytes that are the same but for zeros at their ends, and what a write makes of them.
use Rattle.std.proofs.Common.{◌≡◌, ◌⊎◌, inl, inr, ℕ, ◌+◌, ◌-◌, ◌*◌, ◌/◌, ◌<◌, ◌≤◌, List, [], ◌++◌, length, take, drop, replicate, min, get_or, sym, ap, ◌∙◌, arith, length-append, length-drop}
use Rattle.std.proofs.Math.ListN.{get_or-append}
use Rattle.std.proofs.Math.Seq.{get_or-append_right}
use Rattle.std.proofs.lemmas.Bool.{cases_lt}
use Rattle.std.proofs.lemmas.List.{append-nil, drop_all, ext_get_or, get_or-drop, get_or-take, get_or_past, length-take, length-take-le, take-append-le, take_all, take_min}
use Rattle.block_math.specs.Blocks.{block_of, cut_at, patched, piece_of, trimmed}
use Rattle.block_math.specs.Changes.{padded, resized, written_at}
use Rattle.block_math.specs.Ranges.{IsPiece}
use Rattle.block_math.specs.declared.parts.Piece.{Piece}
use Rattle.block_math.proofs.FileLemmas.{block_of-padded, block_of-take, block_of-written_at, block_of-written_elsewhere, get_or-padded, length-block_of}
use Rattle.block_math.proofs.LengthLemmas.{le-padded, length-padded}
use Rattle.block_math.proofs.TrimmedLemmas.{trimmed-block_of, trimmed-padded}
use Rattle.core_model.specs.Bytes.{Shows}
use Rattle.core_model.specs.Changes.{rest_of}
use Rattle.core_model.proofs.Left.{length-piece_of}
use Rattle.core_model.proofs.Shown.{get_or-resized}

-- ---- zeros at the end

-- the same bytes at every place, zeros past the ends
abbrev Agree : List ℕ → List ℕ → Type 0
Agree a b = (i : ℕ) → get_or a i 0 ≡ get_or b i 0

pub trimmed-agree : (a b : List ℕ) → ((i : ℕ) → get_or a i 0 ≡ get_or b i 0) → trimmed a ≡ trimmed b
trimmed-agree a b same =
    let n : ℕ = length a + length b in
    let first : length (padded n a) ≡ n = omega (arith, length-padded n a) in
    let second : length (padded n b) ≡ n = omega (arith, length-padded n b) in
    let all : padded n a ≡ padded n b =
    ext_get_or 0 (padded n a) (padded n b) (first ∙ sym second) (λ i low. get_or-padded n a i ∙ same i ∙ sym (get_or-padded n b i)) in
    sym (trimmed-padded n a) ∙ ap trimmed all ∙ trimmed-padded n b

take-agree : (len : ℕ) (a b : List ℕ) → ((i : ℕ) → i < len → get_or a i 0 ≡ get_or b i 0) → Agree (take len a) (take len b)
take-agree len a b same i = by_case (cases_lt i len)
  where
    by_case : (i < len) ⊎ (len ≤ i) → get_or (take len a) i 0 ≡ get_or (take len b) i 0
    by_case (inl low) = get_or-take len a i 0 low ∙ same i low ∙ sym (get_or-take len b i 0 low)
    by_case (inr high) =
        get_or_past (take len a) i 0 (omega (arith, length-take len a)) ∙ sym (get_or_past (take len b) i 0 (omega (arith, length-take len b)))

-- the front of a form that shows a piece is that of the piece
shown-agree : (len : ℕ) (piece form : List ℕ) → Shows piece form → len ≤ length piece → Agree (take len form) (take len piece)
shown-agree len piece form shows short =
    take-agree len form piece (λ i low. sym (get_or-resized (length piece) form i (omega arith)) ∙ ap (λ (xs : List ℕ). get_or xs i 0) shows)

pub trimmed-shown : (len : ℕ) (piece form : List ℕ) → Shows piece form → len ≤ length piece → trimmed (take len form) ≡ trimmed (take len piece)
trimmed-shown len piece form shows short = trimmed-agree (take len form) (take len piece) (shown-agree len piece form shows short)

-- ---- a write

module _ (at : ℕ) (new bytes : List ℕ) where
  long : length (take at (padded at bytes)) ≡ at
  long = length-take-le at (padded at bytes) (le-padded at bytes)

  both : length (take at (padded at bytes) ++ new) ≡ at + length new
  both = omega (arith, length-append (take at (padded at bytes)) new, long)

  get_or-below : (i : ℕ) → i < at → get_or (written_at at new bytes) i 0 ≡ get_or bytes i 0
  get_or-below i low =
      get_or-append (take at (padded at bytes) ++ new) (drop (at + length new) bytes) 0 i (omega (arith, both))
      ∙ get_or-append (take at (padded at bytes)) new 0 i (omega (arith, long))
      ∙ get_or-take at (padded at bytes) i 0 low
      ∙ get_or-padded at bytes i

  get_or-inside : (i : ℕ) → at ≤ i → i < at + length new → get_or (written_at at new bytes) i 0 ≡ get_or new (i - at) 0
  get_or-inside i high low =
      let place : i - length (take at (padded at bytes)) ≡ i - at = ap (λ n. i - n) long in
      get_or-append (take at (padded at bytes) ++ new) (drop (at + length new) bytes) 0 i (omega (arith, both))
      ∙ get_or-append_right (take at (padded at bytes)) new i 0 (omega (arith, long))
      ∙ ap (λ n. get_or new n 0) place

  get_or-above : (i : ℕ) → at + length new ≤ i → get_or (written_at at new bytes) i 0 ≡ get_or bytes i 0
  get_or-above i high =
      let place : at + length new + (i - length (take at (padded at bytes) ++ new)) ≡ i = omega (arith, both) in
      get_or-append_right (take at (padded at bytes) ++ new) (drop (at + length new) bytes) i 0 (omega (arith, both))
      ∙ get_or-drop (at + length new) bytes (i - length (take at (padded at bytes) ++ new)) 0
      ∙ ap (λ n. get_or bytes n 0) place

written_at-agree : (at : ℕ) (new a b : List ℕ) → Agree a b → Agree (written_at at new a) (written_at at new b)
written_at-agree at new a b same i = by_case (cases_lt i at) (cases_lt i (at + length new))
  where
    by_case : (i < at) ⊎ (at ≤ i) → (i < at + length new) ⊎ (at + length new ≤ i) → get_or (written_at at new a) i 0 ≡ get_or (written_at at new b) i 0
    by_case (inl low) either = get_or-below at new a i low ∙ same i ∙ sym (get_or-below at new b i low)
    by_case (inr high) (inl low) = get_or-inside at new a i high low ∙ sym (get_or-inside at new b i high low)
    by_case (inr high) (inr past) = get_or-above at new a i past ∙ same i ∙ sym (get_or-above at new b i past)

pub trimmed-written_shown : (at len : ℕ) (new piece form : List ℕ) → Shows piece form → len ≤ length piece
    → trimmed (written_at at new (take len form)) ≡ trimmed (written_at at new (take len piece))
trimmed-written_shown at len new piece form shows short =
    trimmed-agree (written_at at new (take len form)) (written_at at new (take len piece))
    (written_at-agree at new (take len form) (take len piece) (shown-agree len piece form shows short))

-- a write that begins within bytes patches them
written_at-within : (at : ℕ) (new bytes : List ℕ) → at ≤ length bytes → written_at at new bytes ≡ patched at new bytes
written_at-within at new bytes within =
    ap (λ (xs : List ℕ). xs ++ new ++ drop (at + length new) bytes) (take-append-le at bytes (replicate (at - length bytes) 0) within)

-- one over all of them leaves none
patched-whole : (at : ℕ) (new bytes : List ℕ) → at ≡ 0 → length bytes ≤ length new → patched at new bytes ≡ new
patched-whole at new bytes first over =
    ap (λ n. take n bytes ++ new ++ drop (n + length new) bytes) first
    ∙ ap (λ (xs : List ℕ). [] ++ new ++ xs) (drop_all (0 + length new) bytes (omega arith))
    ∙ append-nil ([] ++ new)

-- ---- the blocks of a file

pub length-rest : (size n : ℕ) (file : List ℕ) (whole : ℕ) → length file ≡ whole → length (piece_of size file n) ≡ rest_of size whole n
length-rest size n file whole is = length-piece_of size n file ∙ ap (λ len. rest_of size len n) is

pub take-rest : (size n : ℕ) (file : List ℕ) (whole : ℕ) → length file ≡ whole → take (rest_of size whole n) (piece_of size file n) ≡ piece_of size file n
take-rest size n file whole is = take_all (rest_of size whole n) (piece_of size file n) (omega (arith, length-rest size n file whole is))

module _ (off size k : ℕ) (new file : List ℕ) (p : Piece) (is : IsPiece off (length new) size k p) where
  -- a block that is written in part
  pub trimmed-written : trimmed (written_at p.at (take p.len (drop p.from new)) (piece_of size file p.blockno)) ≡ trimmed (piece_of size (written_at off new file) p.blockno)
  trimmed-written =
      let part : List ℕ = take p.len (drop p.from new) in
      let block : List ℕ = block_of size file p.blockno in
      let within : p.at ≤ length block = omega (arith, is.within, length-block_of size p.blockno file) in
      trimmed-agree (written_at p.at part (piece_of size file p.blockno)) (written_at p.at part block)
      (written_at-agree p.at part (piece_of size file p.blockno) block (λ i. sym (get_or-padded size (piece_of size file p.blockno) i)))
      ∙ ap trimmed (written_at-within p.at part block within ∙ sym (block_of-written_at off size k new file p is))
      ∙ trimmed-block_of size p.blockno (written_at off new file)

  -- one that is overwritten whole
  pub trimmed-overwritten : p.len ≡ size → trimmed (take p.len (drop p.from new)) ≡ trimmed (piece_of size (written_at off new file) p.blockno)
  trimmed-overwritten full =
      let part : List ℕ = take p.len (drop p.from new) in
      let block : List ℕ = block_of size file p.blockno in
      let long : length part ≡ p.len = length-take-le p.len (drop p.from new) (omega (arith, is.until, length-drop p.from new)) in
      ap trimmed (sym (patched-whole p.at part block (omega (arith, is.within, full)) (omega (arith, long, full, length-block_of size p.blockno file)))
      ∙ sym (block_of-written_at off size k new file p is))
      ∙ trimmed-block_of size p.blockno (written_at off new file)

-- a block before a write
pub trimmed-before_write : (off size n : ℕ) (new file : List ℕ) → 0 < size → n < off / size
    → trimmed (piece_of size file n) ≡ trimmed (piece_of size (written_at off new file) n)
trimmed-before_write off size n new file some early =
    sym (trimmed-block_of size n file)
    ∙ ap trimmed (sym (block_of-written_elsewhere off size n new file some (inl early)))
    ∙ trimmed-block_of size n (written_at off new file)

-- a block of a file that becomes longer
pub trimmed-longer : (longer size n : ℕ) (file : List ℕ) → length file ≤ longer → trimmed (piece_of size file n) ≡ trimmed (piece_of size (resized longer file) n)
trimmed-longer longer size n file grows =
    let all : resized longer file ≡ padded longer file = take_all longer (padded longer file) (omega (arith, length-padded longer file)) in
    sym (trimmed-block_of size n file)
    ∙ ap trimmed (sym (block_of-padded longer size n file) ∙ ap (λ (xs : List ℕ). block_of size xs n) (sym all))
    ∙ trimmed-block_of size n (resized longer file)

-- a block in which a file is to end
pub trimmed-cut : (longer size n keep : ℕ) (file : List ℕ) → keep ≡ min (rest_of size (length file) n) (longer - n * size)
    → trimmed (take keep (piece_of size file n)) ≡ trimmed (piece_of size (resized longer file) n)
trimmed-cut longer size n keep file is =
    let m : ℕ = longer - n * size in
    let piece : List ℕ = piece_of size file n in
    let count : keep ≡ min m (length piece) = omega (arith, is, length-piece_of size n file) in
    let cut : block_of size (resized longer file) n ≡ cut_at m (block_of size file n) =
    block_of-take longer size n (padded longer file) ∙ ap (cut_at m) (block_of-padded longer size n file) in
    ap (λ c. trimmed (take c piece)) count
    ∙ ap trimmed (take_min m piece)
    ∙ trimmed-agree (take m piece) (take m (block_of size file n)) (take-agree m piece (block_of size file n) (λ i low. sym (get_or-padded size piece i)))
    ∙ sym (trimmed-padded (length (block_of size file n)) (take m (block_of size file n)))
    ∙ ap trimmed (sym cut)
    ∙ trimmed-block_of size n (resized longer file)
