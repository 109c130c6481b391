-- The bytes of a file that blocks show, piece by piece.
use Rattle.std.proofs.Common.{◌≡◌, ℕ, zero, suc, ◌+◌, ◌-◌, ◌*◌, ◌<◌, ◌≤◌, List, [], ◌∷◌, ◌++◌, length, take, drop, get_or, min, sym, ap, ◌∙◌, subst, arith, length-drop}
use Rattle.std.specs.Prelude.{Contains}
use Rattle.std.proofs.Math.Seq.{take-add}
use Rattle.std.proofs.lemmas.List.{drop-drop, ext_get_or, get_or-drop, get_or-take, length-take-le, take_min}
use Rattle.block_math.specs.Blocks.{piece_of}
use Rattle.block_math.specs.Changes.{resized}
use Rattle.block_math.proofs.LengthLemmas.{length-resized}
use Rattle.core_model.specs.Bytes.{Shows}
use Rattle.core_model.specs.Changes.{numbers_from}
use Rattle.core_model.proofs.Elements.{Contains-first, Contains-later}
use Rattle.core_model.proofs.Left.{get_or-piece_of, length-piece_of}
use Rattle.core_model.proofs.Shown.{get_or-resized}
use Rattle.plain_tree.specs.Files.{read_at}

-- a byte of a form that shows a piece is the byte of the file there
pub get_or-shown : (size n i : ℕ) (form file : List ℕ) → Shows (piece_of size file n) form → i < size → n * size + i < length file
    → get_or form i 0 ≡ get_or file (n * size + i) 0
get_or-shown size n i form file shows low inside =
    let here : i < length (piece_of size file n) = omega (arith, length-piece_of size n file) in
    sym (get_or-resized (length (piece_of size file n)) form i here)
    ∙ ap (λ (xs : List ℕ). get_or xs i 0) shows
    ∙ get_or-piece_of size n i file low

-- the part of a form that shows a piece is that of the file
pub resized-shown : (size n at len : ℕ) (form file : List ℕ) → Shows (piece_of size file n) form → at + len ≤ size → n * size + at + len ≤ length file
    → resized len (drop at form) ≡ read_at (n * size + at) len file
resized-shown size n at len form file shows within inside =
    let left : length (resized len (drop at form)) ≡ len = length-resized len (drop at form) in
    let right : length (take len (drop (n * size + at) file)) ≡ len = length-take-le len (drop (n * size + at) file) (omega (arith, length-drop (n * size + at) file)) in
    ext_get_or 0 (resized len (drop at form)) (take len (drop (n * size + at) file)) (left ∙ sym right)
    (λ i below.
    let low : i < len = omega arith in
    let place : n * size + (at + i) ≡ n * size + at + i = omega arith in
    get_or-resized len (drop at form) i low
    ∙ get_or-drop at form i 0
    ∙ get_or-shown size n (at + i) form file shows (omega arith) (omega arith)
    ∙ ap (λ m. get_or file m 0) place
    ∙ sym (get_or-drop (n * size + at) file i 0)
    ∙ sym (get_or-take len (drop (n * size + at) file) i 0 low))

-- a range is read in two parts
pub read_at-append : (off count more : ℕ) (file : List ℕ) → read_at off count file ++ read_at (off + count) more file ≡ read_at off (count + more) file
read_at-append off count more file =
    ap (λ (xs : List ℕ). take count (drop off file) ++ take more xs) (sym (drop-drop count off file)) ∙ sym (take-add count more (drop off file))

pub read_more : (off from count until place : ℕ) (file before after : List ℕ) → after ≡ before ++ read_at place count file → before ≡ read_at off from file
    → place ≡ off + from → from + count ≡ until → after ≡ read_at off until file
read_more off from count until place file before after is so_far there end =
    is
    ∙ ap (λ (xs : List ℕ). xs ++ read_at place count file) so_far
    ∙ ap (λ n. read_at off from file ++ read_at n count file) there
    ∙ read_at-append off from count file
    ∙ ap (λ n. read_at off n file) end

-- no more is read than there is
pub read_at-min : (off count size : ℕ) (file : List ℕ) → length file ≡ size → read_at off (min count (size - off)) file ≡ read_at off count file
read_at-min off count size file long =
    let left : size - off ≡ length (drop off file) = omega (arith, length-drop off file) in
    ap (λ n. take (min count n) (drop off file)) left ∙ take_min count (drop off file)

-- ---- numbers of blocks

pub Contains-numbers_from : (first count k : ℕ) → k < count → Contains (numbers_from first count) (first + k)
Contains-numbers_from first zero k low = absurd (omega arith)
Contains-numbers_from first (suc count) zero low =
    subst (Contains (first ∷ numbers_from (first + 1) count)) (omega arith) (Contains-first first (numbers_from (first + 1) count))
Contains-numbers_from first (suc count) (suc k) low =
    let place : first + 1 + k ≡ first + suc k = omega arith in
    subst (Contains (first ∷ numbers_from (first + 1) count)) place
    (Contains-later first (numbers_from (first + 1) count) (first + 1 + k) (Contains-numbers_from (first + 1) count k (omega arith)))

-- one number more
pub numbers_from-more : (first count : ℕ) → numbers_from first (count + 1) ≡ numbers_from first count ++ (first + count) ∷ []
numbers_from-more first zero =
    let one : first ≡ first + 0 = omega arith in
    ap (λ n. n ∷ []) one
numbers_from-more first (suc count) =
    let next : suc count + 1 ≡ suc (count + 1) = omega arith in
    let last : first + 1 + count ≡ first + suc count = omega arith in
    ap (numbers_from first) next ∙ ap (λ (xs : List ℕ). first ∷ xs) (numbers_from-more (first + 1) count ∙ ap (λ n. numbers_from (first + 1) count ++ n ∷ []) last)
