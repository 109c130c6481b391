-- Which of the changed blocks are loaded, and lists of new blocks.
use Rattle.std.proofs.Common.{◌≡◌, ◌≢◌, ◌⊎◌, inl, inr, ℕ, ◌+◌, ◌-◌, ◌*◌, ◌/◌, ◌%◌, ◌<◌, ◌≤◌, List, [], ◌∷◌, ◌++◌, Bool, true, false, cond, length, get_or, min, refl, sym, ap, ◌∙◌, subst, arith, append_assoc}
use Rattle.std.specs.Prelude.{◌==◌, ◌&&◌, not, nat_le, nat_lt, if◌then◌else◌, All, Contains, Result, Ok, Err, IfOk, IfErr}
use Rattle.std.specs.List.{filter}
use Rattle.std.proofs.Math.Nat.{mul-le-mul_right, div-mul-le_self}
use Rattle.std.proofs.lemmas.Bool.Decides.{nat_tests}
use Rattle.std.proofs.lemmas.List.{map_push}
use Rattle.std.proofs.lemmas.List.Elements.{All-contains, All-push, All-same, Contains-append_left, Contains-append_right, filter_passes}
use Rattle.block_math.specs.Changes.{resized, written_at}
use Rattle.block_math.specs.Ranges.{IsPiece, piece_count}
use Rattle.block_math.specs.declared.parts.Piece.{Piece}
use Rattle.core_model.specs.Changes.{blocks_of_resize, is_overwritten, numbers_from, tail_before, tail_of}
use Rattle.core_model.proofs.Elements.{Contains-cases, Contains-first, Contains-later, Contains-none}
use Rattle.file_ops.specs.NewBlocks.{AreBlocksOf, numbers_of}
use Rattle.file_ops.specs.declared.new_block.NewBlock.{NewBlock}
use Rattle.file_ops.proofs.Ranges.{numbers_from-more}
use Rattle.file_ops.proofs.Trimmed.{trimmed-before_write, trimmed-longer}

-- ---- answers

pub IfOk-both : {T E : Type 0} (P Q R : T → Type 0) → ((x : T) → P x → Q x → R x) → (r : Result T E) → IfOk r P → IfOk r Q → IfOk r R
IfOk-both P Q R follows (Ok x) p q = follows x p q
IfOk-both P Q R follows (Err e) p q = tt

pub IfErr-weaker : {T E : Type 0} (P Q : E → Type 0) → ((e : E) → P e → Q e) → (r : Result T E) → IfErr r P → IfErr r Q
IfErr-weaker P Q follows (Ok x) p = tt
IfErr-weaker P Q follows (Err e) p = follows e p

-- ---- filters

pub Contains-filter : (p : ℕ → Bool) (xs : List ℕ) (n : ℕ) → p n ≡ true → Contains xs n → Contains (filter p xs) n
Contains-filter p [] n passes there = absurd (Contains-none n there)
Contains-filter p (x ∷ xs) n passes there = by_case (Contains-filter p xs n passes) (Contains-cases x xs n there)
  where
    later : (b : Bool) → Contains (filter p xs) n → Contains (cond b (x ∷ filter p xs) (filter p xs)) n
    later true rest = Contains-later x (filter p xs) n rest
    later false rest = rest

    by_case : (Contains xs n → Contains (filter p xs) n) → (x ≡ n) ⊎ Contains xs n → Contains (cond (p x) (x ∷ filter p xs) (filter p xs)) n
    by_case others (inl same) =
        let own : p x ≡ true = ap p same ∙ passes in
        let first : Contains (x ∷ filter p xs) n = subst (Contains (x ∷ filter p xs)) same (Contains-first x (filter p xs)) in
        subst (λ b. Contains (cond b (x ∷ filter p xs) (filter p xs)) n) (sym own) first
    by_case others (inr rest) = later (p x) (others rest)

le_from_test : (a b : ℕ) → nat_le a b ≡ true → a ≤ b
le_from_test a b is = grind (arith, nat_tests)

lt_from_test : (a b : ℕ) → nat_lt a b ≡ true → a < b
lt_from_test a b is = grind (arith, nat_tests)

test_from_lt : (a b : ℕ) → b < a → nat_le a b ≡ false
test_from_lt a b less = grind (arith, nat_tests)

-- ---- blocks that are not overwritten

-- a piece that is shorter than a block is not all of it
pub not_overwritten-piece : (off size k count : ℕ) (p : Piece) → IsPiece off count size k p → p.len ≢ size → not (is_overwritten size off count p.blockno) ≡ true
not_overwritten-piece off size k count p is part =
    by_case (nat_le off (p.blockno * size)) (nat_le ((p.blockno + 1) * size) (off + count)) refl refl
  where
    whole : off ≤ p.blockno * size → (p.blockno + 1) * size ≤ off + count → p.len ≡ size
    whole low high =
        let start : p.blockno * size ≡ (off / size + k) * size = ap (λ m. m * size) is.blockno in
        let next : (off / size + (k + 1)) * size ≡ (off / size + k) * size + size = omega arith in
        let own : (p.blockno + 1) * size ≡ p.blockno * size + size = omega arith in
        let from : p.from ≡ (off / size + k) * size - off = is.from in
        let until : p.from + p.len ≡ min count ((off / size + (k + 1)) * size - off) = is.until in
        omega (arith, start, next, own, from, until)

    by_case : (a b : Bool) → nat_le off (p.blockno * size) ≡ a → nat_le ((p.blockno + 1) * size) (off + count) ≡ b → not (a && b) ≡ true
    by_case true true low high =
        absurd (part (whole (le_from_test off (p.blockno * size) low) (le_from_test ((p.blockno + 1) * size) (off + count) high)))
    by_case true false low high = refl
    by_case false b low high = refl

-- nor is a block before the first that a write touches
pub not_overwritten-before : (off size n count : ℕ) → 0 < size → n < off / size → not (is_overwritten size off count n) ≡ true
not_overwritten-before off size n count some early =
    let begin : (n + 1) * size ≤ off / size * size = mul-le-mul_right size (omega arith) in
    let end : off / size * size ≤ off = div-mul-le_self off size in
    let own : (n + 1) * size ≡ n * size + size = omega arith in
    let none : nat_le off (n * size) ≡ false = test_from_lt off (n * size) (omega (arith, some, begin, end, own)) in
    ap (λ b. not (b && nat_le ((n + 1) * size) (off + count))) none

-- the tail is before the first block of what is changed anyway
pub tail_before-lt : (size len longer first n : ℕ) (stored : ℕ → ℕ) → Contains (tail_before size len longer first stored) n → n < first
tail_before-lt size len longer first n stored there = by_case (nat_lt len longer) there
  where
    by_case : (b : Bool) → Contains (if b then filter (λ m. nat_lt m first) (tail_of size len stored) else []) n → n < first
    by_case true is =
        lt_from_test n first
        (All-contains (λ m. nat_lt m first ≡ true) (filter (λ m. nat_lt m first) (tail_of size len stored)) n (filter_passes (λ m. nat_lt m first) (tail_of size len stored)) is)
    by_case false is = absurd (Contains-none n is)

-- ---- where changed blocks begin

begins-before : (off size n end : ℕ) → 0 < size → off ≤ end → n < off / size → n * size < end
begins-before off size n end some within early =
    let begin : (n + 1) * size ≤ off / size * size = mul-le-mul_right size (omega arith) in
    let last : off / size * size ≤ off = div-mul-le_self off size in
    let own : (n + 1) * size ≡ n * size + size = omega arith in
    omega (arith, some, within, begin, last, own)

-- those before the first that a change touches begin before its end
pub All-begin : (off size end : ℕ) (blocks : List NewBlock) → 0 < size → off ≤ end → All (λ b. b.blockno < off / size) blocks → All (λ b. b.blockno * size < end) blocks
All-begin off size end blocks some within before = λ k d low. begins-before off size (get_or blocks k d).blockno end some within (before k d low)

some_count : (n : ℕ) → (n == 0) ≡ false → 0 < n
some_count n is = grind (arith, nat_tests)

-- and so does each that a write touches
pub begins-piece : (off size k count : ℕ) → k < piece_count off count size → (off / size + k) * size < off + count
begins-piece off size k count low = by_case (count == 0) refl low
  where
    by_case : (b : Bool) → (count == 0) ≡ b → k < (if b then 0 else (off + count - 1) / size + 1 - off / size) → (off / size + k) * size < off + count
    by_case true is less = absurd (omega arith)
    by_case false is less =
        let some : 0 < count = some_count count is in
        let number : off / size + k ≤ (off + count - 1) / size = omega arith in
        let begin : (off / size + k) * size ≤ (off + count - 1) / size * size = mul-le-mul_right size number in
        let last : (off + count - 1) / size * size ≤ off + count - 1 = div-mul-le_self (off + count - 1) size in
        omega (arith, begin, last, some)

-- the block that a new end lies within begins before it
pub begins-last : (longer size : ℕ) → 0 < size → longer % size ≢ 0 → longer / size * size < longer
begins-last longer size some within =
    let last : longer / size * size ≤ longer = div-mul-le_self longer size in
    omega (arith, some, within, last)

-- ---- what another length changes

module _ (size longer len : ℕ) (stored : ℕ → ℕ) where
  pub Contains-resize_tail : (n : ℕ) → Contains (tail_before size len longer (longer / size) stored) n → Contains (blocks_of_resize size longer len stored) n
  Contains-resize_tail n there = by_case (longer % size == 0)
    where
      by_case : (b : Bool) → Contains (if b then tail_before size len longer (longer / size) stored else tail_before size len longer (longer / size) stored ++ longer / size ∷ []) n
      by_case true = there
      by_case false = Contains-append_left (tail_before size len longer (longer / size) stored) (longer / size ∷ []) n there

  pub Contains-resize_last : longer % size ≢ 0 → Contains (blocks_of_resize size longer len stored) (longer / size)
  Contains-resize_last within = by_case (longer % size == 0) refl
    where
      by_case : (b : Bool) → (longer % size == 0) ≡ b
          → Contains (if b then tail_before size len longer (longer / size) stored else tail_before size len longer (longer / size) stored ++ longer / size ∷ []) (longer / size)
      by_case true is = absurd (within (grind (arith, nat_tests)))
      by_case false is = Contains-append_right (tail_before size len longer (longer / size) stored) (longer / size ∷ []) (longer / size) (Contains-first (longer / size) [])

-- ---- lists of new blocks

pub numbers_of-push : (blocks after : List NewBlock) (block : NewBlock) (front : List ℕ) (first k : ℕ) → after ≡ blocks ++ block ∷ [] → block.blockno ≡ first + k
    → numbers_of blocks ≡ front ++ numbers_from first k → numbers_of after ≡ front ++ numbers_from first (k + 1)
numbers_of-push blocks after block front first k pushed own so_far =
    ap numbers_of pushed
    ∙ map_push (λ b. b.blockno) blocks block
    ∙ ap (λ (xs : List ℕ). xs ++ block.blockno ∷ []) so_far
    ∙ ap (λ n. front ++ numbers_from first k ++ n ∷ []) own
    ∙ append_assoc front (numbers_from first k) ((first + k) ∷ [])
    ∙ ap (λ (xs : List ℕ). front ++ xs) (sym (numbers_from-more first k))

-- one new block more, of which the fact holds
pub All-pushed : (P : NewBlock → Type 0) (blocks after : List NewBlock) (block : NewBlock) → after ≡ blocks ++ block ∷ [] → All P blocks → P block → All P after
All-pushed P blocks after block pushed all own = All-same P after (blocks ++ block ∷ []) pushed (All-push P blocks block all own)

pub AreBlocksOf-before_write : (off size : ℕ) (new file : List ℕ) (blocks : List NewBlock) → 0 < size → All (λ b. b.blockno < off / size) blocks
    → AreBlocksOf size file blocks → AreBlocksOf size (written_at off new file) blocks
AreBlocksOf-before_write off size new file blocks some before same =
    λ k d low. same k d low ∙ trimmed-before_write off size _ new file some (before k d low)

pub AreBlocksOf-longer : (longer size len : ℕ) (file : List ℕ) (blocks : List NewBlock) → length file ≡ len → All (λ b. len < longer) blocks
    → AreBlocksOf size file blocks → AreBlocksOf size (resized longer file) blocks
AreBlocksOf-longer longer size len file blocks long grows same =
    λ k d low.
    let more : len < longer = grows k d low in
    same k d low ∙ trimmed-longer longer size _ file (omega arith)
