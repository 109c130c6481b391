-- The trimmed form of bytes.
use Rattle.std.proofs.Common.{◌≡◌, ◌≢◌, ℕ, zero, suc, ◌+◌, ◌-◌, ◌<◌, ◌≤◌, List, [], ◌∷◌, ◌++◌, length, take, replicate, Bool, true, false, cond, refl, sym, ap, ◌∙◌, get_or, arith, length-append}
use Rattle.std.specs.Prelude.{◌==◌}
use Rattle.std.proofs.lemmas.Bool.Decides.{nat_tests}
use Rattle.std.proofs.Math.Seq.{take-suc}
use Rattle.block_math.specs.Blocks.{piece_of, block_of, before_trimmed, trimmed}
use Rattle.block_math.specs.Changes.{padded}

none_from_test : (n : ℕ) → (n == 0) ≡ true → n ≡ 0
none_from_test n is = grind (arith, nat_tests)

sub_none : (n : ℕ) → n ≡ n - 0
sub_none n = omega arith

trimmed-zeros : (n : ℕ) → trimmed (replicate n 0) ≡ []
trimmed-zeros zero = refl
trimmed-zeros (suc n) = ap (before_trimmed 0) (trimmed-zeros n)

-- what trims to nothing changes no trimmed form
pub trimmed-append : (bytes more : List ℕ) → trimmed more ≡ [] → trimmed (bytes ++ more) ≡ trimmed bytes
trimmed-append [] more none = none
trimmed-append (b ∷ bs) more none = ap (before_trimmed b) (trimmed-append bs more none)

pub trimmed-padded : (size : ℕ) (bytes : List ℕ) → trimmed (padded size bytes) ≡ trimmed bytes
trimmed-padded size bytes = trimmed-append bytes _ (trimmed-zeros (size - length bytes))

pub trimmed-block_of : (size n : ℕ) (bytes : List ℕ) → trimmed (block_of size bytes n) ≡ trimmed (piece_of size bytes n)
trimmed-block_of size n bytes = trimmed-padded size (piece_of size bytes n)

before_some : (b : ℕ) (bs : List ℕ) → 0 < length bs → before_trimmed b bs ≡ b ∷ bs
before_some b [] some = absurd (omega arith)
before_some b (x ∷ xs) some = refl

-- bytes whose last one is not zero
pub trimmed-push : (bytes : List ℕ) (last : ℕ) → (last == 0) ≡ false → trimmed (bytes ++ last ∷ []) ≡ bytes ++ last ∷ []
trimmed-push [] last some = ap (λ b. cond b [] (last ∷ [])) some
trimmed-push (b ∷ bs) last some =
    ap (before_trimmed b) (trimmed-push bs last some) ∙ before_some b (bs ++ last ∷ []) (omega (arith, length-append bs (last ∷ [])))

trimmed-twice : (bytes : List ℕ) → trimmed (trimmed bytes) ≡ trimmed bytes
trimmed-twice [] = refl
trimmed-twice (b ∷ bs) = by_case (trimmed bs) (trimmed-twice bs)
  where
    of_none : (c : Bool) → (b == 0) ≡ c → trimmed (cond c [] (b ∷ [])) ≡ cond c [] (b ∷ [])
    of_none true is = refl
    of_none false is = ap (λ d. cond d [] (b ∷ [])) is

    by_case : (form : List ℕ) → trimmed form ≡ form → trimmed (before_trimmed b form) ≡ before_trimmed b form
    by_case [] same = of_none (b == 0) refl
    by_case (x ∷ xs) same = ap (before_trimmed b) same

length-trimmed : (bytes : List ℕ) → length (trimmed bytes) ≤ length bytes
length-trimmed [] = omega arith
length-trimmed (b ∷ bs) = by_case (trimmed bs) (length-trimmed bs)
  where
    of_none : (c : Bool) → length (cond c [] (b ∷ [])) ≤ suc (length bs)
    of_none true = omega arith
    of_none false = omega arith

    by_case : (form : List ℕ) → length form ≤ length bs → length (before_trimmed b form) ≤ suc (length bs)
    by_case [] short = of_none (b == 0)
    by_case (x ∷ xs) short = omega arith

pub trimmed-end : (bytes front : List ℕ) → trimmed bytes ≢ front ++ 0 ∷ []
trimmed-end bytes front is =
    let same : front ++ 0 ∷ [] ≡ trimmed front = sym is ∙ sym (trimmed-twice bytes) ∙ ap trimmed is ∙ trimmed-append front (0 ∷ []) refl in
    let short : length (trimmed front) ≤ length front = length-trimmed front in
    let long : length (front ++ 0 ∷ []) ≡ length front + 1 = length-append front (0 ∷ []) in
    let tied : length (front ++ 0 ∷ []) ≡ length (trimmed front) = ap length same in
    omega arith

-- zeros make the bytes of their trimmed form again
pub padded-trimmed : (bytes : List ℕ) → padded (length bytes) (trimmed bytes) ≡ bytes
padded-trimmed [] = refl
padded-trimmed (b ∷ bs) = by_case (trimmed bs) (padded-trimmed bs)
  where
    of_none : (c : Bool) → (b == 0) ≡ c → replicate (length bs - 0) 0 ≡ bs → padded (suc (length bs)) (cond c [] (b ∷ [])) ≡ b ∷ bs
    of_none true is rest =
        let none : 0 ≡ b = sym (none_from_test b is) in
        let fewer : replicate (length bs) 0 ≡ bs = ap (λ m. replicate m 0) (sub_none (length bs)) ∙ rest in
        let more : suc (length bs) - 0 ≡ suc (length bs) = omega arith in
        ap (λ m. replicate m 0) more ∙ ap (λ zeros. 0 ∷ zeros) fewer ∙ ap (λ x. x ∷ bs) none
    of_none false is rest =
        let more : suc (length bs) - 1 ≡ length bs - 0 = omega arith in
        ap (λ m. b ∷ replicate m 0) more ∙ ap (λ zeros. b ∷ zeros) rest

    by_case : (form : List ℕ) → padded (length bs) form ≡ bs → padded (suc (length bs)) (before_trimmed b form) ≡ b ∷ bs
    by_case [] rest = of_none (b == 0) refl rest
    by_case (x ∷ xs) rest =
        let fewer : suc (length bs) - suc (suc (length xs)) ≡ length bs - suc (length xs) = omega arith in
        ap (λ m. b ∷ x ∷ (xs ++ replicate m 0)) fewer ∙ ap (λ zeros. b ∷ zeros) rest

-- ---- one byte less

take_last : (bytes : List ℕ) (n : ℕ) → 0 < n → n ≤ length bytes → take n bytes ≡ take (n - 1) bytes ++ get_or bytes (n - 1) 0 ∷ []
take_last bytes n some low =
    let last : n ≡ suc (n - 1) = omega arith in
    ap (λ m. take m bytes) last ∙ take-suc bytes (n - 1) 0 (omega arith)

pub trimmed_less : (bytes : List ℕ) (n : ℕ) → 0 < n → n ≤ length bytes → get_or bytes (n - 1) 0 ≡ 0
    → trimmed (take (n - 1) bytes) ≡ trimmed (take n bytes)
trimmed_less bytes n some low none =
    sym (ap trimmed (take_last bytes n some low)
    ∙ ap (λ x. trimmed (take (n - 1) bytes ++ x ∷ [])) none
    ∙ trimmed-append (take (n - 1) bytes) (0 ∷ []) refl)

some_from_test : (n : ℕ) → n ≢ 0 → (n == 0) ≡ false
some_from_test n differ = grind (arith, nat_tests)

pub trimmed_here : (bytes : List ℕ) (n : ℕ) → 0 < n → n ≤ length bytes → get_or bytes (n - 1) 0 ≢ 0 → trimmed (take n bytes) ≡ take n bytes
trimmed_here bytes n some low differ =
    ap trimmed (take_last bytes n some low)
    ∙ trimmed-push (take (n - 1) bytes) (get_or bytes (n - 1) 0) (some_from_test _ differ)
    ∙ sym (take_last bytes n some low)
