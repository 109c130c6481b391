-- The greatest number of several lists.
use Rattle.std.proofs.Common.{◌≡◌, ℕ, List, [], ◌∷◌, ◌++◌, max, sym, ap, ◌∙◌, arith}
use Rattle.s3_base.specs.Numbers.{root}
use Rattle.fsck_names.specs.Numbers.{greatest}

pub greatest-append : (xs ys : List ℕ) → greatest (xs ++ ys) ≡ max (greatest xs) (greatest ys)
greatest-append [] ys = omega arith
greatest-append (x ∷ xs) ys = ap (max x) (greatest-append xs ys) ∙ regroup x (greatest xs) (greatest ys)
  where
    regroup : (a b c : ℕ) → max a (max b c) ≡ max (max a b) c
    regroup a b c = omega arith

-- one list after the other, the last of them first
pub greatest_of_three : (names entries attrs : List ℕ) (a b c : ℕ) → a ≡ max 0 (greatest attrs) → b ≡ max a (greatest names)
    → c ≡ max b (greatest entries) → c ≡ greatest (names ++ entries ++ attrs)
greatest_of_three names entries attrs a b c first second third =
    omega (arith, greatest-append (names ++ entries) attrs, greatest-append names entries)

-- the last list is done
done : (front last : List ℕ) (a b : ℕ) → b ≡ max a (greatest last) → max a (greatest (front ++ last)) ≡ max b (greatest front)
done front last a b is = omega (arith, greatest-append front last)

pub greatest_of_seven : (ids parents entries blocks targets attrs slots : List ℕ) (a b c d e f g : ℕ) → a ≡ max 1 (greatest slots)
    → b ≡ max a (greatest attrs) → c ≡ max b (greatest targets) → d ≡ max c (greatest blocks) → e ≡ max d (greatest entries)
    → f ≡ max e (greatest parents) → g ≡ max f (greatest ids)
    → g ≡ greatest (root ∷ ids ++ parents ++ entries ++ blocks ++ targets ++ attrs ++ slots)
greatest_of_seven ids parents entries blocks targets attrs slots a b c d e f g one two three four five six seven =
    seven
    ∙ sym (done ids parents e f six)
    ∙ sym (done (ids ++ parents) entries d e five)
    ∙ sym (done (ids ++ parents ++ entries) blocks c d four)
    ∙ sym (done (ids ++ parents ++ entries ++ blocks) targets b c three)
    ∙ sym (done (ids ++ parents ++ entries ++ blocks ++ targets) attrs a b two)
    ∙ sym (done (ids ++ parents ++ entries ++ blocks ++ targets ++ attrs) slots 1 a one)
