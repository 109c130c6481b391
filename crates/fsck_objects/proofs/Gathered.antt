-- Keys, blocks and numbers that are gathered one after the other.
use Rattle.std.proofs.Common.{◌≡◌, ℕ, ◌==◌, List, [], ◌∷◌, ◌++◌, map, Bool, true, false, Option, None, Some, cond, max, refl, sym, ap, ◌∙◌, append_assoc, arith}
use Rattle.std.specs.Prelude.{◌||◌, filter}
use Rattle.std.specs.List.{filter_map}
use Rattle.s3_rows.specs.Rows.{Block}
use Rattle.s3_devices.specs.declared.key_list.KeyItem.{KeyItem}
use Rattle.fsck_findings.specs.Work.{above}
use Rattle.fsck_findings.proofs.InUse.{above_positive}
use Rattle.fsck_objects.specs.Listed.{is_key_of, listed_length, or_else}
use Rattle.fsck_objects.specs.Missing.{is_of_block}
use Rattle.fsck_objects.specs.Numbers.{numbers_of}

-- ---- lengths

pub length_none : (keys : List KeyItem) (q : ℕ) (found : Option ℕ) → found ≡ None → or_else found (listed_length keys q) ≡ listed_length keys q
length_none keys q found is = ap (λ f. or_else f (listed_length keys q)) is

or_else-or_else : (first : Option ℕ) (b : Bool) (n : ℕ) (rest : Option ℕ)
    → or_else (or_else first (cond b (Some n) None)) rest ≡ or_else first (cond b (Some n) rest)
or_else-or_else (Some m) b n rest = refl
or_else-or_else None true n rest = refl
or_else-or_else None false n rest = refl

-- a key more
pub length_more : (k : KeyItem) (left keys : List KeyItem) (q : ℕ) (before after : Option ℕ)
    → or_else before (listed_length (k ∷ left) q) ≡ listed_length keys q
    → after ≡ or_else before (cond (is_key_of q k) (Some k.len) None)
    → or_else after (listed_length left q) ≡ listed_length keys q
length_more k left keys q before after all is =
    ap (λ f. or_else f (listed_length left q)) is ∙ or_else-or_else before (is_key_of q k) k.len (listed_length left q) ∙ all

pub length_end : (keys : List KeyItem) (q : ℕ) (found : Option ℕ) → or_else found None ≡ listed_length keys q → found ≡ listed_length keys q
length_end keys q (Some n) all = all
length_end keys q None all = all

-- ---- objects of blocks

pub named_none : (blocks : List Block) (q : ℕ) (found : Bool) → found ≡ false → (found || is_of_block blocks q) ≡ is_of_block blocks q
named_none blocks q found is = ap (λ f. f || is_of_block blocks q) is

or_or : (a b c : Bool) → ((a || b) || c) ≡ (a || (b || c))
or_or true b c = refl
or_or false b c = refl

-- a block more
pub named_more : (r : Block) (left blocks : List Block) (q : ℕ) (before after : Bool)
    → (before || is_of_block (r ∷ left) q) ≡ is_of_block blocks q → after ≡ (before || r.object == q)
    → (after || is_of_block left q) ≡ is_of_block blocks q
named_more r left blocks q before after all is =
    ap (λ f. f || is_of_block left q) is ∙ or_or before (r.object == q) (is_of_block left q) ∙ all

pub named_end : (blocks : List Block) (q : ℕ) (found : Bool) → (found || false) ≡ is_of_block blocks q → found ≡ is_of_block blocks q
named_end blocks q true all = all
named_end blocks q false all = all

-- ---- numbers

pub above-filter_map : {R : Type 0} (f : R → Option ℕ) (x : R) (xs : List R)
    → above (filter_map f (x ∷ xs)) ≡ max (above (numbers_of (f x))) (above (filter_map f xs))
above-filter_map f x xs = by_case (f x) refl
  where
    by_case : (o : Option ℕ) → f x ≡ o → above (filter_map f (x ∷ xs)) ≡ max (above (numbers_of o)) (above (filter_map f xs))
    by_case (Some n) is = rw is (omega (arith, above_positive (filter_map f xs)))
    by_case None is = rw is (omega (arith, above_positive (filter_map f xs)))

pub filter_map-some : {R : Type 0} (f : R → ℕ) (xs : List R) → filter_map (λ r. Some (f r)) xs ≡ map f xs
filter_map-some f [] = refl
filter_map-some f (x ∷ xs) = ap (λ ys. f x ∷ ys) (filter_map-some f xs)

-- ---- rows that pass a test

-- a row more that passes, and one that does not
pub kept_more : {R A : Type 0} (f : R → A) (test : R → Bool) (x : R) (left : List R) (before all : List A)
    → before ++ map f (filter test (x ∷ left)) ≡ all → test x ≡ true → (before ++ f x ∷ []) ++ map f (filter test left) ≡ all
kept_more f test x left before all is passes =
    append_assoc before (f x ∷ []) (map f (filter test left))
    ∙ sym (ap (λ b. before ++ map f (cond b (x ∷ filter test left) (filter test left))) passes) ∙ is

pub kept_less : {R A : Type 0} (f : R → A) (test : R → Bool) (x : R) (left : List R) (before all : List A)
    → before ++ map f (filter test (x ∷ left)) ≡ all → test x ≡ false → before ++ map f (filter test left) ≡ all
kept_less f test x left before all is fails = sym (ap (λ b. before ++ map f (cond b (x ∷ filter test left) (filter test left))) fails) ∙ is
