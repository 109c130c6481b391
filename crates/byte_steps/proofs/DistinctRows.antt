-- Lists of different keys, and when two of them are equally long.
use Rattle.std.proofs.Common.{◌≡◌, ◌≤◌, List, [], ◌∷◌, map, length, Bool, true, false, refl, sym, ap, ◌∙◌, arith}
use Rattle.std.specs.Prelude.{IsTrue, not}
use Rattle.std.specs.List.{list_all, list_any, AllByRecursion, IsDistinct}
use Rattle.std.specs.Cmp.{IsTotalOrder}
use Rattle.std.specs.Ordering.{eq_by_cmp, is_eq}
use Rattle.std.specs.declared.cmp.Ordering.{Ordering}
use Rattle.std.specs.Set.{distinct_count, is_member}
use Rattle.std.proofs.lemmas.Bool.{and_parts, or_parts}
use Rattle.std.proofs.lemmas.Cmp.{eq_by_cmp_equiv}
use Rattle.std.proofs.lemmas.List.{length-map}
use Rattle.std.proofs.lemmas.Map.Made.{length-from_keys, length-le_from_is_member}
use Rattle.s3_rows.specs.Keyed.{Order, is_past, rises}
use Rattle.s3_rows.specs.Validity.{differ}
use Rattle.row_lemmas.proofs.Tests.{false_from_not, less_from_is_lt, list_any-map}
use Rattle.row_lemmas.proofs.Keyed.Rises.{rises_head, rises_tail}

-- ---- different keys

-- rows that rise have different keys
pub IsDistinct-rises : {K R : Type 0} (o : Order K R) (rows : List R) → IsTrue (rises o rows) → IsDistinct (eq_by_cmp o.compare) (map o.key rows)
unfolding IsDistinct
IsDistinct-rises o [] up = tt
IsDistinct-rises {K} {R} o (r ∷ rs) up = (apart rs (rises_head o r rs up), IsDistinct-rises o rs (rises_tail o r rs up))
  where
    apart : (xs : List R) → IsTrue (list_all (is_past o (o.key r)) xs) → AllByRecursion (λ k. eq_by_cmp o.compare (o.key r) k ≡ false) (map o.key xs)
    apart [] all = tt
    apart (x ∷ xs) all =
        let parts : IsTrue (is_past o (o.key r) x) × IsTrue (list_all (is_past o (o.key r)) xs) = and_parts (is_past o (o.key r) x) (list_all (is_past o (o.key r)) xs) all in
        (ap is_eq (less_from_is_lt (o.compare (o.key r) (o.key x)) parts.0), apart xs parts.1)

-- and so have rows of which no two are alike
pub IsDistinct-differ : {K R : Type 0} (eq : K → K → Bool) (alike : R → R → Bool) (key : R → K) → ((a b : R) → eq (key a) (key b) ≡ alike a b)
    → (rows : List R) → IsTrue (differ alike rows) → IsDistinct eq (map key rows)
unfolding IsDistinct
IsDistinct-differ eq alike key same [] unlike = tt
IsDistinct-differ {K} {R} eq alike key same (r ∷ rs) unlike =
    let parts : IsTrue (not (list_any (alike r) rs)) × IsTrue (differ alike rs) = and_parts (not (list_any (alike r) rs)) (differ alike rs) unlike in
    (apart rs (false_from_not (list_any (alike r) rs) parts.0), IsDistinct-differ eq alike key same rs parts.1)
  where
    apart : (xs : List R) → list_any (alike r) xs ≡ false → AllByRecursion (λ k. eq (key r) k ≡ false) (map key xs)
    apart [] none = tt
    apart (x ∷ xs) none =
        let parts : (alike r x ≡ false) × (list_any (alike r) xs ≡ false) = or_parts (alike r x) (list_any (alike r) xs) none in
        (same r x ∙ parts.0, apart xs parts.1)

-- ---- as many

module _ {K R S : Type 0} (compare : K → K → Ordering) (total : IsTotalOrder compare) (f : R → K) (g : S → K) (rows : List R) (others : List S) where
  -- each key of the rows is one of the others
  abbrev pub AreAmong : Type 0
  AreAmong = (q : K) → IsTrue (list_any (λ r. is_eq (compare q (f r))) rows) → IsTrue (list_any (λ s. is_eq (compare q (g s))) others)

  -- as members of lists of keys
  pub members_among : AreAmong → (q : K) → is_member (eq_by_cmp compare) (map f rows) q ≡ true → is_member (eq_by_cmp compare) (map g others) q ≡ true
  members_among within q is = sym (list_any-map (eq_by_cmp compare q) g others) ∙ within q (list_any-map (eq_by_cmp compare q) f rows ∙ is)

  pub length_among : IsDistinct (eq_by_cmp compare) (map f rows) → AreAmong → length rows ≤ length others
  length_among distinct within =
      omega (
        arith,
        length-le_from_is_member (eq_by_cmp_equiv total) (map f rows) (map g others) distinct (members_among within),
        length-map rows f,
        length-map others g,
      )

module _ {K R S : Type 0} (compare : K → K → Ordering) (total : IsTotalOrder compare) (f : R → K) (g : S → K) (rows : List R) (others : List S)
    (within : AreAmong compare total f g rows others) (back : AreAmong compare total g f others rows) where
  -- different keys of either are as many where each is one of the other's
  pub length-same_keys : IsDistinct (eq_by_cmp compare) (map f rows) → IsDistinct (eq_by_cmp compare) (map g others) → length rows ≡ length others
  length-same_keys distinct apart =
      omega (arith, length_among compare total f g rows others distinct within, length_among compare total g f others rows apart back)

  same_members : (q : K) → is_member (eq_by_cmp compare) (map f rows) q ≡ is_member (eq_by_cmp compare) (map g others) q
  same_members q = by_test (is_member (eq_by_cmp compare) (map f rows) q) (is_member (eq_by_cmp compare) (map g others) q) refl refl
    where
      by_test : (a b : Bool) → is_member (eq_by_cmp compare) (map f rows) q ≡ a → is_member (eq_by_cmp compare) (map g others) q ≡ b → a ≡ b
      by_test true b here there = sym (members_among compare total f g rows others within q here) ∙ there
      by_test false true here there =
          let clash : true ≡ false = sym (members_among compare total g f others rows back q there) ∙ here in
          absurd (cc clash)
      by_test false false here there = refl

  -- and as many as the different keys of the other where only those of the first differ
  pub length-distinct_count : IsDistinct (eq_by_cmp compare) (map f rows) → length rows ≡ distinct_count (eq_by_cmp compare) (map g others)
  length-distinct_count distinct = sym (length-map rows f) ∙ length-from_keys (eq_by_cmp_equiv total) (map f rows) (map g others) distinct same_members
