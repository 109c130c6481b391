-- Entries in the order of their names are the same where look-ups find the same; and places of inodes in a list that grows.
use Rattle.std.proofs.Common.{◌≡◌, ◌+◌, inl, inr, ℕ, List, [], ◌∷◌, ◌++◌, Bool, true, false, cond, None, Some, refl, sym, ap, ◌∙◌, arith, eq-eqb}
use Rattle.std.proofs.lemmas.Bool.{cond-false, or_parts}
use Rattle.std.proofs.lemmas.Cmp.{nat_list_cmp_total}
use Rattle.std.specs.BTreeMap.{is_at}
use Rattle.std.specs.Cmp.Lexicographic.{slice_cmp}
use Rattle.std.specs.FinMap.{nat_cmp-IsAntisymmetric, slice_cmp-IsAntisymmetric}
use Rattle.std.specs.Map.{keys_of, lookup}
use Rattle.std.specs.Ordering.{nat_cmp, ordering_reverse}
use Rattle.std.specs.Prelude.{◌==◌, ◌||◌, length}
use Rattle.std.specs.declared.cmp.Ordering.{Ordering}
use Rattle.std.specs.declared.cmp.Ordering.TheVariants.{Less, Equal, Greater}
use Rattle.plain_tree.specs.Below.{is_among}
use Rattle.plain_tree.specs.Names.{Rise, RiseFrom}
use Rattle.plain_tree.specs.Subtrees.{place_of}
use Rattle.tree_laws.proofs.Name.Reading.{first_name, name_above_found, name_not_below}
use Rattle.tree_laws.proofs.Name.Rise.{Rise-tail}
use Rattle.tree_laws.proofs.Node.Keys.{cases_name, other_name}
use Rattle.tree_laws.proofs.Node.Kind.{none_from, none_some}

-- ---- entries

abbrev compare : List ℕ → List ℕ → Ordering
compare = slice_cmp nat_cmp

flipped : (a b : List ℕ) → compare a b ≡ Greater → compare b a ≡ Less
flipped a b is = nat_list_cmp_total.antisymm b a ∙ ap ordering_reverse is

-- a name that is not above the first is none of the later ones
none_behind : (low name : List ℕ) (es : List (List ℕ × ℕ)) → RiseFrom low (keys_of es) → name ≡ low → lookup (is_at (compare name)) es ≡ None
none_behind low name es rise same =
    none_from (lookup (is_at (compare name)) es)
    (λ v found. name_not_below low (ap (compare low) (sym same) ∙ name_above_found low name es v rise found))

-- nor is one below the first
none_before : (e f : List ℕ × ℕ) (es fs : List (List ℕ × ℕ)) → RiseFrom f.0 (keys_of fs) → compare e.0 f.0 ≡ Less
    → lookup (is_at (compare e.0)) (e ∷ es) ≡ lookup (is_at (compare e.0)) (f ∷ fs) → ⊥
none_before e f es fs rise less same =
    let found : lookup (is_at (compare e.0)) (f ∷ fs) ≡ Some e.1 = sym same ∙ first_name e es in
    let clash : compare e.0 e.0 ≡ Less = name_above_found e.0 e.0 (f ∷ fs) e.1 (less, rise) found in
    name_not_below e.0 clash

pub same_entries : (es fs : List (List ℕ × ℕ)) → Rise (keys_of es) → Rise (keys_of fs)
    → ((m : List ℕ) → lookup (is_at (slice_cmp nat_cmp m)) es ≡ lookup (is_at (slice_cmp nat_cmp m)) fs) → es ≡ fs
same_entries [] [] up down same = refl
same_entries [] (f ∷ fs) up down same = absurd (none_some (lookup (is_at (compare f.0)) (f ∷ fs)) f.1 (sym (same f.0)) (first_name f fs))
same_entries (e ∷ es) [] up down same = absurd (none_some (lookup (is_at (compare e.0)) (e ∷ es)) e.1 (same e.0) (first_name e es))
same_entries (e ∷ es) (f ∷ fs) up down same =
    by_order (λ rest. same_entries es fs (Rise-tail e.0 (keys_of es) up) (Rise-tail f.0 (keys_of fs) down) rest) (compare e.0 f.0) refl
  where
    later : (m : List ℕ) → e.0 ≡ f.0 → lookup (is_at (compare m)) es ≡ lookup (is_at (compare m)) fs
    later m number =
        elim (cases_name m e.0) [
          | inl here ↦ none_behind e.0 m es up here ∙ sym (none_behind f.0 m fs down (here ∙ number))
          | inr other ↦
              sym (cond-false _ _ _ (other_name m e.0 other)) ∙ same m ∙ cond-false _ _ _ (other_name m f.0 (λ s. other (s ∙ sym number)))
        ]

    by_order : (((m : List ℕ) → lookup (is_at (compare m)) es ≡ lookup (is_at (compare m)) fs) → es ≡ fs) → (c : Ordering) → compare e.0 f.0 ≡ c → e ∷ es ≡ f ∷ fs
    by_order others Less is = absurd (none_before e f es fs down is (same e.0))
    by_order others Equal is =
        let number : e.0 ≡ f.0 = slice_cmp-IsAntisymmetric nat_cmp-IsAntisymmetric e.0 f.0 is in
        let both : Some e.1 ≡ Some f.1 =
        sym (first_name e es) ∙ same e.0 ∙ ap (λ k. lookup (is_at (compare k)) (f ∷ fs)) number ∙ first_name f fs in
        let value : e.1 ≡ f.1 = cc both in
        let rest : es ≡ fs = others (λ m. later m number) in
        λ i. (number i, value i) ∷ rest i
    by_order others Greater is = absurd (none_before f e fs es up (flipped e.0 f.0 is) (sym (same f.0)))

-- ---- places in a list that grows

pub place_stays : (seen more : List ℕ) (x : ℕ) → is_among seen x ≡ true → place_of x (seen ++ more) ≡ place_of x seen
place_stays [] more x among = absurd (cc among)
place_stays (i ∷ seen) more x among = by_case (place_stays seen more x) (i == x) refl
  where
    by_case : (is_among seen x ≡ true → place_of x (seen ++ more) ≡ place_of x seen) → (b : Bool) → (i == x) ≡ b
        → cond b 0 (place_of x (seen ++ more) + 1) ≡ cond b 0 (place_of x seen + 1)
    by_case rest true is = refl
    by_case rest false is = ap (λ n. n + 1) (rest (sym (ap (λ b. b || is_among seen x) is) ∙ among))

-- an inode that is not in the list has the place behind it
pub place_none : (seen : List ℕ) (x : ℕ) → is_among seen x ≡ false → place_of x seen ≡ length seen
place_none [] x among = refl
place_none (i ∷ seen) x among =
    let differs = or_parts (i == x) (is_among seen x) among in
    ap (λ b. cond b 0 (place_of x seen + 1)) differs.0 ∙ omega (arith, place_none seen x differs.1)

pub place_last : (seen : List ℕ) (x : ℕ) → is_among seen x ≡ false → place_of x (seen ++ x ∷ []) ≡ length seen
place_last [] x among = ap (λ b. cond {A = ℕ} b 0 1) (eq-eqb x x refl)
place_last (i ∷ seen) x among =
    let differs = or_parts (i == x) (is_among seen x) among in
    ap (λ b. cond b 0 (place_of x (seen ++ x ∷ []) + 1)) differs.0 ∙ omega (arith, place_last seen x differs.1)

pub among_first : (seen more : List ℕ) (x : ℕ) → is_among seen x ≡ true → is_among (seen ++ more) x ≡ true
among_first [] more x among = absurd (cc among)
among_first (i ∷ seen) more x among = by_case (among_first seen more x) (i == x) refl
  where
    by_case : (is_among seen x ≡ true → is_among (seen ++ more) x ≡ true) → (b : Bool) → (i == x) ≡ b → (b || is_among (seen ++ more) x) ≡ true
    by_case rest true is = refl
    by_case rest false is = rest (sym (ap (λ b. b || is_among seen x) is) ∙ among)

pub among_last : (seen : List ℕ) (y x : ℕ) → is_among (seen ++ y ∷ []) x ≡ (is_among seen x || y == x)
among_last [] y x = by_case (y == x)
  where
    by_case : (b : Bool) → (b || false) ≡ b
    by_case true = refl
    by_case false = refl
among_last (i ∷ seen) y x = ap (λ b. i == x || b) (among_last seen y x) ∙ by_case (i == x) (is_among seen x) (y == x)
  where
    by_case : (a b c : Bool) → (a || (b || c)) ≡ ((a || b) || c)
    by_case true b c = refl
    by_case false b c = refl
