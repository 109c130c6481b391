-- Where no two name rows have the same bytes, no directory has two entries of one name.
use Rattle.std.proofs.Common.{◌≡◌, ℕ, List, [], ◌∷◌, Bool, true, false, cond, Option, None, Some, refl, sym, ap, ◌∙◌, subst, eqb-true}
use Rattle.std.specs.Prelude.{IsTrue, not, ◌||◌, ◌==◌, is_some, find, option_map, unwrap_or}
use Rattle.std.specs.List.{list_all, list_any}
use Rattle.std.specs.Cmp.{tied_back, tied_itself}
use Rattle.std.specs.Ordering.{is_eq, is_lt}
use Rattle.std.proofs.lemmas.Bool.{false≢true, and_from, and_parts}
use Rattle.std.proofs.lemmas.Cmp.{nat_list_cmp_total}
use Rattle.s3_rows.specs.Rows.{Name, Content}
use Rattle.s3_rows.specs.Keyed.{Order, pair_cmp, is_past, has_key, rises}
use Rattle.s3_rows.specs.Tables.{Tables, by_name, by_entry}
use Rattle.s3_rows.specs.Selections.{name_at, bytes_cmp, bytes_of_name}
use Rattle.s3_rows.specs.Validity.{HasUniqueNames, has_inode, is_directory, differ, have_same_bytes, have_one_name}
use Rattle.tree_rows.specs.Premises.{finds_directory_and_name}
use Rattle.std.specs.FinMap.{nat_cmp-IsAntisymmetric}
use Rattle.row_lemmas.proofs.Tests.{find_passes, list_any_from_find, equal_from_is_eq, false_from_not}
use Rattle.row_lemmas.proofs.Tables.{pair_cmp_total}
use Rattle.row_lemmas.proofs.Keyed.Rises.{rises_head, rises_tail}

-- of rows of which no two are alike, two that are alike are one
same_from_differ : {R : Type 0} (p q : R → Bool) (alike : R → R → Bool) (rows : List R) (a b : R)
    → IsTrue (differ alike rows) → find p rows ≡ Some a → find q rows ≡ Some b
    → IsTrue (alike a b) → IsTrue (alike b a) → a ≡ b
same_from_differ p q alike [] a b unlike one two ab ba = absurd (cc one)
same_from_differ p q alike (r ∷ rs) a b unlike one two ab ba =
    by_case
    (λ left right. same_from_differ p q alike rs a b
    (and_parts (not (list_any (alike r) rs)) (differ alike rs) unlike).1 left right ab ba)
    (p r) one (q r) two
  where
    none : list_any (alike r) rs ≡ false
    none = false_from_not (list_any (alike r) rs) (and_parts (not (list_any (alike r) rs)) (differ alike rs) unlike).0

    by_case : (find p rs ≡ Some a → find q rs ≡ Some b → a ≡ b) → (c : Bool) → cond c (Some r) (find p rs) ≡ Some a
        → (d : Bool) → cond d (Some r) (find q rs) ≡ Some b → a ≡ b
    by_case others true left true right = cc
    by_case others true left false right =
        let here : r ≡ a = cc left in
        let clash : false ≡ true =
        sym none ∙ list_any_from_find q (alike r) rs b right (subst (λ x. IsTrue (alike x b)) (sym here) ab) in
        absurd (cc clash)
    by_case others false left true right =
        let here : r ≡ b = cc right in
        let clash : false ≡ true =
        sym none ∙ list_any_from_find p (alike r) rs a left (subst (λ x. IsTrue (alike x a)) (sym here) ba) in
        absurd (cc clash)
    by_case others false left false right = others left right

-- rows in order differ where no row is alike to one past it
differ_from_rises : {K R : Type 0} (o : Order K R) (p : R → Bool) (alike : R → R → Bool)
    → ((x y : R) → IsTrue (p x) → IsTrue (p y) → IsTrue (is_past o (o.key x) y) → IsTrue (alike x y) → ⊥)
    → (rows : List R) → IsTrue (list_all p rows) → IsTrue (rises o rows) → IsTrue (differ alike rows)
differ_from_rises o p alike apart [] all rise = refl
differ_from_rises {R = R} o p alike apart (r ∷ rs) all rise =
    and_from (not (list_any (alike r) rs)) (differ alike rs)
    (none rs (and_parts (p r) (list_all p rs) all).1 (rises_head o r rs rise))
    (differ_from_rises o p alike apart rs (and_parts (p r) (list_all p rs) all).1
    (rises_tail o r rs rise))
  where
    none : (xs : List R) → IsTrue (list_all p xs) → IsTrue (list_all (is_past o (o.key r)) xs)
        → IsTrue (not (list_any (alike r) xs))
    none [] passed past = refl
    none (x ∷ xs) passed past =
        by_case (alike r x) refl
        (none xs (and_parts (p x) (list_all p xs) passed).1
        (and_parts (is_past o (o.key r) x) (list_all (is_past o (o.key r)) xs) past).1)
      where
        by_case : (b : Bool) → alike r x ≡ b → IsTrue (not (list_any (alike r) xs))
            → IsTrue (not (list_any (alike r) (x ∷ xs)))
        by_case true is others =
            absurd
            (apart r x (and_parts (p r) (list_all p rs) all).0 (and_parts (p x) (list_all p xs) passed).0
            (and_parts (is_past o (o.key r) x) (list_all (is_past o (o.key r)) xs) past).0 is)
        by_case false is others = ap (λ b. not (b || list_any (alike r) xs)) is ∙ others

module _ (t : Tables) (unique : HasUniqueNames t) where
  name_row : (x : ℕ) → IsTrue (is_some (name_at t x)) → (n : Name) × (name_at t x ≡ Some n) × (n.id ≡ x)
  name_row x there = by_case (name_at t x) refl there
    where
      by_case : (found : Option Name) → name_at t x ≡ found → IsTrue (is_some found)
          → (n : Name) × (name_at t x ≡ Some n) × (n.id ≡ x)
      by_case None is some = absurd (cc some)
      by_case (Some n) is some = (
        n,
        is,
        sym
            (nat_cmp-IsAntisymmetric x n.id (equal_from_is_eq _ (find_passes (has_key by_name x) t.names n is))),
      )

  -- names with the same bytes are one
  one_name : (a b : ℕ) → IsTrue (is_some (name_at t a)) → IsTrue (is_some (name_at t b))
      → IsTrue (is_eq (bytes_cmp (bytes_of_name t a) (bytes_of_name t b))) → a ≡ b
  one_name a b one two alike =
      let n = name_row a one in
      let m = name_row b two in
      let text : Option Name → List ℕ = λ found. unwrap_or (option_map (λ r. r.name) found) [] in
      let same : IsTrue (have_same_bytes n.0 m.0) =
      subst (λ (bytes : List ℕ). IsTrue (is_eq (bytes_cmp n.0.name bytes))) (ap text m.1)
      (subst (λ (bytes : List ℕ). IsTrue (is_eq (bytes_cmp bytes (bytes_of_name t b)))) (ap text n.1) alike) in
      let back : IsTrue (have_same_bytes m.0 n.0) =
      ap is_eq (tied_back nat_list_cmp_total n.0.name m.0.name (equal_from_is_eq (bytes_cmp n.0.name m.0.name) same)) in
      let row : n.0 ≡ m.0 =
      same_from_differ (has_key by_name a)
      (has_key by_name b) have_same_bytes t.names n.0 m.0 unique n.1 m.1 same back in
      sym n.2 ∙ ap (λ (x : Name). x.id) row ∙ m.2

  apart : (x y : Content) → IsTrue (finds_directory_and_name t x) → IsTrue (finds_directory_and_name t y)
      → IsTrue (is_past by_entry (x.parent, x.name_id) y) → IsTrue (have_one_name t x y) → ⊥
  apart x y one two past alike =
      let parent : x.parent ≡ y.parent = eqb-true x.parent y.parent (and_parts (x.parent == y.parent) _ alike).0 in
      let id : x.name_id ≡ y.name_id =
      one_name x.name_id y.name_id (and_parts (has_inode is_directory t x.parent) _ one).1
      (and_parts (has_inode is_directory t y.parent) _ two).1 (and_parts (x.parent == y.parent) _ alike).1 in
      let key : ◌≡◌ {A = ℕ × ℕ} (x.parent, x.name_id) (y.parent, y.name_id) = λ i. (parent i, id i) in
      let equal : pair_cmp (x.parent, x.name_id) (y.parent, y.name_id)
      ≡ pair_cmp (x.parent, x.name_id) (x.parent, x.name_id) =
      ap (pair_cmp (x.parent, x.name_id)) (sym key) in
      let clash : false ≡ true = sym (ap is_lt (equal ∙ tied_itself pair_cmp_total (x.parent, x.name_id))) ∙ past in
      false≢true clash

  pub differ_from_unique_names : IsTrue (rises by_entry t.contents)
      → IsTrue (list_all (finds_directory_and_name t) t.contents)
      → IsTrue (differ (have_one_name t) t.contents)
  differ_from_unique_names rise finds =
      differ_from_rises by_entry (finds_directory_and_name t) (have_one_name t) apart t.contents finds rise
