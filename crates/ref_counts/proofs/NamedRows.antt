-- Rows of an owner that have a name, as entries and attributes: the one that has its bytes is the one under its id.
use Rattle.std.proofs.Common.{◌≡◌, ℕ, List, [], ◌∷◌, Bool, true, false, cond, Option, None, Some, refl, sym, ap, ◌∙◌, subst}
use Rattle.std.specs.Prelude.{IsTrue, not, ◌&&◌, ◌==◌, is_some, find, option_map, unwrap_or}
use Rattle.std.specs.List.{list_all, list_any}
use Rattle.std.specs.Cmp.{nat_cmp_total, tied_back, tied_itself}
use Rattle.std.proofs.lemmas.Cmp.{nat_list_cmp_total}
use Rattle.std.specs.FinMap.{nat_cmp-IsAntisymmetric}
use Rattle.std.specs.declared.cmp.Ordering.{Ordering}
use Rattle.std.specs.declared.cmp.Ordering.TheVariants.{Less, Equal, Greater}
use Rattle.std.specs.Ordering.{nat_cmp, is_eq, ordering_then}
use Rattle.std.proofs.lemmas.Bool.{and_parts}
use Rattle.s3_rows.specs.Rows.{Name}
use Rattle.s3_rows.specs.Keyed.{has_key, pair_cmp, rises}
use Rattle.s3_rows.specs.Tables.{Tables, by_name}
use Rattle.s3_rows.specs.Selections.{name_at, name_of_bytes, bytes_cmp, bytes_of_name}
use Rattle.s3_rows.specs.Told.{Told, IfTold}
use Rattle.s3_rows.specs.Validity.{IsValid, HasUniqueNames, have_same_bytes, differ}
use Rattle.row_lemmas.proofs.Tests.{equal_from_is_eq, eqb_comm, is_eq-nat_cmp, false_from_not, find_none, find_passes, list_any-find, list_any_from_find, list_any_weaker}
use Rattle.row_lemmas.proofs.Keyed.RowAt.{row_at_from_find}
use Rattle.ref_counts.proofs.Named.{has_bytes, have_same_bytes_from_has_bytes}
use Rattle.ref_counts.proofs.Told.{IfTold-weaker, IfTold-weaker2, IfTold-same}

-- ---- tests

-- two tests that agree on rows that pass a third find the same
find_agree : {R : Type 0} (p q f : R → Bool) → ((x : R) → IsTrue (f x) → p x ≡ q x) → (rows : List R) → IsTrue (list_all f rows) → find p rows ≡ find q rows
find_agree p q f alike [] all = refl
find_agree p q f alike (x ∷ xs) all =
    ap (λ b. cond b (Some x) (find p xs)) (alike x (and_parts (f x) (list_all f xs) all).0)
    ∙ ap (λ found. cond (q x) (Some x) found) (find_agree p q f alike xs (and_parts (f x) (list_all f xs) all).1)

-- two tests that follow from each other
agree : (a b : Bool) → (IsTrue a → IsTrue b) → (IsTrue b → IsTrue a) → a ≡ b
agree true b there back = sym (there refl)
agree false true there back = back refl
agree false false there back = refl

both_equal : (a b : Ordering) → is_eq (ordering_then a b) ≡ (is_eq a && is_eq b)
both_equal Less b = refl
both_equal Equal b = refl
both_equal Greater b = refl

and_false : (b : Bool) → (b && false) ≡ false
and_false true = refl
and_false false = refl

-- where no two rows are alike, two that pass a test of like rows are one
module _ {R : Type 0} (alike : R → R → Bool) (q : R → Bool) (like : (x y : R) → IsTrue (q x) → IsTrue (q y) → IsTrue (alike x y)) where
  only_one : (p : R → Bool) (rows : List R) (n m : R) → IsTrue (differ alike rows) → find q rows ≡ Some n → find p rows ≡ Some m → IsTrue (q m) → n ≡ m
  only_one p [] n m unlike here there passes = absurd (cc here)
  only_one p (x ∷ xs) n m unlike here there passes =
      by_case (λ a b. only_one p xs n m (and_parts (not (list_any (alike x) xs)) (differ alike xs) unlike).1 a b passes) (q x) refl here (p x) there
    where
      by_case : (find q xs ≡ Some n → find p xs ≡ Some m → n ≡ m) → (b : Bool) → q x ≡ b → cond b (Some x) (find q xs) ≡ Some n → (c : Bool) → cond c (Some x) (find p xs) ≡ Some m → n ≡ m
      by_case others true own found true other = cc (found, other)
      by_case others true own found false other =
          let any : IsTrue (list_any (alike x) xs) = list_any_weaker q (alike x) (λ y. like x y own) xs (list_any_from_find p q xs m other passes) in
          let clash : true ≡ false = sym any ∙ false_from_not (list_any (alike x) xs) (and_parts (not (list_any (alike x) xs)) (differ alike xs) unlike).0 in
          absurd (cc clash)
      by_case others false own found true other =
          let same : x ≡ m = cc other in
          let clash : false ≡ true = sym own ∙ ap q same ∙ passes in
          absurd (cc clash)
      by_case others false own found false other = others found other

-- ---- names

turned : (a b : List ℕ) → IsTrue (is_eq (bytes_cmp a b)) → IsTrue (is_eq (bytes_cmp b a))
turned a b same = ap is_eq (tied_back nat_list_cmp_total a b (equal_from_is_eq (bytes_cmp a b) same))

module _ (t : Tables) (rise : IsTrue (rises by_name t.names)) (unique : HasUniqueNames t) (bytes : List ℕ) where
  -- a name that has a row and these bytes
  named_so : (id : ℕ) (found : Option Name) → name_at t id ≡ found → IsTrue (is_some found) → IsTrue (is_eq (bytes_cmp bytes (bytes_of_name t id)))
      → (m : Name) × (name_at t id ≡ Some m) × IsTrue (has_bytes bytes m)
  named_so id None is there same = absurd (cc there)
  named_so id (Some m) is there same =
      let own : bytes_of_name t id ≡ m.name = ap (λ (row : Option Name). unwrap_or (option_map (λ r. r.name) row) []) is in
      (m, is, turned bytes m.name (subst (λ xs. IsTrue (is_eq (bytes_cmp bytes xs))) own same))

  -- a name has the id of the row with these bytes where it has the bytes
  same_name : (n : Name) → name_of_bytes t bytes ≡ Some n → (id : ℕ) → IsTrue (is_some (name_at t id)) → is_eq (nat_cmp n.id id) ≡ is_eq (bytes_cmp bytes (bytes_of_name t id))
  same_name n here id known = agree (is_eq (nat_cmp n.id id)) (is_eq (bytes_cmp bytes (bytes_of_name t id))) there back
    where
      there : IsTrue (is_eq (nat_cmp n.id id)) → IsTrue (is_eq (bytes_cmp bytes (bytes_of_name t id)))
      there same =
          let number : n.id ≡ id = nat_cmp-IsAntisymmetric n.id id (equal_from_is_eq (nat_cmp n.id id) same) in
          let row : name_at t id ≡ Some n = ap (name_at t) (sym number) ∙ row_at_from_find by_name nat_cmp_total (has_bytes bytes) t.names n rise here in
          let own : bytes_of_name t id ≡ n.name = ap (λ (found : Option Name). unwrap_or (option_map (λ r. r.name) found) []) row in
          subst (λ xs. IsTrue (is_eq (bytes_cmp bytes xs))) (sym own) (turned n.name bytes (find_passes (has_bytes bytes) t.names n here))

      back : IsTrue (is_eq (bytes_cmp bytes (bytes_of_name t id))) → IsTrue (is_eq (nat_cmp n.id id))
      back same =
          let row = named_so id (name_at t id) refl known same in
          let one : n ≡ row.0 = only_one have_same_bytes (has_bytes bytes) (have_same_bytes_from_has_bytes bytes) (has_key by_name id) t.names n row.0 unique here row.1 row.2 in
          let number : IsTrue (is_eq (nat_cmp id (row.0).id)) = find_passes (has_key by_name id) t.names row.0 row.1 in
          let equal : id ≡ n.id = nat_cmp-IsAntisymmetric id (row.0).id (equal_from_is_eq (nat_cmp id (row.0).id) number) ∙ ap (λ (x : Name). x.id) (sym one) in
          subst (λ x. IsTrue (is_eq (nat_cmp n.id x))) (sym equal) (ap is_eq (tied_itself nat_cmp_total n.id))

  -- no name has bytes that no row has
  no_name : name_of_bytes t bytes ≡ None → (id : ℕ) → IsTrue (is_some (name_at t id)) → is_eq (bytes_cmp bytes (bytes_of_name t id)) ≡ false
  no_name none id known = by_case (is_eq (bytes_cmp bytes (bytes_of_name t id))) refl
    where
      by_case : (b : Bool) → is_eq (bytes_cmp bytes (bytes_of_name t id)) ≡ b → b ≡ false
      by_case true same =
          let row = named_so id (name_at t id) refl known same in
          let any : IsTrue (list_any (has_bytes bytes) t.names) = list_any_from_find (has_key by_name id) (has_bytes bytes) t.names row.0 row.1 row.2 in
          let clash : true ≡ false = sym any ∙ list_any-find (has_bytes bytes) t.names ∙ ap is_some none in
          absurd (cc clash)
      by_case false same = refl

-- ---- rows of an owner

module _ {R : Type 0} (owner name_id : R → ℕ) where
  -- the row of this owner whose name has these bytes, and the one of this owner and name
  abbrev pub row_named : Tables → List R → ℕ → List ℕ → Option R
  row_named t rows x bytes = find (λ r. owner r == x && is_eq (bytes_cmp bytes (bytes_of_name t (name_id r)))) rows

  abbrev pub row_of_id : List R → ℕ → ℕ → Option R
  row_of_id rows x id = find (λ r. is_eq (pair_cmp (x, id) (owner r, name_id r))) rows

  module _ (t : Tables) (v : IsValid t) (unique : HasUniqueNames t) (rows : List R) (known : IsTrue (list_all (λ r. is_some (name_at t (name_id r))) rows)) (x : ℕ) (bytes : List ℕ) where
    pub row_of_id-row_named : (id : ℕ) (found : Option Name) → name_of_bytes t bytes ≡ found → Some id ≡ option_map (λ n. n.id) found → row_of_id rows x id ≡ row_named t rows x bytes
    row_of_id-row_named id None here is = absurd (cc is)
    row_of_id-row_named id (Some n) here is =
        let same : id ≡ n.id = cc is in
        ap (row_of_id rows x) same
        ∙ find_agree (λ r. is_eq (pair_cmp (x, n.id) (owner r, name_id r))) (λ r. owner r == x && is_eq (bytes_cmp bytes (bytes_of_name t (name_id r)))) (λ r. is_some (name_at t (name_id r))) each rows known
      where
        each : (r : R) → IsTrue (is_some (name_at t (name_id r))) → is_eq (pair_cmp (x, n.id) (owner r, name_id r)) ≡ (owner r == x && is_eq (bytes_cmp bytes (bytes_of_name t (name_id r))))
        each r there =
            both_equal (nat_cmp x (owner r)) (nat_cmp n.id (name_id r)) ∙ ap (λ b. b && is_eq (nat_cmp n.id (name_id r))) (is_eq-nat_cmp x (owner r) ∙ eqb_comm x (owner r))
            ∙ ap (λ b. (owner r == x) && b) (same_name t v.ordered.names unique bytes n here (name_id r) there)

    pub row_named_none : name_of_bytes t bytes ≡ None → row_named t rows x bytes ≡ None
    row_named_none none =
        find_none (λ r. owner r == x && is_eq (bytes_cmp bytes (bytes_of_name t (name_id r)))) (λ r. is_some (name_at t (name_id r)))
        (λ r there. ap (λ b. (owner r == x) && b) (no_name t v.ordered.names unique bytes none (name_id r) there) ∙ and_false (owner r == x)) rows known

  -- ---- over a keeper that may tell

  module _ (rows : Tables → List R) (known : (t : Tables) → IsValid t → IsTrue (list_all (λ r. is_some (name_at t (name_id r))) (rows t))) (told : Option Told) (x : ℕ) (bytes : List ℕ) (answer : Option ℕ)
      (is : IfTold told (λ t. answer ≡ option_map (λ n. n.id) (name_of_bytes t bytes))) where
    -- the answer of a look-up by the id that a look-up by the name gave
    pub told_row_of_id : (after : Option Told) (id : ℕ) (row : Option R) → answer ≡ Some id → after ≡ told → IfTold after (λ t. row ≡ row_of_id (rows t) x id)
        → IfTold told (λ t. IsValid t → HasUniqueNames t → row ≡ row_named t (rows t) x bytes)
    told_row_of_id after id row given same own =
        IfTold-weaker2 told (λ t. answer ≡ option_map (λ n. n.id) (name_of_bytes t bytes)) (λ t. row ≡ row_of_id (rows t) x id) _
        (λ t named there v unique. there ∙ row_of_id-row_named t v unique (rows t) (known t v) x bytes id (name_of_bytes t bytes) refl (sym given ∙ named)) is (IfTold-same told after _ same own)

    -- there is none where there is no such name
    pub told_row_named_none : answer ≡ None → IfTold told (λ t. IsValid t → HasUniqueNames t → None ≡ row_named t (rows t) x bytes)
    told_row_named_none given =
        IfTold-weaker told (λ t. answer ≡ option_map (λ n. n.id) (name_of_bytes t bytes)) _
        (λ t named v unique. sym (row_named_none t v unique (rows t) (known t v) x bytes (nothing_of (name_of_bytes t bytes) (sym given ∙ named)))) is
      where
        nothing_of : (found : Option Name) → None ≡ option_map (λ n. n.id) found → found ≡ None
        nothing_of None none = refl
        nothing_of (Some n) none = absurd (cc none)
