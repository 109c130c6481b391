-- What one more change makes of the answers that an index gives.
use Rattle.std.proofs.Common.{◌≡◌, ℕ, zero, suc, List, [], ◌∷◌, ◌++◌, length, Bool, true, false, cond, Option, None, Some, Bor, refl, sym, ap, ◌∙◌, subst}
use Rattle.std.specs.Prelude.{◌==◌, ◌&&◌, option_map, slice_get}
use Rattle.std.specs.Option.{is_some, option_or, option_and_then, option_copied}
use Rattle.std.specs.Slice.{IsItemAt}
use Rattle.std.specs.Ordering.{is_eq, eq_by_cmp, nat_cmp, ordering_then}
use Rattle.std.specs.Cmp.{IsEquivalence, unsigned_ties, both_tied}
use Rattle.std.specs.Cmp.Lexicographic.{slice_cmp, bytes_decides, nat_list_cmp_total, texts_ties}
use Rattle.std.specs.BTreeMap.{BTreeMap, UpdatesBy, get_by}
use Rattle.std.specs.Map.{lookup, KeepsOthers, IsKeyTest, AreApart}
use Rattle.std.proofs.lemmas.Cmp.{eq_by_cmp_equiv}
use Rattle.std.proofs.lemmas.Option.{slice_get_past, slice_get_read}
use Rattle.s3_rows.specs.declared.change.Change.{Change}
use Rattle.s3_rows.specs.declared.change.Change.TheVariants as changes
use Rattle.s3_rows.specs.declared.row_id.RowId.{RowId}
use Rattle.s3_rows.specs.declared.row_id.RowId.TheVariants as ids
use Rattle.s3_rows.specs.Rows.{Name}
use Rattle.s3_rows.specs.Latest.{row_id, same_row, last_of, about, last_change, id_named}
use Rattle.s3_rows.specs.Index.{row_cmp, last_place}

-- ---- same_row

pair_ties : (a b c d : ℕ) → is_eq (ordering_then (nat_cmp a b) (nat_cmp c d)) ≡ (a == b && c == d)
pair_ties a b c d =
    sym (both_tied (a == b) (c == d) (nat_cmp a b) (nat_cmp c d) (unsigned_ties a b) (unsigned_ties c d))

-- two rows tie in the order of the map where they are the same
pub same_row-ties : (a b : RowId) → is_eq (row_cmp a b) ≡ same_row a b
same_row-ties (ids.Inode a) (ids.Inode b) = sym (unsigned_ties a b)
same_row-ties (ids.Name a) (ids.Name b) = sym (unsigned_ties a b)
same_row-ties (ids.Content a b) (ids.Content c d) = pair_ties a c b d
same_row-ties (ids.InodeBlock a b) (ids.InodeBlock c d) = pair_ties a c b d
same_row-ties (ids.Block a) (ids.Block b) = sym (unsigned_ties a b)
same_row-ties (ids.Object a) (ids.Object b) = sym (unsigned_ties a b)
same_row-ties (ids.Target a) (ids.Target b) = sym (unsigned_ties a b)
same_row-ties (ids.Attr a b) (ids.Attr c d) = pair_ties a c b d
same_row-ties (ids.Slot a) (ids.Slot b) = sym (unsigned_ties a b)
same_row-ties ids.Params ids.Params = refl
same_row-ties _ _ = refl

-- ---- option_or

option_or-assoc : {A : Type 0} (a b c : Option A) → option_or (option_or a b) c ≡ option_or a (option_or b c)
option_or-assoc None b c = refl
option_or-assoc (Some x) b c = refl

option_or-cond : {A : Type 0} (b : Bool) (a c : Option A) → option_or (cond b a None) c ≡ cond b (option_or a c) c
option_or-cond true a c = refl
option_or-cond false a c = refl

option_or-there : {A : Type 0} (a b : Option A) → is_some a ≡ true → option_or a b ≡ a
option_or-there None b there = absurd (cc there)
option_or-there (Some x) b there = refl

-- ---- last_of

pub last_of-push : {A : Type 0} (answer : Change → Option A) (cs : List Change) (c : Change)
    → last_of answer (cs ++ c ∷ []) ≡ option_or (answer c) (last_of answer cs)
last_of-push answer [] c = none (answer c)
  where
    none : {A : Type 0} (a : Option A) → a ≡ option_or a None
    none None = refl
    none (Some x) = refl
last_of-push answer (x ∷ xs) c =
    ap (λ a. option_or a (answer x)) (last_of-push answer xs c)
    ∙ option_or-assoc (answer c) (last_of answer xs) (answer x)

-- ---- last_place

pub last_place-push : (id : RowId) (cs : List Change) (c : Change)
    → last_place id (cs ++ c ∷ []) ≡ cond (same_row (row_id c) id) (Some (length cs)) (last_place id cs)
last_place-push id [] c = refl
last_place-push id (x ∷ xs) c =
    ap (λ a. option_or (option_map (λ n. suc n) a) here) (last_place-push id xs c) ∙ by_case (same_row (row_id c) id)
  where
    here : Option ℕ
    here = cond (same_row (row_id x) id) (Some zero) None

    by_case : (b : Bool)
        → option_or (option_map (λ n. suc n) (cond b (Some (length xs)) (last_place id xs))) here
        ≡ cond b (Some (suc (length xs))) (option_or (option_map (λ n. suc n) (last_place id xs)) here)
    by_case true = refl
    by_case false = refl

place_there : (id : RowId) (cs : List Change) (n : ℕ) → last_place id cs ≡ Some n → is_some (slice_get cs n) ≡ true
place_there id [] n is = absurd (cc is)
place_there id (c ∷ cs) n is =
    by_case (place_there id cs) (last_place id cs) (same_row (row_id c) id) refl is
  where
    by_case : ((m : ℕ) → last_place id cs ≡ Some m → is_some (slice_get cs m) ≡ true)
        → (place : Option ℕ) (b : Bool) → last_place id cs ≡ place
        → option_or (option_map (λ n. suc n) place) (cond b (Some zero) None) ≡ Some n
        → is_some (slice_get (c ∷ cs) n) ≡ true
    by_case others None true here now =
        let first : zero ≡ n = cc now in
        subst (λ k. is_some (slice_get (c ∷ cs) k) ≡ true) first refl
    by_case others None false here now = absurd (cc now)
    by_case others (Some m) b here now =
        let next : suc m ≡ n = cc now in
        subst (λ k. is_some (slice_get (c ∷ cs) k) ≡ true) next (others m here)

-- the change at the last place
last_change-place : (id : RowId) (cs : List Change)
    → last_change id cs ≡ option_and_then (λ n. slice_get cs n) (last_place id cs)
last_change-place id [] = refl
last_change-place id (c ∷ cs) =
    ap (λ a. option_or a (about id c)) (last_change-place id cs)
    ∙ by_case (last_place id cs) (same_row (row_id c) id) refl
  where
    by_case : (place : Option ℕ) (b : Bool) → last_place id cs ≡ place
        → option_or (option_and_then (λ n. slice_get cs n) place) (cond b (Some c) None)
        ≡ option_and_then (λ n. slice_get (c ∷ cs) n)
        (option_or (option_map (λ n. suc n) place) (cond b (Some zero) None))
    by_case None true here = refl
    by_case None false here = refl
    by_case (Some n) b here = option_or-there (slice_get cs n) (cond b (Some c) None) (place_there id cs n here)

-- the same of a place that was found
pub change_at_place : (id : RowId) (cs now : List Change) (place found : Option ℕ)
    → place ≡ last_place id cs → place ≡ found → cs ≡ now
    → option_and_then (λ n. slice_get now n) found ≡ last_change id now
change_at_place id cs now place found last is same =
    ap (λ a. option_and_then (λ n. slice_get now n) a) (sym is ∙ last ∙ ap (last_place id) same)
    ∙ sym (last_change-place id now)

-- what a slice lends at a place
pub item_read : {X : Type 0} (xs : List X) (n : ℕ) (item : Option (Bor X))
    → IsItemAt xs n item → option_copied item ≡ slice_get xs n
item_read xs n None lent = sym (slice_get_past xs n lent.3)
item_read xs n (Some x) lent = sym (slice_get_read xs (length xs) n x.now refl lent.3.0 lent.1)

-- ---- names by their bytes

module _ {K X : Type 0} (eq : K → K → Bool) (test : K → Bool) where
  other_entries : (old new : List (K × X)) → KeepsOthers eq test old new
      → (other : K → Bool) → IsKeyTest eq other → AreApart test other → lookup other new ≡ lookup other old
  unfolding KeepsOthers
  other_entries old new h = h

bytes_equiv : IsEquivalence (eq_by_cmp (slice_cmp nat_cmp))
bytes_equiv = eq_by_cmp_equiv nat_list_cmp_total

-- A map by bytes, after a name is listed: other bytes keep theirs.
module _ {K : Type 0} (items : K → List ℕ) (m n : BTreeMap K ℕ) where
  pub names_listed : (name : List ℕ) (id : ℕ) (r : Name) (change : Change)
      → change ≡ changes.PutName r → name ≡ r.name → id ≡ r.id
      → UpdatesBy (λ x y. slice_cmp nat_cmp (items x) (items y)) (λ k. slice_cmp nat_cmp name (items k)) m n (Some id)
      → (bytes : List ℕ)
      → get_by (λ k. slice_cmp nat_cmp bytes (items k)) n
      ≡ option_or (id_named bytes change) (get_by (λ k. slice_cmp nat_cmp bytes (items k)) m)
  names_listed name id r change is named own updates bytes =
      by_case (is_eq (slice_cmp nat_cmp name bytes)) refl
      ∙ (λ i. cond (is_eq (slice_cmp nat_cmp (named i) bytes)) (Some (own i)) before)
      ∙ sym (option_or-cond (is_eq (slice_cmp nat_cmp r.name bytes)) (Some r.id) before)
      ∙ ap (λ x. option_or (id_named bytes x) before) (sym is)
    where
      before : Option ℕ
      before = get_by (λ k. slice_cmp nat_cmp bytes (items k)) m

      by_case : (b : Bool) → is_eq (slice_cmp nat_cmp name bytes) ≡ b
          → get_by (λ k. slice_cmp nat_cmp bytes (items k)) n ≡ cond b (Some id) before
      by_case true tied =
          subst (λ l. get_by (λ k. slice_cmp nat_cmp l (items k)) n ≡ Some id)
          ((bytes_decides name bytes).0 (texts_ties name bytes ∙ tied)) updates.1
      by_case false apart =
          other_entries _ _ _ _ updates.3 _ (λ x y. bytes_equiv.congr bytes (items x) (items y))
          (λ k tied.
          bytes_equiv.symm bytes (items k) ∙ sym (bytes_equiv.congr name (items k) bytes tied) ∙ apart)
