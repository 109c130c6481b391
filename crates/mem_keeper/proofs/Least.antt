-- The least id whose row has some bytes is that of the first such row.
use Rattle.std.proofs.Common.{◌≡◌, ℕ, ◌<◌, ◌≤◌, List, [], ◌∷◌, Bool, true, false, not, Some, None, find, cond, All, take, length, get_or, ◌+◌, refl, sym, ap, ◌∙◌, subst, arith}
use Rattle.std.specs.List.{AllByRecursion}
use Rattle.std.specs.declared.cmp.Ordering.TheVariants.{Less, Equal, Greater}
use Rattle.std.specs.Ordering.{is_eq, nat_cmp}
use Rattle.std.specs.Cmp.{nat_cmp_total}
use Rattle.std.proofs.lemmas.Bool.{false≢true, true≢false}
use Rattle.std.proofs.lemmas.Cmp.{ranked}
use Rattle.std.proofs.lemmas.List.Elements.{All-more}
use Rattle.std.proofs.lemmas.Map.Text.{is_eq-slice_cmp}
use Rattle.std.specs.Cmp.Lexicographic.{bytes_decides}
use Rattle.s3_rows.specs.Keyed.{Order, rises, row_at, is_past}
use Rattle.row_lemmas.proofs.Tests.{less_from_is_lt, false_from_not, find_none}
use Rattle.row_lemmas.proofs.Keyed.Rises.{rises_head, rises_tail}
use Rattle.row_lemmas.proofs.Keyed.RowAt.{row_at_key, row_at_passes, row_at_meets, row_at_head, row_at_later, list_all_from_row_at}
use Rattle.mem_keeper.specs.declared.index.Index.{Index}
use Rattle.mem_keeper.specs.Index.{has_id, IsLeast, Covers, IsListed, has_bytes, row_has_bytes}

-- what holds of the elements so far holds of one more
pub all_step : {X : Type 0} (P Q : X → Type 0) (xs : List X) (i : ℕ) (x : X) → i < length xs → ((y : X) → P y → Q y)
    → All P (take i xs) → x ≡ get_or xs i x → Q x → All Q (take (i + 1) xs)
all_step P Q xs i x lt weaker all same here = All-more Q xs i x lt (λ k d below. weaker _ (all k d below)) (subst Q same here)

module _ {R : Type 0} (key : R → ℕ) where
  abbrev by_key : Order ℕ R
  by_key = record { compare = nat_cmp; key = key }

  -- the row of an id has it
  row_has_id : (id : ℕ) (rows : List R) (r : R) → row_at by_key id rows ≡ Some r → key r ≡ id
  row_has_id id rows r found = sym (ranked id (key r) Equal (sym (row_at_key by_key id rows r found)))

  -- the first row has a smaller id than a later one
  below_later : (id : ℕ) (x : R) (xs : List R) (r : R) → rises by_key (x ∷ xs) ≡ true → row_at by_key id xs ≡ Some r
      → key x < id
  below_later id x xs r up h =
      let past : is_past by_key (key x) r ≡ true = row_at_passes by_key (is_past by_key (key x)) id xs r (rises_head by_key x xs up) h in
      let less : key x < key r = ranked (key x) (key r) Less (sym (less_from_is_lt _ past)) in
      omega (arith, row_has_id id xs r h)

  cases_false : (b : Bool) → (b ≡ true → ⊥) → b ≡ false
  cases_false true h = absurd (h refl)
  cases_false false h = refl

  passing : (bytes : R → List ℕ) (rows : List R) (wanted : List ℕ) (id : ℕ) (r : R) → row_at by_key id rows ≡ Some r
      → has_bytes bytes wanted r ≡ true → row_has_bytes by_key bytes rows wanted id ≡ true
  passing bytes rows wanted id r there same_bytes = ap (λ v. elim v [ None ↦ false | Some s ↦ has_bytes bytes wanted s ]) there ∙ same_bytes

  listed_id : (bytes : R → List ℕ) (x : Index) (rows : List R) (wanted ids : List ℕ) → Covers by_key bytes x rows
      → ((id : ℕ) → IsListed x wanted id → has_id id ids ≡ true) → (id : ℕ) (r : R) → row_at by_key id rows ≡ Some r
      → has_bytes bytes wanted r ≡ true → has_id id ids ≡ true
  listed_id bytes x rows wanted ids covers all id r there same_bytes =
      let same : bytes r ≡ wanted = (bytes_decides (bytes r) wanted).0 (sym (is_eq-slice_cmp (bytes r) wanted) ∙ same_bytes) in
      all id (subst (λ l. IsListed x l id) same (covers id r there))

  none_found : (p : R → Bool) (rows : List R) → rises by_key rows ≡ true
      → ((id : ℕ) (r : R) → row_at by_key id rows ≡ Some r → p r ≡ false) → find p rows ≡ None
  none_found p rows up none =
      find_none p (λ r. not (p r)) (λ r fails. false_from_not (p r) fails) rows (list_all_from_row_at by_key nat_cmp_total (λ r. not (p r)) rows up (λ id r there. ap not (none id r there)))

  find_least : (p : R → Bool) (rows : List R) (least : ℕ) (found : R) → rises by_key rows ≡ true
      → row_at by_key least rows ≡ Some found → p found ≡ true
      → ((id : ℕ) (r : R) → row_at by_key id rows ≡ Some r → p r ≡ true → least ≤ id) → find p rows ≡ Some found
  find_least p [] least found up at passes below = absurd (cc)
  find_least p (x ∷ xs) least found up at passes below =
      let not_first : row_at by_key least xs ≡ Some found → p x ≡ false = λ f. cases_false (p x) (λ same_bytes.
      let low : key x < least = below_later least x xs found up f in
      let high : least ≤ key x = below (key x) x (row_at_head by_key nat_cmp_total x xs) same_bytes in
      omega arith) in
      let later : row_at by_key least xs ≡ Some found → find p (x ∷ xs) ≡ Some found = λ f.
      rw (not_first f) (find_least p xs least found (rises_tail by_key x xs up) f passes (λ id r h same_bytes. below id r (row_at_later by_key nat_cmp_total id x xs r up h) same_bytes)) in
      (elim (nat_cmp least (key x)) as (λ v. v ≡ nat_cmp least (key x) → cond (is_eq v) (Some x) (row_at by_key least xs) ≡ Some found → find p (x ∷ xs) ≡ Some found) [
        | Less ↦ λ e f. later f
        | Equal ↦ λ e f. let same : x ≡ found = cc in rw (ap p same ∙ passes) f
        | Greater ↦ λ e f. later f
      ]) refl at

  -- the row of the least listed id that has the bytes is the first that has them
  pub first_none : (bytes : R → List ℕ) (x : Index) (rows : List R) (wanted ids : List ℕ) → rises by_key rows ≡ true
      → Covers by_key bytes x rows → ((id : ℕ) → IsListed x wanted id → has_id id ids ≡ true)
      → IsLeast (row_has_bytes by_key bytes rows wanted) ids None → find (has_bytes bytes wanted) rows ≡ None
  first_none bytes x rows wanted ids up covers all none =
      none_found (has_bytes bytes wanted) rows up (λ id r there. cases_false (has_bytes bytes wanted r) (λ same_bytes. true≢false (sym (passing bytes rows wanted id r there same_bytes) ∙ none id (listed_id bytes x rows wanted ids covers all id r there same_bytes))))

  pub first_some : (bytes : R → List ℕ) (x : Index) (rows : List R) (wanted ids : List ℕ) (least : ℕ)
      → rises by_key rows ≡ true → Covers by_key bytes x rows
      → ((id : ℕ) → IsListed x wanted id → has_id id ids ≡ true)
      → IsLeast (row_has_bytes by_key bytes rows wanted) ids (Some least)
      → row_at by_key least rows ≡ find (has_bytes bytes wanted) rows
  first_some bytes x rows wanted ids least up covers all h =
      (elim (row_at by_key least rows) as (λ v. v ≡ row_at by_key least rows → v ≡ find (has_bytes bytes wanted) rows) [
        | None ↦ λ e. absurd (false≢true (ap (λ v. elim v [ None ↦ false | Some r ↦ has_bytes bytes wanted r ]) e ∙ h.0))
        | Some found ↦ λ e. sym (find_least (has_bytes bytes wanted) rows least found up (sym e) (ap (λ v. elim v [ None ↦ false | Some r ↦ has_bytes bytes wanted r ]) e ∙ h.0) (λ id r there same_bytes. h.1 id (listed_id bytes x rows wanted ids covers all id r there same_bytes) (passing bytes rows wanted id r there same_bytes)))
      ]) refl

  -- a test of the row of an id by bytes that failed: no row there has the bytes
  pub not_these : (bytes : R → List ℕ) (rows : List R) (wanted : List ℕ) (own id : ℕ) (r : R)
      → row_has_bytes by_key bytes rows wanted own ≡ false → row_at by_key id rows ≡ Some r → bytes r ≡ wanted
      → id ≡ own → ⊥
  not_these bytes rows wanted own id r fails there same here =
      let has : has_bytes bytes wanted r ≡ true = is_eq-slice_cmp (bytes r) wanted ∙ (bytes_decides (bytes r) wanted).1 same in
      true≢false (sym (passing bytes rows wanted id r there has) ∙ subst (λ n. row_has_bytes by_key bytes rows wanted n ≡ false) (sym here) fails)

  -- all rows are listed
  pub covers_all : (bytes : R → List ℕ) (x : Index) (rows : List R)
      → AllByRecursion (λ r. IsListed x (bytes r) (key r)) rows → Covers by_key bytes x rows
  covers_all bytes x rows all id r there = subst (IsListed x (bytes r)) (row_has_id id rows r there) (row_at_meets by_key (λ s. IsListed x (bytes s) (key s)) id rows r all there)
