-- What changes of an index leave listed.
use Rattle.std.proofs.Common.{◌≡◌, ◌≢◌, ℕ, List, [], ◌∷◌, Bool, true, false, ◌||◌, ◌==◌, nat_eq, IsTrue, Option, refl, sym, ap, ◌∙◌, subst, get_or, zero, suc}
use Rattle.std.specs.List.{remove}
use Rattle.std.specs.Option.{IsSomeAnd}
use Rattle.std.specs.Cmp.Lexicographic.{pointwise, bytes_decides}
use Rattle.std.specs.Cmp.{nat_eq_equiv}
use Rattle.std.specs.HashMap.{HashMap, get_by, UpdatesBy}
use Rattle.std.specs.Map.{lookup, KeepsOthers, IsKeyTest, AreApart}
use Rattle.std.proofs.lemmas.Bool.{cases_Bool, false≢true, eqb-true, or_cases}
use Rattle.std.proofs.lemmas.Cmp.{lists_equiv}
use Rattle.mem_keeper.specs.declared.index.Index.{Index}
use Rattle.mem_keeper.specs.Index.{IsListed, has_id}
use mathlib.Core.Logic.{⊎_elim}

apart : (bs cs ks : List ℕ) → pointwise nat_eq bs cs ≡ false → pointwise nat_eq bs ks ≡ true → pointwise nat_eq cs ks ≡ false
apart bs cs ks n y = let equiv = lists_equiv nat_eq_equiv in equiv.symm cs ks ∙ sym (equiv.congr bs ks cs y) ∙ n

module _ {K X : Type 0} (eq : K → K → Bool) (test : K → Bool) where
  other_entries : (old new : List (K × X)) → KeepsOthers eq test old new → (other : K → Bool) → IsKeyTest eq other → AreApart test other → lookup other new ≡ lookup other old
  unfolding KeepsOthers
  other_entries old new h = h

-- the value at other bytes stays
pub other_bytes : {K X S : Type 0} (bytes : K → List ℕ) (bs : List ℕ) (m n : HashMap K X S) (w : Option X) → UpdatesBy (λ x y. pointwise nat_eq (bytes x) (bytes y)) (λ k. pointwise nat_eq bs (bytes k)) m n w → (cs : List ℕ) → pointwise nat_eq bs cs ≡ false → get_by (λ k. pointwise nat_eq cs (bytes k)) n ≡ get_by (λ k. pointwise nat_eq cs (bytes k)) m
other_bytes bytes bs m n w h cs e = other_entries _ _ _ _ h.3 _ (λ x y. (lists_equiv nat_eq_equiv).congr cs (bytes x) (bytes y)) (λ k. apart bs cs (bytes k) e)

pub listed_after : (x y : Index) (bs : List ℕ) (w : Option _) → UpdatesBy (λ k l. pointwise nat_eq k.items l.items) (λ k. pointwise nat_eq bs k.items) x.ids y.ids w → (q : List ℕ) (n : ℕ) → IsListed x q n → (q ≡ bs → IsSomeAnd w (λ ids. IsTrue (has_id n ids.items))) → IsListed y q n
listed_after x y bs w h q n listed here =
    ⊎_elim
    (λ same. let e : bs ≡ q = (bytes_decides bs q).0 same in subst (λ l. IsListed y l n) e (subst (λ v. IsSomeAnd v (λ ids. IsTrue (has_id n ids.items))) (sym h.1) (here (sym e))))
    (λ other. subst (λ v. IsSomeAnd v (λ ids. IsTrue (has_id n ids.items))) (sym (other_bytes (λ k. k.items) bs x.ids y.ids w h q other)) listed)
    (cases_Bool (pointwise nat_eq bs q))

or_right : (a b : Bool) → b ≡ true → (a || b) ≡ true
or_right true b e = refl
or_right false b e = e

-- another id than the one at the place stays
pub has_id-remove : (n id : ℕ) (ids : List ℕ) (i : ℕ) → n ≢ id → id ≡ get_or ids i id → has_id n ids ≡ true → has_id n (remove ids i) ≡ true
has_id-remove n id [] i other at h = absurd (false≢true h)
has_id-remove n id (x ∷ xs) zero other at h =
    ⊎_elim (λ here. absurd (other (sym (eqb-true x n here) ∙ sym at))) (λ later. later) (or_cases (x == n) (has_id n xs) h)
has_id-remove n id (x ∷ xs) (suc i) other at h =
    let more : has_id n xs ≡ true → has_id n (remove xs i) ≡ true = has_id-remove n id xs i other at in
    ⊎_elim
    (λ here. ap (λ b. b || has_id n (remove xs i)) here)
    (λ later. or_right (x == n) (has_id n (remove xs i)) (more later))
    (or_cases (x == n) (has_id n xs) h)
