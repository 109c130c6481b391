-- Keys that begin with a text: that text itself, and all others next past it in the order of keys.
use Rattle.std.proofs.Common.{◌≡◌, ℕ, Bool, true, false, cond, List, [], ◌∷◌, take, Option, None, Some, refl, sym, ap, ◌∙◌, subst, eqb-true, eq-eqb}
use Rattle.std.specs.Prelude.{◌==◌, ◌||◌, nat_eq, is_some}
use Rattle.std.specs.List.{list_any, starts_with, AllByRecursion}
use Rattle.std.specs.List.Sorted.{IsStrictlySortedBy}
use Rattle.std.specs.Map.{keys_of}
use Rattle.std.specs.declared.cmp.Ordering.{Ordering}
use Rattle.std.specs.declared.cmp.Ordering.TheVariants.{Less, Equal, Greater}
use Rattle.std.specs.Ordering.{nat_cmp, is_eq, is_lt, ordering_then, ordering_reverse}
use Rattle.std.proofs.lemmas.Bool.{and_parts, and_from}
use Rattle.std.proofs.lemmas.Cmp.{nat_cmp_total, tied_itself}
use Rattle.std.proofs.lemmas.Map.Lookups.{exact_unsigned, exact_bytes}
use Rattle.row_lemmas.proofs.Tests.{list_any-map}
use Rattle.s3_devices.specs.declared.key_list.KeyItem.{KeyItem}
use Rattle.s3_devices.specs.Objects.{Objects, key_cmp, held_at, AreOrdered}
use Rattle.s3_devices.specs.LinkAnswers.{listed}
use Rattle.s3_devices.specs.Told.{IfTold}
use Rattle.metadata_backup.specs.Survey.{keys_past}
use Rattle.metadata_backup.proofs.SurveyLaws.{keys_of_listed}

abbrev begins : List ℕ → List ℕ → Bool
begins p key = starts_with nat_eq key p

-- ---- one key

begins_itself : (p : List ℕ) → begins p p ≡ true
begins_itself [] = refl
begins_itself (a ∷ p) = and_from (a == a) (begins p p) (eq-eqb a a refl) (begins_itself p)

-- what begins with a text does not come before it
begins_behind : (p k : List ℕ) → begins p k ≡ true → key_cmp p k ≡ Greater → ⊥
begins_behind [] [] first before = cc before
begins_behind [] (b ∷ k) first before = cc before
begins_behind (a ∷ p) [] first before = cc first
begins_behind (a ∷ p) (b ∷ k) first before =
    let parts = and_parts (a == b) (begins p k) first in
    let same : a ≡ b = eqb-true a b parts.0 in
    let tied : nat_cmp a b ≡ Equal = ap (nat_cmp a) (sym same) ∙ tied_itself nat_cmp_total a in
    begins_behind p k parts.1 (sym (ap (λ (o : Ordering). ordering_then o (key_cmp p k)) tied) ∙ before)

-- what comes between a text and one that begins with it begins with it too
begins_between : (p f r : List ℕ) → key_cmp p f ≡ Less → key_cmp f r ≡ Less → begins p r ≡ true → begins p f ≡ true
begins_between [] f r past below first = refl
begins_between (a ∷ p) [] r past below first = absurd (cc past)
begins_between (a ∷ p) (b ∷ f) [] past below first = absurd (cc below)
begins_between (a ∷ p) (b ∷ f) (c ∷ r) past below first =
    let parts = and_parts (a == c) (begins p r) first in
    by_case (eqb-true a c parts.0) (nat_cmp a b) refl past (λ behind under. begins_between p f r behind under parts.1)
  where
    by_case : a ≡ c → (o : Ordering) → nat_cmp a b ≡ o → ordering_then o (key_cmp p f) ≡ Less
        → (key_cmp p f ≡ Less → key_cmp f r ≡ Less → begins p f ≡ true) → begins (a ∷ p) (b ∷ f) ≡ true
    by_case same Less is behind rest =
        let turned : nat_cmp b c ≡ Greater = ap (nat_cmp b) (sym same) ∙ nat_cmp_total.antisymm b a ∙ ap ordering_reverse is in
        let clash : Greater ≡ Less = sym (ap (λ (o : Ordering). ordering_then o (key_cmp f r)) turned) ∙ below in
        absurd (cc clash)
    by_case same Equal is behind rest =
        let here : a ≡ b = exact_unsigned a b is in
        let tied : nat_cmp b c ≡ Equal = ap (λ (x : ℕ). nat_cmp x c) (sym here) ∙ ap (nat_cmp a) (sym same) ∙ tied_itself nat_cmp_total a in
        and_from (a == b) (begins p f) (eq-eqb a b here)
        (rest behind (sym (ap (λ (o : Ordering). ordering_then o (key_cmp f r)) tied) ∙ below))
    by_case same Greater is behind rest = absurd (cc behind)

-- ---- keys in order

or_right : (a b : Bool) → b ≡ true → (a || b) ≡ true
or_right true b is = refl
or_right false b is = is

none_behind : (p k : List ℕ) (ks : List (List ℕ)) → key_cmp p k ≡ Less → begins p k ≡ false
    → AllByRecursion (λ y. key_cmp k y ≡ Less) ks → list_any (begins p) ks ≡ false
none_behind p k [] past fails all = refl
none_behind p k (r ∷ ks) past fails all = by_case (begins p r) refl (none_behind p k ks past fails all.1)
  where
    by_case : (b : Bool) → begins p r ≡ b → list_any (begins p) ks ≡ false → (begins p r || list_any (begins p) ks) ≡ false
    by_case true is rest = absurd (let clash : true ≡ false = sym (begins_between p k r past all.0 is) ∙ fails in cc clash)
    by_case false is rest = ap (λ (b : Bool). b || list_any (begins p) ks) is ∙ rest

first_decides : (p k : List ℕ) (ks : List (List ℕ)) → key_cmp p k ≡ Less → AllByRecursion (λ y. key_cmp k y ≡ Less) ks
    → (b : Bool) → begins p k ≡ b → (begins p k || false) ≡ (begins p k || list_any (begins p) ks)
first_decides p k ks past all true is =
    ap (λ (b : Bool). b || false) is ∙ sym (ap (λ (b : Bool). b || list_any (begins p) ks) is)
first_decides p k ks past all false is = ap (λ (b : Bool). begins p k || b) (sym (none_behind p k ks past is all))

-- the first key past the text tells of all of them
past_decides : (p : List ℕ) (o : Objects) → AreOrdered o → held_at o p ≡ None
    → list_any (begins p) (take 1 (keys_past p o)) ≡ list_any (begins p) (keys_of o)
unfolding IsStrictlySortedBy
past_decides p [] ordered none = refl
past_decides p (e ∷ es) ordered none = by_case (key_cmp p e.0) refl none (past_decides p es ordered.1)
  where
    no_before : (b : Bool) → begins p e.0 ≡ b → key_cmp p e.0 ≡ Greater → b ≡ false
    no_before true is before = absurd (begins_behind p e.0 is before)
    no_before false is before = refl

    by_case : (c : Ordering) → key_cmp p e.0 ≡ c → cond (is_eq c) (Some e.1) (held_at es p) ≡ None
        → (held_at es p ≡ None → list_any (begins p) (take 1 (keys_past p es)) ≡ list_any (begins p) (keys_of es))
        → list_any (begins p) (take 1 (cond (is_lt c) (e.0 ∷ keys_past p es) (keys_past p es))) ≡ (begins p e.0 || list_any (begins p) (keys_of es))
    by_case Less is absent rest = first_decides p e.0 (keys_of es) is ordered.0 (begins p e.0) refl
    by_case Equal is absent rest = absurd (cc absent)
    by_case Greater is absent rest =
        rest absent ∙ sym (ap (λ (b : Bool). b || list_any (begins p) (keys_of es)) (no_before (begins p e.0) refl is))

pub listed_decides : (p : List ℕ) (o : Objects) → AreOrdered o → held_at o p ≡ None
    → list_any (λ (i : KeyItem). begins p i.key) (listed p 1 o) ≡ list_any (begins p) (keys_of o)
listed_decides p o ordered none =
    list_any-map (begins p) (λ (i : KeyItem). i.key) (listed p 1 o) ∙ ap (list_any (begins p)) (keys_of_listed p 1 o) ∙ past_decides p o ordered none

-- a key that is held is one of them
pub held_decides : (p bytes : List ℕ) (o : Objects) → held_at o p ≡ Some bytes → list_any (begins p) (keys_of o) ≡ true
held_decides p bytes [] held = absurd (cc held)
held_decides p bytes (e ∷ es) held = by_case (key_cmp p e.0) refl held (held_decides p bytes es)
  where
    by_case : (c : Ordering) → key_cmp p e.0 ≡ c → cond (is_eq c) (Some e.1) (held_at es p) ≡ Some bytes
        → (held_at es p ≡ Some bytes → list_any (begins p) (keys_of es) ≡ true) → (begins p e.0 || list_any (begins p) (keys_of es)) ≡ true
    by_case Less is there rest = or_right (begins p e.0) (list_any (begins p) (keys_of es)) (rest there)
    by_case Equal is there rest =
        ap (λ (b : Bool). b || list_any (begins p) (keys_of es)) (ap (begins p) (sym (exact_bytes p e.0 is)) ∙ begins_itself p)
    by_case Greater is there rest = or_right (begins p e.0) (list_any (begins p) (keys_of es)) (rest there)

-- ---- what a store tells

pub held_is_found : (told : Option Objects) (p start : List ℕ) (held : Option (List ℕ)) → start ≡ p → is_some held ≡ true
    → IfTold told (λ o. held ≡ held_at o start) → IfTold told (λ o. AreOrdered o → true ≡ list_any (begins p) (keys_of o))
held_is_found None p start held from some is = tt
held_is_found (Some o) p start None from some is = absurd (cc some)
held_is_found (Some o) p start (Some bytes) from some is =
    λ ordered. sym (held_decides p bytes o (ap (held_at o) (sym from) ∙ sym is))

pub listed_is_found : (told mid : Option Objects) (p start : List ℕ) (held : Option (List ℕ)) (page : List KeyItem) (found : Bool)
    → mid ≡ told → start ≡ p → is_some held ≡ false → IfTold told (λ o. held ≡ held_at o start) → IfTold mid (λ o. page ≡ listed start 1 o)
    → found ≡ list_any (λ (i : KeyItem). begins p i.key) page → IfTold told (λ o. AreOrdered o → found ≡ list_any (begins p) (keys_of o))
listed_is_found None mid p start held page found same from none is given any = tt
listed_is_found (Some o) mid p start (Some bytes) page found same from none is given any = absurd (cc none)
listed_is_found (Some o) mid p start None page found same from none is given any =
    λ ordered.
    let absent : held_at o p ≡ None = ap (held_at o) (sym from) ∙ sym is in
    let listed_is : page ≡ listed start 1 o = subst (λ (t : Option Objects). IfTold t (λ x. page ≡ listed start 1 x)) same given in
    any ∙ ap (list_any (λ (i : KeyItem). begins p i.key)) (listed_is ∙ ap (λ (k : List ℕ). listed k 1 o) from) ∙ listed_decides p o ordered absent
