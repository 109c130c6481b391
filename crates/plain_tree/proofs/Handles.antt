-- The numbers of handles, and whose they are, through a change of the handles.
use Rattle.std.proofs.Common.{◌≡◌, ◌≢◌, ℕ, ◌+◌, ◌<◌, List, [], ◌∷◌, Bool, true, false, cond, Option, None, Some, refl, sym, ap, inl, inr, ◌∙◌, arith, nat_eq}
use Rattle.std.specs.Prelude.{All, ◌==◌, not}
use Rattle.std.specs.List.{filter, IsDistinct}
use Rattle.std.proofs.lemmas.Bool.{cases_eq, eqb-true, eq-eqb, ne_eqb}
use Rattle.std.proofs.lemmas.Cmp.{eq_by_cmp_equiv, nat_cmp_total}
use Rattle.std.proofs.lemmas.List.Elements.{All-cons, All-head, All-tail, All-weaker, All-from_recursion, recursion_from_All}
use Rattle.std.proofs.lemmas.Map.{lookup-remove_entry}
use Rattle.std.proofs.lemmas.Map.Entries.{option_filter, lookup-filter-values}
use Rattle.std.proofs.lemmas.Map.Keys.{IsDistinct-head, IsDistinct-tail, IsDistinct-cons, IsDistinct-from_apart, apart_from_distinct}
use Rattle.std.proofs.lemmas.Map.Made.{IsDistinct-keys_filter}
use Rattle.std.proofs.lemmas.Map.Views.{All-keys-insert_entry, All-map-remove_entry}
use Rattle.std.specs.BTreeMap.{insert_entry, is_at}
use Rattle.std.specs.Cmp.{nat_cmp_is, unsigned_tied}
use Rattle.std.specs.Map.{keys_of, lookup, remove_entry}
use Rattle.std.specs.Ordering.{nat_cmp, eq_by_cmp}
use Rattle.std.specs.declared.cmp.Ordering.TheVariants.{Greater}
use Rattle.plain_tree.specs.Operations.{HandlesBelow, HandlesApart}
use Rattle.plain_tree.specs.Tree.{Tree, Handle, own_handle, handle_of}
use Rattle.plain_tree.proofs.Changes.{Change, Kept, Opened, Closed, Left}

-- ---- numbers below the next one

below-cond : (next : ℕ) (test : Bool) (e : ℕ × Handle) (es others : List (ℕ × Handle)) → All (λ k. k < next) (keys_of (e ∷ es)) → All (λ k. k < next) (keys_of others)
    → All (λ k. k < next) (keys_of (cond test (e ∷ others) others))
below-cond next true e es others below rest = All-cons (λ k. k < next) e.0 (keys_of others) (All-head (λ k. k < next) e.0 (keys_of es) below) rest
below-cond next false e es others below rest = rest

below-filter : (next : ℕ) (p : ℕ × Handle → Bool) (es : List (ℕ × Handle)) → All (λ k. k < next) (keys_of es) → All (λ k. k < next) (keys_of (filter p es))
below-filter next p [] below = below
below-filter next p (e ∷ es) below =
    below-cond next (p e) e es (filter p es) below (below-filter next p es (All-tail (λ k. k < next) e.0 (keys_of es) below))

pub below-change : (t : Tree) (pass : ℕ) (after : Tree) → Change t pass after → HandlesBelow t → HandlesBelow after
below-change t pass after (Kept kept) below = rw (kept.handles, kept.next) below
below-change t pass after (Opened handle own handles next) below =
    rw (handles, next)
    (All-keys-insert_entry nat_cmp t.next_handle handle (λ k. k < t.next_handle + 1) t.handles
    (All-weaker (λ k. k < t.next_handle) (λ k. k < t.next_handle + 1) (λ k less. omega arith) (keys_of t.handles) below) (omega arith))
below-change t pass after (Closed number handle is handles next) below =
    rw (handles, next) (All-map-remove_entry (is_at (nat_cmp number)) (λ e. e.0) (λ k. k < t.next_handle) t.handles below)
below-change t pass after (Left handles next) below =
    rw (handles, next) (below-filter t.next_handle (λ h. not (h.1.pass == pass)) t.handles below)

-- ---- numbers apart

pub apart-none : IsDistinct nat_eq []
unfolding IsDistinct
apart-none = tt

apart-insert : (next : ℕ) (es : List (ℕ × Handle)) (v : Handle) → All (λ k. k < next) (keys_of es) → IsDistinct nat_eq (keys_of es)
    → IsDistinct nat_eq (keys_of (insert_entry nat_cmp es next v))
apart-insert next [] v below apart = IsDistinct-cons nat_eq next [] tt apart
apart-insert next (e ∷ es) v below apart =
    let less : e.0 < next = All-head (λ k. k < next) e.0 (keys_of es) below in
    let above : nat_cmp next e.0 ≡ Greater = sym (nat_cmp_is next e.0 Greater less) in
    let differs : nat_eq e.0 next ≡ false = ne_eqb e.0 next (λ equal. omega arith) in
    let before = All-from_recursion (λ y. nat_eq e.0 y ≡ false) (keys_of es) (IsDistinct-head nat_eq e.0 (keys_of es) apart) in
    simp above
    (IsDistinct-cons nat_eq e.0 (keys_of (insert_entry nat_cmp es next v))
    (recursion_from_All (λ y. nat_eq e.0 y ≡ false) _ (All-keys-insert_entry nat_cmp next v (λ y. nat_eq e.0 y ≡ false) es before differs))
    (apart-insert next es v (All-tail (λ k. k < next) e.0 (keys_of es) below) (IsDistinct-tail nat_eq e.0 (keys_of es) apart)))

apart-cond : (test : Bool) (e : ℕ × Handle) (es others : List (ℕ × Handle)) → IsDistinct nat_eq (keys_of es) → All (λ y. nat_eq e.0 y ≡ false) (keys_of others)
    → IsDistinct nat_eq (keys_of others) → IsDistinct nat_eq (keys_of (cond test es (e ∷ others)))
apart-cond true e es others apart differ rest = apart
apart-cond false e es others apart differ rest =
    IsDistinct-cons nat_eq e.0 (keys_of others) (recursion_from_All (λ y. nat_eq e.0 y ≡ false) (keys_of others) differ) rest

apart-remove : (test : ℕ → Bool) (es : List (ℕ × Handle)) → IsDistinct nat_eq (keys_of es) → IsDistinct nat_eq (keys_of (remove_entry test es))
apart-remove test [] apart = apart
apart-remove test (e ∷ es) apart =
    let tail : IsDistinct nat_eq (keys_of es) = IsDistinct-tail nat_eq e.0 (keys_of es) apart in
    apart-cond (test e.0) e es (remove_entry test es) tail
    (All-map-remove_entry test (λ e. e.0) (λ y. nat_eq e.0 y ≡ false) es
    (All-from_recursion (λ y. nat_eq e.0 y ≡ false) (keys_of es) (IsDistinct-head nat_eq e.0 (keys_of es) apart)))
    (apart-remove test es tail)

pub apart-change : (t : Tree) (pass : ℕ) (after : Tree) → Change t pass after → HandlesBelow t → HandlesApart t → HandlesApart after
apart-change t pass after (Kept kept) below apart = rw kept.handles apart
apart-change t pass after (Opened handle own handles next) below apart = rw handles (apart-insert t.next_handle t.handles handle below apart)
apart-change t pass after (Closed number handle is handles next) below apart = rw handles (apart-remove (is_at (nat_cmp number)) t.handles apart)
apart-change t pass after (Left handles next) below apart = rw handles (IsDistinct-keys_filter nat_eq (λ h. not (h.1.pass == pass)) t.handles apart)

-- ---- whose they are

own-some : (other : ℕ) (handle : Handle) → handle.pass ≢ other → own_handle other (Some handle) ≡ None
own-some other handle differs = rw (ne_eqb handle.pass other differs) refl

own-here : (other : ℕ) (test : Bool) (handle : Handle) → handle.pass ≢ other → own_handle other (cond test (Some handle) None) ≡ None
own-here other true handle differs = own-some other handle differs
own-here other false handle differs = refl

own-cons : (other : ℕ) (test : Bool) (handle : Handle) (a b : Option Handle) → own_handle other a ≡ own_handle other b
    → own_handle other (cond test (Some handle) a) ≡ own_handle other (cond test (Some handle) b)
own-cons other true handle a b same = refl
own-cons other false handle a b same = same

own-insert : (other q next : ℕ) (handle : Handle) (es : List (ℕ × Handle)) → handle.pass ≢ other → All (λ k. k < next) (keys_of es)
    → own_handle other (lookup (is_at (nat_cmp q)) (insert_entry nat_cmp es next handle)) ≡ own_handle other (lookup (is_at (nat_cmp q)) es)
own-insert other q next handle [] differs below = own-here other (is_at (nat_cmp q) next) handle differs
own-insert other q next handle (e ∷ es) differs below =
    let less : e.0 < next = All-head (λ k. k < next) e.0 (keys_of es) below in
    let above : nat_cmp next e.0 ≡ Greater = sym (nat_cmp_is next e.0 Greater less) in
    simp above
    (own-cons other (is_at (nat_cmp q) e.0) e.1 _ _ (own-insert other q next handle es differs (All-tail (λ k. k < next) e.0 (keys_of es) below)))

-- apart by the order too
apart-by_order : (ks : List ℕ) → IsDistinct nat_eq ks → IsDistinct (eq_by_cmp nat_cmp) ks
apart-by_order ks apart = IsDistinct-from_apart (eq_by_cmp nat_cmp) ks (λ i j d less within. unsigned_tied _ _ ∙ apart_from_distinct nat_eq ks i j d apart less within)

own-filtered : (pass other : ℕ) (found : Option Handle) → other ≢ pass → own_handle other (option_filter (λ h. not (h.pass == pass)) found) ≡ own_handle other found
own-filtered pass other None differs = refl
own-filtered pass other (Some handle) differs =
    elim (cases_eq handle.pass pass) [
      | inl own ↦
          let test : (handle.pass == pass) ≡ true = eq-eqb handle.pass pass own in
          let another : (handle.pass == other) ≡ false = ne_eqb handle.pass other (λ same. differs (sym same ∙ own)) in
          rw (test, another) refl
      | inr not_own ↦ let test : (handle.pass == pass) ≡ false = ne_eqb handle.pass pass not_own in rw test refl
    ]

own-filter : (pass other q : ℕ) (es : List (ℕ × Handle)) → other ≢ pass → IsDistinct nat_eq (keys_of es)
    → own_handle other (lookup (is_at (nat_cmp q)) (filter (λ h. not (h.1.pass == pass)) es)) ≡ own_handle other (lookup (is_at (nat_cmp q)) es)
own-filter pass other q es differs apart =
    ap (own_handle other) (lookup-filter-values (eq_by_cmp_equiv nat_cmp_total) (λ h. not (h.pass == pass)) q es (apart-by_order (keys_of es) apart))
    ∙ own-filtered pass other (lookup (is_at (nat_cmp q)) es) differs

-- a handle that is a pass's own is none of another
own-another : (pass other : ℕ) (found : Option Handle) (handle : Handle) → own_handle pass found ≡ Some handle → other ≢ pass → own_handle other found ≡ None
own-another pass other None handle is differs = refl
own-another pass other (Some found) handle is differs =
    elim (cases_eq found.pass other) [
      | inr not_other ↦ own-some other found not_other
      | inl another ↦
          let none : None ≡ Some handle = sym (own-some pass found (λ same. differs (sym another ∙ same))) ∙ is in
          absurd (cc none)
    ]

own-removed : (other k q : ℕ) (test : Bool) (found : Option Handle) → is_at (nat_cmp k) q ≡ test → (test ≡ true → own_handle other found ≡ None)
    → own_handle other (cond test None found) ≡ own_handle other found
own-removed other k q true found is none = sym (none refl)
own-removed other k q false found is none = refl

same-number : (x y : ℕ) → eq_by_cmp nat_cmp x y ≡ true → x ≡ y
same-number x y is = eqb-true x y (sym (unsigned_tied x y) ∙ is)

own-remove : (pass other k q : ℕ) (handle : Handle) (es : List (ℕ × Handle)) → other ≢ pass → IsDistinct nat_eq (keys_of es)
    → own_handle pass (lookup (is_at (nat_cmp k)) es) ≡ Some handle
    → own_handle other (lookup (is_at (nat_cmp q)) (remove_entry (is_at (nat_cmp k)) es)) ≡ own_handle other (lookup (is_at (nat_cmp q)) es)
own-remove pass other k q handle es differs apart is =
    ap (own_handle other)
    (lookup-remove_entry (eq_by_cmp_equiv nat_cmp_total) (is_at (nat_cmp k)) (λ x y at. ap (λ z. eq_by_cmp nat_cmp z y) (same-number k x at)) q es (apart-by_order (keys_of es) apart))
    ∙ own-removed other k q (is_at (nat_cmp k) q) (lookup (is_at (nat_cmp q)) es) refl
    (λ at. ap (λ z. own_handle other (lookup (is_at (nat_cmp z)) es)) (sym (same-number k q at)) ∙ own-another pass other _ handle is differs)

pub own-change : (t : Tree) (pass other number : ℕ) (after : Tree) → Change t pass after → HandlesBelow t → HandlesApart t → other ≢ pass
    → handle_of after other number ≡ handle_of t other number
own-change t pass other number after (Kept kept) below apart differs = rw kept.handles refl
own-change t pass other number after (Opened handle own handles next) below apart differs =
    rw handles (own-insert other number t.next_handle handle t.handles (λ same. differs (sym same ∙ own)) below)
own-change t pass other number after (Closed closed handle is handles next) below apart differs =
    rw handles (own-remove pass other closed number handle t.handles differs apart is)
own-change t pass other number after (Left handles next) below apart differs = rw handles (own-filter pass other number t.handles differs apart)
