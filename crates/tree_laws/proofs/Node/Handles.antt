-- Which inodes are open where handles come and go.
use Rattle.std.proofs.Common.{◌≡◌, ◌≢◌, ◌<◌, ℕ, List, [], ◌∷◌, Bool, true, false, cond, Option, None, Some, sym, ap, ◌∙◌, ◌⊎◌, inl, inr}
use Rattle.std.proofs.lemmas.Bool.{cond_both, eqb-true, or_left, or_right, or_cases}
use Rattle.std.proofs.lemmas.List.Elements.{All-head, All-tail}
use Rattle.std.specs.BTreeMap.{insert_entry}
use Rattle.std.specs.Cmp.{nat_cmp_is}
use Rattle.std.specs.List.{list_any, filter}
use Rattle.std.specs.Map.{keys_of, lookup, remove_entry}
use Rattle.std.specs.Ordering.{nat_cmp, match_ordering}
use Rattle.std.specs.Prelude.{◌==◌, All}
use Rattle.std.specs.declared.cmp.Ordering.{Ordering}
use Rattle.std.specs.declared.cmp.Ordering.TheVariants.{Less, Equal, Greater}
use Rattle.plain_tree.specs.Tree.{Handle, own_handle}

-- ---- a handle more

opened_if : (x next : ℕ) (handle : Handle) (e : ℕ × Handle) (es inserted : List (ℕ × Handle)) (order : Ordering)
    → (list_any (λ h. h.1.inode == x) inserted ≡ true → (handle.inode ≡ x) ⊎ (list_any (λ h. h.1.inode == x) es ≡ true))
    → list_any (λ h. h.1.inode == x) (match_ordering order ((next, handle) ∷ e ∷ es) ((e.0, handle) ∷ es) (e ∷ inserted)) ≡ true
    → (handle.inode ≡ x) ⊎ (list_any (λ h. h.1.inode == x) (e ∷ es) ≡ true)
opened_if x next handle e es inserted Less rest is =
    elim (or_cases (handle.inode == x) _ is) [
      | inl new ↦ inl (eqb-true handle.inode x new)
      | inr old ↦ inr old
    ]
opened_if x next handle e es inserted Equal rest is =
    elim (or_cases (handle.inode == x) _ is) [
      | inl new ↦ inl (eqb-true handle.inode x new)
      | inr old ↦ inr (or_right (e.1.inode == x) _ old)
    ]
opened_if x next handle e es inserted Greater rest is =
    elim (or_cases (e.1.inode == x) _ is) [
      | inl first ↦ inr (or_left (e.1.inode == x) _ first)
      | inr later ↦ elim (rest later) [
        | inl new ↦ inl new
        | inr old ↦ inr (or_right (e.1.inode == x) _ old)
      ]
    ]

-- what is open with a handle more was open, or is its own inode
pub opened_was : (x next : ℕ) (handle : Handle) (es : List (ℕ × Handle)) → list_any (λ h. h.1.inode == x) (insert_entry nat_cmp es next handle) ≡ true
    → (handle.inode ≡ x) ⊎ (list_any (λ h. h.1.inode == x) es ≡ true)
opened_was x next handle [] is =
    elim (or_cases (handle.inode == x) _ is) [
      | inl new ↦ inl (eqb-true handle.inode x new)
      | inr none ↦ inr none
    ]
opened_was x next handle (e ∷ es) is = opened_if x next handle e es (insert_entry nat_cmp es next handle) (nat_cmp next e.0) (opened_was x next handle es) is

-- what was open is open with a handle more
pub opened_stays : (x next : ℕ) (handle : Handle) (es : List (ℕ × Handle)) → All (λ k. k < next) (keys_of es) → list_any (λ h. h.1.inode == x) es ≡ true
    → list_any (λ h. h.1.inode == x) (insert_entry nat_cmp es next handle) ≡ true
opened_stays x next handle [] below is = absurd (cc is)
opened_stays x next handle (e ∷ es) below is =
    let less : e.0 < next = All-head (λ k. k < next) e.0 (keys_of es) below in
    let above : nat_cmp next e.0 ≡ Greater = sym (nat_cmp_is next e.0 Greater less) in
    simp above
    (elim (or_cases (e.1.inode == x) _ is) [
      | inl first ↦ or_left (e.1.inode == x) _ first
      | inr later ↦ or_right (e.1.inode == x) _ (opened_stays x next handle es (All-tail (λ k. k < next) e.0 (keys_of es) below) later)
    ])

-- ---- handles less

any_more : {X : Type 0} (p : X → Bool) (e : X) (es rest : List X) → (list_any p rest ≡ true → list_any p es ≡ true) → list_any p (e ∷ rest) ≡ true → list_any p (e ∷ es) ≡ true
any_more p e es rest later is = elim (or_cases (p e) (list_any p rest) is) [ inl first ↦ or_left (p e) (list_any p es) first | inr more ↦ or_right (p e) (list_any p es) (later more) ]

pub closed_was : (x : ℕ) (test : ℕ → Bool) (es : List (ℕ × Handle)) → list_any (λ h. h.1.inode == x) (remove_entry test es) ≡ true → list_any (λ h. h.1.inode == x) es ≡ true
closed_was x test [] is = is
closed_was x test (e ∷ es) is =
    cond_both (test e.0) es (e ∷ remove_entry test es) (λ (left : List (ℕ × Handle)). list_any (λ h. h.1.inode == x) left ≡ true → list_any (λ h. h.1.inode == x) (e ∷ es) ≡ true)
    (λ gone any. or_right (e.1.inode == x) _ any) (λ stays any. any_more (λ h. h.1.inode == x) e es (remove_entry test es) (closed_was x test es) any) is

stays_if : (x : ℕ) (e : ℕ × Handle) (es rest : List (ℕ × Handle)) (found : Option Handle) (handle : Handle) (test : Bool) → x ≢ handle.inode
    → (found ≡ Some handle → list_any (λ h. h.1.inode == x) es ≡ true → list_any (λ h. h.1.inode == x) rest ≡ true) → cond test (Some e.1) found ≡ Some handle
    → list_any (λ h. h.1.inode == x) (e ∷ es) ≡ true → list_any (λ h. h.1.inode == x) (cond test es (e ∷ rest)) ≡ true
stays_if x e es rest found handle true apart later is any =
    elim (or_cases (e.1.inode == x) _ any) [
      | inl first ↦
          let same : e.1 ≡ handle = cc is in
          absurd (apart (sym (eqb-true e.1.inode x first) ∙ ap (λ (h : Handle). h.inode) same))
      | inr more ↦ more
    ]
stays_if x e es rest found handle false apart later is any =
    elim (or_cases (e.1.inode == x) _ any) [
      | inl first ↦ or_left (e.1.inode == x) _ first
      | inr more ↦ or_right (e.1.inode == x) _ (later is more)
    ]

-- what was open is open with a handle less, but for its own inode
pub closed_stays : (x : ℕ) (test : ℕ → Bool) (es : List (ℕ × Handle)) (handle : Handle) → lookup test es ≡ Some handle → x ≢ handle.inode → list_any (λ h. h.1.inode == x) es ≡ true
    → list_any (λ h. h.1.inode == x) (remove_entry test es) ≡ true
closed_stays x test [] handle is apart any = absurd (cc any)
closed_stays x test (e ∷ es) handle is apart any = stays_if x e es (remove_entry test es) (lookup test es) handle (test e.0) apart (λ found. closed_stays x test es handle found apart) is any

pub filtered_was : (x : ℕ) (test : ℕ × Handle → Bool) (es : List (ℕ × Handle)) → list_any (λ h. h.1.inode == x) (filter test es) ≡ true → list_any (λ h. h.1.inode == x) es ≡ true
filtered_was x test [] is = is
filtered_was x test (e ∷ es) is =
    cond_both (test e) (e ∷ filter test es) (filter test es) (λ (left : List (ℕ × Handle)). list_any (λ h. h.1.inode == x) left ≡ true → list_any (λ h. h.1.inode == x) (e ∷ es) ≡ true)
    (λ stays any. any_more (λ h. h.1.inode == x) e es (filter test es) (filtered_was x test es) any) (λ gone any. or_right (e.1.inode == x) _ (filtered_was x test es any)) is

-- ---- whose it is

own_if : (test : Bool) (h handle : Handle) → cond test (Some h) None ≡ Some handle → Some h ≡ Some handle
own_if true h handle is = is
own_if false h handle is = absurd (cc is)

pub own_is : (pass : ℕ) (found : Option Handle) (handle : Handle) → own_handle pass found ≡ Some handle → found ≡ Some handle
own_is pass None handle is = absurd (cc is)
own_is pass (Some h) handle is = own_if (h.pass == pass) h handle is
