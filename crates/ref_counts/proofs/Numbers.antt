-- Numbers below the next one, through a change of the entries.
use Rattle.std.proofs.Common.{◌≡◌, ℕ, ◌+◌, ◌-◌, ◌∙◌, ◌<◌, ◌≤◌, ◌⊎◌, List, [], ◌∷◌, Bool, true, false, cond, Option, None, Some, refl, sym, ap, inl, inr, arith}
use Rattle.std.proofs.lemmas.List.Elements.{All-nil, All-cons, All-head, All-tail, All-weaker}
use Rattle.std.proofs.lemmas.Map.Views.{All-keys-insert_entry, All-map-remove_entry}
use Rattle.std.specs.Prelude.{filter}
use Rattle.std.specs.BTreeMap.{insert_entry, is_at}
use Rattle.std.specs.Cmp.{nat_cmp_is}
use Rattle.std.specs.Map.{keys_of, lookup, remove_entry, set_value}
use Rattle.std.specs.Ordering.{nat_cmp}
use Rattle.std.specs.declared.cmp.Ordering.TheVariants.{Equal, Greater}
use Rattle.plain_tree.specs.Tree.{Handle}
use Rattle.ref_counts.specs.Handles.{OpenHandles, AllBelow, opened}

-- with one more entry, under the next number
pub AllBelow-insert : {X : Type 0} (next : ℕ) (es : List (ℕ × X)) (v : X) → AllBelow next es → AllBelow (next + 1) (insert_entry nat_cmp es next v)
AllBelow-insert next es v below =
    All-keys-insert_entry nat_cmp next v (λ k. k < next + 1) es
    (All-weaker (λ k. k < next) (λ k. k < next + 1) (λ k h. omega arith) (keys_of es) below) (omega arith)

-- without that entry again
pub remove-insert_last : {X : Type 0} (k : ℕ) (v : X) (es : List (ℕ × X)) → AllBelow k es → remove_entry (is_at (nat_cmp k)) (insert_entry nat_cmp es k v) ≡ es
remove-insert_last k v [] below =
    let same : nat_cmp k k ≡ Equal = sym (nat_cmp_is k k Equal refl) in simp same
remove-insert_last k v (e ∷ es) below =
    let above : nat_cmp k e.0 ≡ Greater = sym (nat_cmp_is k e.0 Greater (All-head (λ q. q < k) e.0 (keys_of es) below)) in
    simp above (ap (λ xs. e ∷ xs) (remove-insert_last k v es (All-tail (λ q. q < k) e.0 (keys_of es) below)))

below_or_at : (n k : ℕ) → n < k + 1 → (n < k) ⊎ (n ≡ k)
below_or_at n k h = grind arith

-- where the last number is not there, all are below it
pub AllBelow-without_last : {X : Type 0} (k : ℕ) (es : List (ℕ × X)) → AllBelow (k + 1) es → lookup (is_at (nat_cmp k)) es ≡ None → AllBelow k es
AllBelow-without_last k [] below absent = All-nil (λ q. q < k)
AllBelow-without_last k (e ∷ es) below absent =
    elim (below_or_at e.0 k (All-head (λ q. q < k + 1) e.0 (keys_of es) below)) [
      | inl less ↦
          let above : nat_cmp k e.0 ≡ Greater = sym (nat_cmp_is k e.0 Greater less) in
          All-cons (λ q. q < k) e.0 (keys_of es) less
          (AllBelow-without_last k es (All-tail (λ q. q < k + 1) e.0 (keys_of es) below) (simp above at absent))
      | inr same ↦
          let at : nat_cmp k e.0 ≡ Equal = sym (nat_cmp_is k e.0 Equal (sym same)) in
          let found : Some e.1 ≡ None = simp at at absent in
          absurd (cc)
    ]

-- without the last number all are below it
pub AllBelow-remove_last : {X : Type 0} (k next : ℕ) (es others : List (ℕ × X)) → next ≤ k + 1 → AllBelow next es
    → others ≡ remove_entry (is_at (nat_cmp k)) es → lookup (is_at (nat_cmp k)) others ≡ None → AllBelow k others
AllBelow-remove_last k next es others near below removed absent =
    AllBelow-without_last k others
    (rw removed (All-map-remove_entry (is_at (nat_cmp k)) (λ e. e.0) (λ q. q < k + 1) es
    (All-weaker (λ q. q < next) (λ q. q < k + 1) (λ q h. omega arith) (keys_of es) below)))
    absent

set_value-same_cons : {X : Type 0} (test : Bool) (e : ℕ × X) (es others : List (ℕ × X)) (v : X) (here : Option X)
    → (here ≡ Some v → others ≡ es) → cond test (Some e.1) here ≡ Some v → cond test ((e.0, v) ∷ es) (e ∷ others) ≡ e ∷ es
set_value-same_cons true e es others v here same found = let at : e.1 ≡ v = cc in rw (← at)
set_value-same_cons false e es others v here same found = ap (λ xs. e ∷ xs) (same found)

-- writing back what a look-up found changes nothing
pub set_value-same : {X : Type 0} (test : ℕ → Bool) (es : List (ℕ × X)) (v : X) → lookup test es ≡ Some v → set_value test es v ≡ es
set_value-same test [] v found = refl
set_value-same test (e ∷ es) v found =
    set_value-same_cons (test e.0) e es (set_value test es v) v (lookup test es) (set_value-same test es v) found

-- without any entry
pub AllBelow-remove : {X : Type 0} (test : ℕ → Bool) (next : ℕ) (es : List (ℕ × X)) → AllBelow next es → AllBelow next (remove_entry test es)
AllBelow-remove test next es below = All-map-remove_entry test (λ e. e.0) (λ q. q < next) es below

-- the last handle taken back
pub handle_taken_back : (after h : OpenHandles) (handle : Handle) (k : ℕ) (handles : List (ℕ × Handle)) → after ≡ opened handle h → AllBelow h.next h.handles
    → k ≡ after.next - 1 → handles ≡ remove_entry (is_at (nat_cmp k)) after.handles → record { next = k; handles = handles } ≡ h
handle_taken_back after h handle k handles is below last removed =
    let same : k ≡ h.next = rw is at last ∙ omega arith in
    let left : handles ≡ h.handles =
    removed ∙ rw (is, same) (remove-insert_last h.next handle h.handles below) in
    rw (same, left) refl

-- those that pass a test
pub AllBelow-filter : {X : Type 0} (p : ℕ × X → Bool) (next : ℕ) (es : List (ℕ × X)) → AllBelow next es → AllBelow next (filter p es)
AllBelow-filter p next [] below = below
AllBelow-filter p next (e ∷ es) below = by_case (AllBelow-filter p next es (All-tail (λ k. k < next) e.0 (keys_of es) below)) (p e)
  where
    by_case : AllBelow next (filter p es) → (b : Bool) → AllBelow next (cond b (e ∷ filter p es) (filter p es))
    by_case others true = All-cons (λ k. k < next) e.0 (keys_of (filter p es)) (All-head (λ k. k < next) e.0 (keys_of es) below) others
    by_case others false = others
