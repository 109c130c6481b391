-- What a look-up finds among entries that were inserted, removed or filtered.
use Rattle.std.proofs.Common.{◌≡◌, ℕ, List, [], ◌∷◌, Bool, true, false, cond, Option, None, Some, refl, sym, ap, ◌∙◌, inl, inr}
use Rattle.std.proofs.lemmas.Bool.{cond-true, eqb-true, eq-eqb, or_left, or_right, or_cases}
use Rattle.std.proofs.lemmas.Cmp.{nat_list_cmp_total, tied_itself}
use Rattle.std.specs.BTreeMap.{is_at}
use Rattle.std.specs.Cmp.Lexicographic.{slice_cmp}
use Rattle.std.specs.List.{list_any}
use Rattle.std.specs.Map.{keys_of, lookup, remove_entry}
use Rattle.std.specs.Ordering.{nat_cmp}
use Rattle.std.specs.Prelude.{◌==◌, ◌||◌}
use Rattle.std.specs.declared.cmp.Ordering.TheVariants.{Less, Equal}
use Rattle.plain_tree.specs.Names.{RiseFrom, Rise}
use Rattle.tree_laws.proofs.Name.Rise.{Rise-tail}
use Rattle.tree_laws.proofs.Node.Keys.{same_name, own_name, other_name}

none_if : {X : Type 0} (test : Bool) (v : X) (rest : Option X) → test ≡ false → rest ≡ None → cond test (Some v) rest ≡ None
none_if test v rest misses none = ap (λ b. cond b (Some v) rest) misses ∙ none

-- ---- names that rise

-- a name that is found is above the one before
above_if : (low name : List ℕ) (e : List ℕ × ℕ) (found : Option ℕ) (v : ℕ) (test : Bool) → is_at (slice_cmp nat_cmp name) e.0 ≡ test → slice_cmp nat_cmp low e.0 ≡ Less
    → (found ≡ Some v → slice_cmp nat_cmp e.0 name ≡ Less) → cond test (Some e.1) found ≡ Some v → slice_cmp nat_cmp low name ≡ Less
above_if low name e found v true here less rest is = ap (slice_cmp nat_cmp low) (same_name name e.0 here) ∙ less
above_if low name e found v false here less rest is = nat_list_cmp_total.trans low e.0 name less (rest is)

-- a name that is found is above what lies before
pub name_above_found : (low name : List ℕ) (es : List (List ℕ × ℕ)) (v : ℕ) → RiseFrom low (keys_of es) → lookup (is_at (slice_cmp nat_cmp name)) es ≡ Some v → slice_cmp nat_cmp low name ≡ Less
name_above_found low name [] v rise is = absurd (cc is)
name_above_found low name (e ∷ es) v rise is = above_if low name e _ v (is_at (slice_cmp nat_cmp name) e.0) refl rise.0 (name_above_found e.0 name es v rise.1) is

pub name_not_below : (name : List ℕ) → slice_cmp nat_cmp name name ≡ Less → ⊥
name_not_below name is =
    let both_ways : Less ≡ Equal = sym is ∙ tied_itself nat_list_cmp_total name in
    cc both_ways

none_above : (low : List ℕ) (es : List (List ℕ × ℕ)) (found : Option ℕ) → RiseFrom low (keys_of es) → lookup (is_at (slice_cmp nat_cmp low)) es ≡ found → found ≡ None
none_above low es None rise is = refl
none_above low es (Some v) rise is = absurd (name_not_below low (name_above_found low low es v rise is))

name_gone : (name : List ℕ) (test : Bool) (e : List ℕ × ℕ) (es rest : List (List ℕ × ℕ)) → is_at (slice_cmp nat_cmp name) e.0 ≡ test → RiseFrom e.0 (keys_of es)
    → lookup (is_at (slice_cmp nat_cmp name)) rest ≡ None → lookup (is_at (slice_cmp nat_cmp name)) (cond test es (e ∷ rest)) ≡ None
name_gone name true e es rest is rise none =
    ap (λ k. lookup (is_at (slice_cmp nat_cmp k)) es) (same_name name e.0 is) ∙ none_above e.0 es (lookup (is_at (slice_cmp nat_cmp e.0)) es) rise refl
name_gone name false e es rest is rise none = none_if (is_at (slice_cmp nat_cmp name) e.0) e.1 (lookup (is_at (slice_cmp nat_cmp name)) rest) is none

-- a removed name is not found
pub name_removed : (name : List ℕ) (es : List (List ℕ × ℕ)) → Rise (keys_of es) → lookup (is_at (slice_cmp nat_cmp name)) (remove_entry (is_at (slice_cmp nat_cmp name)) es) ≡ None
name_removed name [] rise = refl
name_removed name (e ∷ es) rise =
    name_gone name (is_at (slice_cmp nat_cmp name) e.0) e es (remove_entry (is_at (slice_cmp nat_cmp name)) es) refl rise (name_removed name es (Rise-tail e.0 (keys_of es) rise))

-- ---- an inode that some entry names

pub first_name : (e : List ℕ × ℕ) (es : List (List ℕ × ℕ)) → lookup (is_at (slice_cmp nat_cmp e.0)) (e ∷ es) ≡ Some e.1
first_name e es = cond-true _ _ _ (own_name e.0)

-- a later name is found past the first
pub past_first : (name : List ℕ) (e : List ℕ × ℕ) (es : List (List ℕ × ℕ)) (y : ℕ) → RiseFrom e.0 (keys_of es) → lookup (is_at (slice_cmp nat_cmp name)) es ≡ Some y
    → lookup (is_at (slice_cmp nat_cmp name)) (e ∷ es) ≡ Some y
past_first name e es y rise is =
    ap (λ b. cond b (Some e.1) (lookup (is_at (slice_cmp nat_cmp name)) es)) (other_name name e.0 (λ same. name_not_below e.0 (ap (slice_cmp nat_cmp e.0) (sym same) ∙ name_above_found e.0 name es y rise is))) ∙ is

-- where some entry names the inode, a look-up of its name finds it
pub named_in : (y : ℕ) (es : List (List ℕ × ℕ)) → Rise (keys_of es) → list_any (λ e. e.1 == y) es ≡ true → (name : List ℕ) × (lookup (is_at (slice_cmp nat_cmp name)) es ≡ Some y)
named_in y [] rise is = absurd (cc is)
named_in y (e ∷ es) rise is =
    elim (or_cases (e.1 == y) (list_any (λ e. e.1 == y) es) is) [
      | inl here ↦ (e.0, first_name e es ∙ ap Some (eqb-true e.1 y here))
      | inr later ↦
          let found = named_in y es (Rise-tail e.0 (keys_of es) rise) later in
          (found.0, past_first found.0 e es y rise found.1)
    ]

found_any : (y : ℕ) (e : List ℕ × ℕ) (found : Option ℕ) (others test : Bool) → cond test (Some e.1) found ≡ Some y → (found ≡ Some y → others ≡ true) → ((e.1 == y) || others) ≡ true
found_any y e found others true is rest =
    let same : e.1 ≡ y = cc is in
    or_left (e.1 == y) others (eq-eqb e.1 y same)
found_any y e found others false is rest = or_right (e.1 == y) others (rest is)

-- where a look-up finds the inode, some entry names it
pub any_named : (y : ℕ) (name : List ℕ) (es : List (List ℕ × ℕ)) → lookup (is_at (slice_cmp nat_cmp name)) es ≡ Some y → list_any (λ e. e.1 == y) es ≡ true
any_named y name [] is = absurd (cc is)
any_named y name (e ∷ es) is = found_any y e _ _ (is_at (slice_cmp nat_cmp name) e.0) is (any_named y name es)
