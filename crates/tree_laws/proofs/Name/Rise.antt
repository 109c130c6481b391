-- Names that rise.
use Rattle.std.proofs.Common.{◌≡◌, ℕ, List, [], ◌∷◌, Bool, true, false, cond, refl, ap, ◌∙◌}
use Rattle.std.proofs.lemmas.Cmp.{nat_list_cmp_total}
use Rattle.std.specs.BTreeMap.{insert_entry}
use Rattle.std.specs.Cmp.Lexicographic.{slice_cmp}
use Rattle.std.specs.Map.{keys_of, remove_entry}
use Rattle.std.specs.Ordering.{nat_cmp, ordering_reverse, match_ordering}
use Rattle.std.specs.declared.cmp.Ordering.{Ordering}
use Rattle.std.specs.declared.cmp.Ordering.TheVariants.{Less, Equal, Greater}
use Rattle.plain_tree.specs.Names.{RiseFrom, Rise}

abbrev compare : List ℕ → List ℕ → Ordering
compare = slice_cmp nat_cmp

from_lower : (low name : List ℕ) (names : List (List ℕ)) → compare low name ≡ Less → RiseFrom name names → RiseFrom low names
from_lower low name [] less rise = _
from_lower low name (first ∷ names) less rise = (nat_list_cmp_total.trans low name first less rise.0, rise.1)

flipped : (a b : List ℕ) → compare a b ≡ Greater → compare b a ≡ Less
flipped a b is = nat_list_cmp_total.antisymm b a ∙ ap ordering_reverse is

-- ---- one name more

insert_case : {X : Type 0} (low : List ℕ) (e : List ℕ × X) (es inserted : List (List ℕ × X)) (name : List ℕ) (v : X) (order : Ordering) → compare name e.0 ≡ order → compare low name ≡ Less
    → compare low e.0 ≡ Less → RiseFrom e.0 (keys_of es) → (compare e.0 name ≡ Less → RiseFrom e.0 (keys_of inserted))
    → RiseFrom low (keys_of (match_ordering order ((name, v) ∷ e ∷ es) ((e.0, v) ∷ es) (e ∷ inserted)))
insert_case low e es inserted name v Less is below first rise rest = (below, (is, rise))
insert_case low e es inserted name v Equal is below first rise rest = (first, rise)
insert_case low e es inserted name v Greater is below first rise rest = (first, rest (flipped name e.0 is))

insert_from : {X : Type 0} (low : List ℕ) (es : List (List ℕ × X)) (name : List ℕ) (v : X) → compare low name ≡ Less → RiseFrom low (keys_of es) → RiseFrom low (keys_of (insert_entry compare es name v))
insert_from low [] name v below rise = (below, _)
insert_from low (e ∷ es) name v below rise =
    insert_case low e es (insert_entry compare es name v) name v (compare name e.0) refl below rise.0 rise.1 (λ after. insert_from e.0 es name v after rise.1)

insert_first : {X : Type 0} (e : List ℕ × X) (es inserted : List (List ℕ × X)) (name : List ℕ) (v : X) (order : Ordering) → compare name e.0 ≡ order → RiseFrom e.0 (keys_of es)
    → (compare e.0 name ≡ Less → RiseFrom e.0 (keys_of inserted)) → Rise (keys_of (match_ordering order ((name, v) ∷ e ∷ es) ((e.0, v) ∷ es) (e ∷ inserted)))
insert_first e es inserted name v Less is rise rest = (is, rise)
insert_first e es inserted name v Equal is rise rest = rise
insert_first e es inserted name v Greater is rise rest = rest (flipped name e.0 is)

-- one name more
pub Rise-insert_entry : {X : Type 0} (es : List (List ℕ × X)) (name : List ℕ) (v : X) → Rise (keys_of es) → Rise (keys_of (insert_entry compare es name v))
Rise-insert_entry [] name v rise = _
Rise-insert_entry (e ∷ es) name v rise = insert_first e es (insert_entry compare es name v) name v (compare name e.0) refl rise (λ after. insert_from e.0 es name v after rise)

-- ---- one name less

remove_case : {X : Type 0} (low : List ℕ) (test : Bool) (e : List ℕ × X) (es others : List (List ℕ × X)) → compare low e.0 ≡ Less → RiseFrom e.0 (keys_of es) → RiseFrom e.0 (keys_of others)
    → RiseFrom low (keys_of (cond test es (e ∷ others)))
remove_case low true e es others first rise rest = from_lower low e.0 (keys_of es) first rise
remove_case low false e es others first rise rest = (first, rest)

remove_from : {X : Type 0} (low : List ℕ) (test : List ℕ → Bool) (es : List (List ℕ × X)) → RiseFrom low (keys_of es) → RiseFrom low (keys_of (remove_entry test es))
remove_from low test [] rise = rise
remove_from low test (e ∷ es) rise = remove_case low (test e.0) e es (remove_entry test es) rise.0 rise.1 (remove_from e.0 test es rise.1)

pub Rise-tail : (low : List ℕ) (names : List (List ℕ)) → RiseFrom low names → Rise names
Rise-tail low [] rise = _
Rise-tail low (name ∷ names) rise = rise.1

remove_first : {X : Type 0} (test : Bool) (e : List ℕ × X) (es others : List (List ℕ × X)) → RiseFrom e.0 (keys_of es) → RiseFrom e.0 (keys_of others) → Rise (keys_of (cond test es (e ∷ others)))
remove_first true e es others rise rest = Rise-tail e.0 (keys_of es) rise
remove_first false e es others rise rest = rest

-- one name less
pub Rise-remove_entry : {X : Type 0} (test : List ℕ → Bool) (es : List (List ℕ × X)) → Rise (keys_of es) → Rise (keys_of (remove_entry test es))
Rise-remove_entry test [] rise = rise
Rise-remove_entry test (e ∷ es) rise = remove_first (test e.0) e es (remove_entry test es) rise (remove_from e.0 test es rise)
