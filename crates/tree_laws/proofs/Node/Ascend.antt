-- Lists of numbers that ascend.
use Rattle.std.proofs.Common.{◌≡◌, ◌≤◌, ◌<◌, ℕ, ◌+◌, List, [], ◌∷◌, ◌++◌, Bool, true, false, cond, Option, None, Some, refl, sym, arith}
use Rattle.std.specs.BTreeMap.{insert_entry}
use Rattle.std.specs.Cmp.{nat_cmp_is}
use Rattle.std.specs.List.{filter, filter_map, cons_option}
use Rattle.std.specs.Map.{keys_of, remove_entry}
use Rattle.std.specs.Ordering.{nat_cmp}
use Rattle.std.specs.declared.cmp.Ordering.TheVariants.{Greater}
use Rattle.plain_tree.specs.Numbers.{Ascend}

pub Ascend-lower : (low least : ℕ) (numbers : List ℕ) (next : ℕ) → least ≤ low → Ascend low numbers next → Ascend least numbers next
Ascend-lower low least [] next less ascend = omega (arith, less, ascend)
Ascend-lower low least (number ∷ numbers) next less ascend = (omega (arith, less, ascend.0), ascend.1)

Ascend-tail : (low number : ℕ) (numbers : List ℕ) (next : ℕ) → Ascend low (number ∷ numbers) next → Ascend low numbers next
Ascend-tail low number numbers next ascend = Ascend-lower (number + 1) low numbers next (omega (arith, ascend.0)) ascend.1

pub Ascend-append : (low : ℕ) (numbers others : List ℕ) (middle next : ℕ) → Ascend low numbers middle → Ascend middle others next → Ascend low (numbers ++ others) next
Ascend-append low [] others middle next first second = Ascend-lower middle low others next first second
Ascend-append low (number ∷ numbers) others middle next first second = (first.0, Ascend-append (number + 1) numbers others middle next first.1 second)

-- the first number that may come is at most the next one
pub Ascend-least : (low : ℕ) (numbers : List ℕ) (next : ℕ) → Ascend low numbers next → low ≤ next
Ascend-least low [] next ascend = ascend
Ascend-least low (number ∷ numbers) next ascend = omega (arith, ascend.0, Ascend-least (number + 1) numbers next ascend.1)

-- ---- keys of entries

ascend-cond : {X : Type 0} (low : ℕ) (test : Bool) (a b : List (ℕ × X)) (next : ℕ) → Ascend low (keys_of a) next → Ascend low (keys_of b) next → Ascend low (keys_of (cond test a b)) next
ascend-cond low true a b next first second = first
ascend-cond low false a b next first second = second

pub Ascend-remove_entry : {X : Type 0} (low : ℕ) (test : ℕ → Bool) (es : List (ℕ × X)) (next : ℕ) → Ascend low (keys_of es) next → Ascend low (keys_of (remove_entry test es)) next
Ascend-remove_entry low test [] next ascend = ascend
Ascend-remove_entry low test (e ∷ es) next ascend =
    ascend-cond low (test e.0) es (e ∷ remove_entry test es) next (Ascend-tail low e.0 (keys_of es) next ascend) (ascend.0, Ascend-remove_entry (e.0 + 1) test es next ascend.1)

pub Ascend-filter : {X : Type 0} (low : ℕ) (test : ℕ × X → Bool) (es : List (ℕ × X)) (next : ℕ) → Ascend low (keys_of es) next → Ascend low (keys_of (filter test es)) next
Ascend-filter low test [] next ascend = ascend
Ascend-filter low test (e ∷ es) next ascend =
    ascend-cond low (test e) (e ∷ filter test es) (filter test es) next
    (ascend.0, Ascend-filter (e.0 + 1) test es next ascend.1)
    (Ascend-filter low test es next (Ascend-tail low e.0 (keys_of es) next ascend))

pub Ascend-insert_entry : {X : Type 0} (low : ℕ) (es : List (ℕ × X)) (next : ℕ) (v : X) → Ascend low (keys_of es) next → Ascend low (keys_of (insert_entry nat_cmp es next v)) (next + 1)
Ascend-insert_entry low [] next v ascend = (ascend, omega arith)
Ascend-insert_entry low (e ∷ es) next v ascend =
    let less : e.0 < next = omega (arith, Ascend-least (e.0 + 1) (keys_of es) next ascend.1) in
    let above : nat_cmp next e.0 ≡ Greater = sym (nat_cmp_is next e.0 Greater less) in
    simp above (ascend.0, Ascend-insert_entry (e.0 + 1) es next v ascend.1)

-- what a map that may drop entries leaves, where it keeps their numbers
left_if : {X : Type 0} (low next : ℕ) (e : ℕ × X) (found : Option (ℕ × X)) (others : List (ℕ × X)) → ((x : ℕ × X) → found ≡ Some x → x.0 ≡ e.0) → low ≤ e.0
    → Ascend (e.0 + 1) (keys_of others) next → Ascend low (keys_of others) next → Ascend low (keys_of (cons_option found others)) next
left_if low next e None others keeps first rest without = without
left_if low next e (Some x) others keeps first rest without = rw (keeps x refl) (first, rest)

pub Ascend-filter_map : {X : Type 0} (keep : ℕ × X → Option (ℕ × X)) → ((e x : ℕ × X) → keep e ≡ Some x → x.0 ≡ e.0) → (low : ℕ) (es : List (ℕ × X)) (next : ℕ) → Ascend low (keys_of es) next
    → Ascend low (keys_of (filter_map keep es)) next
Ascend-filter_map keep keeps low [] next ascend = ascend
Ascend-filter_map keep keeps low (e ∷ es) next ascend =
    left_if low next e (keep e) (filter_map keep es) (keeps e) ascend.0
    (Ascend-filter_map keep keeps (e.0 + 1) es next ascend.1)
    (Ascend-filter_map keep keeps low es next (Ascend-tail low e.0 (keys_of es) next ascend))
