-- How many entries name an inode: one where one place names it, and then no other does.
use Rattle.std.proofs.Common.{◌≡◌, ℕ, ◌+◌, List, [], ◌∷◌, Bool, true, false, cond, Some, refl, sym, ap, ◌∙◌, arith, ◌≢◌, ◌≤◌, Option, inl, inr}
use Rattle.std.proofs.lemmas.Bool.{eqb-true, eq-eqb, or_parts, false_from_ne_true, both_ways, cases_eq}
use Rattle.std.proofs.lemmas.List.Sums.{sum_by-cons}
use Rattle.std.specs.BTreeMap.{is_at}
use Rattle.std.specs.Cmp.Lexicographic.{slice_cmp}
use Rattle.std.specs.List.{list_any}
use Rattle.std.specs.Map.{keys_of, values_of, lookup}
use Rattle.std.specs.Ordering.{nat_cmp}
use Rattle.std.specs.Prelude.{◌==◌, sum_by, count_by}
use Rattle.std.specs.declared.cmp.Ordering.{Ordering}
use Rattle.plain_tree.specs.Attributes.{names_in}
use Rattle.plain_tree.specs.Entries.{entries_of, entry_at}
use Rattle.plain_tree.specs.Names.{RiseFrom, Rise, NamesRise}
use Rattle.plain_tree.specs.Numbers.{Ascend}
use Rattle.plain_tree.specs.Tree.{Content, Regular, Directory, Link, Node, entry_of, Tree, node_at}
use Rattle.plain_tree.specs.WellFormed.{entries_naming}
use Rattle.tree_laws.proofs.Name.Reading.{named_in, first_name, past_first, name_not_below, name_above_found}
use Rattle.tree_laws.proofs.Name.Rise.{Rise-tail}
use Rattle.tree_laws.proofs.Node.Keys.{same_name, own_name, same_number, own_number, Tells, numbers_tell, names_tell, cases_name}
use Rattle.tree_laws.proofs.Node.Kind.{entry_in, entry_some}
use Rattle.tree_laws.proofs.Node.Reading.{past_node, first_node}
use Rattle.tree_laws.proofs.Shape.Named.{entry_named, named_at}

-- ---- counts where a test fails

count_none : (x : ℕ) (es : List (List ℕ × ℕ)) → list_any (λ e. e.1 == x) es ≡ false → count_by (λ e. e.1 == x) es ≡ 0
count_none x [] none = refl
count_none x (e ∷ es) none =
    let parts = or_parts (e.1 == x) (list_any (λ e. e.1 == x) es) none in
    sum_by-cons (λ (e : List ℕ × ℕ). cond (e.1 == x) 1 0) e es ∙ ap (λ b. cond b 1 0 + count_by (λ (e : List ℕ × ℕ). e.1 == x) es) parts.0 ∙ ap (λ k. 0 + k) (count_none x es parts.1)

names_none : (x : ℕ) (content : Content) → list_any (λ e. e.1 == x) (entries_of content) ≡ false → names_in x content ≡ 0
names_none x (Directory entries) none = count_none x entries none
names_none x (Regular bytes) none = refl
names_none x (Link target) none = refl

pub sum_none : (x : ℕ) (es : List (ℕ × Node)) → list_any (λ e. list_any (λ entry. entry.1 == x) (entries_of e.1.content)) es ≡ false → sum_by (λ e. names_in x e.1.content) es ≡ 0
sum_none x [] none = refl
sum_none x (e ∷ es) none =
    let parts = or_parts (list_any (λ entry. entry.1 == x) (entries_of e.1.content)) (list_any (λ e. list_any (λ entry. entry.1 == x) (entries_of e.1.content)) es) none in
    let head : names_in x e.1.content ≡ 0 = names_none x e.1.content parts.0 in
    let rest : sum_by (λ (e : ℕ × Node). names_in x e.1.content) es ≡ 0 = sum_none x es parts.1 in
    sum_by-cons (λ (e : ℕ × Node). names_in x e.1.content) e es ∙ omega (arith, head, rest)

-- ---- one entry

abbrev OnlyName : ℕ → List ℕ → List (List ℕ × ℕ) → Type 0
OnlyName x n es = (m : List ℕ) → lookup (is_at (slice_cmp nat_cmp m)) es ≡ Some x → m ≡ n

count_step : (x : ℕ) (n : List ℕ) (e : List ℕ × ℕ) (es : List (List ℕ × ℕ)) (test : Bool) → is_at (slice_cmp nat_cmp n) e.0 ≡ test → RiseFrom e.0 (keys_of es) → OnlyName x n (e ∷ es)
    → (lookup (is_at (slice_cmp nat_cmp n)) es ≡ Some x → OnlyName x n es → count_by (λ e. e.1 == x) es ≡ 1) → cond test (Some e.1) (lookup (is_at (slice_cmp nat_cmp n)) es) ≡ Some x
    → count_by (λ e. e.1 == x) (e ∷ es) ≡ 1
count_step x n e es true here rise only rest is =
    let named : e.1 ≡ x = cc is in
    let none : list_any (λ e. e.1 == x) es ≡ false = false_from_ne_true (list_any (λ e. e.1 == x) es) (λ any.
    let found = named_in x es (Rise-tail e.0 (keys_of es) rise) any in
    let same : found.0 ≡ e.0 = only found.0 (past_first found.0 e es x rise found.1) ∙ same_name n e.0 here in
    name_not_below e.0 (ap (slice_cmp nat_cmp e.0) (sym same) ∙ name_above_found e.0 found.0 es x rise found.1)) in
    sum_by-cons (λ (e : List ℕ × ℕ). cond (e.1 == x) 1 0) e es ∙ ap (λ b. cond b 1 0 + count_by (λ (e : List ℕ × ℕ). e.1 == x) es) (eq-eqb e.1 x named) ∙ ap (λ k. 1 + k) (count_none x es none)
count_step x n e es false here rise only rest is =
    let misses : (e.1 == x) ≡ false = false_from_ne_true (e.1 == x) (λ hit.
    let same : e.0 ≡ n = only e.0 (first_name e es ∙ ap Some (eqb-true e.1 x hit)) in
    both_ways _ (ap (λ k. is_at (slice_cmp nat_cmp k) e.0) same ∙ here) (own_name e.0)) in
    sum_by-cons (λ (e : List ℕ × ℕ). cond (e.1 == x) 1 0) e es ∙ ap (λ b. cond b 1 0 + count_by (λ (e : List ℕ × ℕ). e.1 == x) es) misses
    ∙ ap (λ k. 0 + k) (rest is (λ m found. only m (past_first m e es x rise found)))

count_one : (x : ℕ) (n : List ℕ) (es : List (List ℕ × ℕ)) → Rise (keys_of es) → lookup (is_at (slice_cmp nat_cmp n)) es ≡ Some x → OnlyName x n es → count_by (λ e. e.1 == x) es ≡ 1
count_one x n [] rise is only = absurd (cc is)
count_one x n (e ∷ es) rise is only =
    count_step x n e es (is_at (slice_cmp nat_cmp n) e.0) refl rise only (λ found alone. count_one x n es (Rise-tail e.0 (keys_of es) rise) found alone) is

names_one : (x : ℕ) (n : List ℕ) (content : Content) → Rise (keys_of (entries_of content)) → entry_of content n ≡ Some x → ((m : List ℕ) → entry_of content m ≡ Some x → m ≡ n) → names_in x content ≡ 1
names_one x n (Directory entries) rise is only = count_one x n entries rise is only
names_one x n (Regular bytes) rise is only = absurd (cc is)
names_one x n (Link target) rise is only = absurd (cc is)

-- ---- one place

abbrev OnlyPlace : ℕ → ℕ → List ℕ → List (ℕ × Node) → Type 0
OnlyPlace x p n es = (q : ℕ) (m : List ℕ) → entry_in m (lookup (is_at (nat_cmp q)) es) ≡ Some x → (q ≡ p) × (m ≡ n)

sum_step : (x p : ℕ) (n : List ℕ) (e : ℕ × Node) (es : List (ℕ × Node)) (next : ℕ) (test : Bool) → is_at (nat_cmp p) e.0 ≡ test → Ascend (e.0 + 1) (keys_of es) next → Rise (keys_of (entries_of e.1.content))
    → NamesRise (values_of es) → OnlyPlace x p n (e ∷ es) → (entry_in n (lookup (is_at (nat_cmp p)) es) ≡ Some x → OnlyPlace x p n es → sum_by (λ e. names_in x e.1.content) es ≡ 1)
    → entry_in n (cond test (Some e.1) (lookup (is_at (nat_cmp p)) es)) ≡ Some x → sum_by (λ e. names_in x e.1.content) (e ∷ es) ≡ 1
sum_step x p n e es next true here ascend rise rising only rest is =
    let first : p ≡ e.0 = same_number p e.0 here in
    let head : names_in x e.1.content ≡ 1 = names_one x n e.1.content rise is (λ m found. (only e.0 m (ap (entry_in m) (first_node e es) ∙ found)).1) in
    let none : list_any (λ e. list_any (λ entry. entry.1 == x) (entries_of e.1.content)) es ≡ false =
    false_from_ne_true (list_any (λ e. list_any (λ entry. entry.1 == x) (entries_of e.1.content)) es) (λ any.
    let found = named_at x (e.0 + 1) es next ascend rising any in
    let past = past_node x found.0 found.1 e es next ascend found.2 in
    past.0 ((only found.0 found.1 past.1).0 ∙ first)) in
    let tail : sum_by (λ (e : ℕ × Node). names_in x e.1.content) es ≡ 0 = sum_none x es none in
    sum_by-cons (λ (e : ℕ × Node). names_in x e.1.content) e es ∙ omega (arith, head, tail)
sum_step x p n e es next false here ascend rise rising only rest is =
    let none : list_any (λ entry. entry.1 == x) (entries_of e.1.content) ≡ false = false_from_ne_true (list_any (λ entry. entry.1 == x) (entries_of e.1.content)) (λ any.
    let found = entry_named x e.1.content rise any in
    let same : e.0 ≡ p = (only e.0 found.0 (ap (entry_in found.0) (first_node e es) ∙ found.1)).0 in
    both_ways _ (ap (λ k. is_at (nat_cmp k) e.0) same ∙ here) (own_number e.0)) in
    let head : names_in x e.1.content ≡ 0 = names_none x e.1.content none in
    let tail : sum_by (λ (e : ℕ × Node). names_in x e.1.content) es ≡ 1 = rest is (λ q m found. only q m (past_node x q m e es next ascend found).1) in
    sum_by-cons (λ (e : ℕ × Node). names_in x e.1.content) e es ∙ omega (arith, head, tail)

-- an inode that one place names is named once
pub sum_one : (x p : ℕ) (n : List ℕ) (low : ℕ) (es : List (ℕ × Node)) (next : ℕ) → Ascend low (keys_of es) next → NamesRise (values_of es) → entry_in n (lookup (is_at (nat_cmp p)) es) ≡ Some x
    → OnlyPlace x p n es → sum_by (λ e. names_in x e.1.content) es ≡ 1
sum_one x p n low [] next ascend rising is only = absurd (cc is)
sum_one x p n low (e ∷ es) next ascend rising is only =
    sum_step x p n e es next (is_at (nat_cmp p) e.0) refl ascend.1 rising.0 rising.1 only (λ found alone. sum_one x p n (e.0 + 1) es next ascend.1 rising.1 found alone) is

-- ---- an inode that is named once

-- ---- sums over what look-ups find

at_least_if : {X : Type 0} (g : X → ℕ) (first v : X) (rest : Option X) (others : ℕ) (test : Bool) → cond test (Some first) rest ≡ Some v → (rest ≡ Some v → g v ≤ others) → g v ≤ g first + others
at_least_if g first v rest others true is more =
    let same : g first ≡ g v = ap g (cc is) in
    omega (arith, same)
at_least_if g first v rest others false is more = omega (arith, more is)

at_least : {K X : Type 0} (compare : K → K → Ordering) (g : X → ℕ) (k : K) (v : X) (es : List (K × X)) → lookup (is_at (compare k)) es ≡ Some v → g v ≤ sum_by (λ e. g e.1) es
at_least compare g k v [] is = absurd (cc is)
at_least compare g k v (e ∷ es) is =
    rw (sum_by-cons (λ e. g e.1) e es)
    (at_least_if g e.1 v (lookup (is_at (compare k)) es) (sum_by (λ e. g e.1) es) (is_at (compare k) e.0) is (λ found. at_least compare g k v es found))

two_if : {K X : Type 0} (compare : K → K → Ordering) → Tells compare → (g : X → ℕ) (k l : K) (v w : X) (e : K × X) (es : List (K × X)) (one other : Bool) → k ≢ l → is_at (compare k) e.0 ≡ one → is_at (compare l) e.0 ≡ other
    → cond one (Some e.1) (lookup (is_at (compare k)) es) ≡ Some v → cond other (Some e.1) (lookup (is_at (compare l)) es) ≡ Some w
    → (lookup (is_at (compare k)) es ≡ Some v → lookup (is_at (compare l)) es ≡ Some w → g v + g w ≤ sum_by (λ e. g e.1) es) → g v + g w ≤ g e.1 + sum_by (λ e. g e.1) es
two_if compare tells g k l v w e es true true apart here there first second both = absurd (apart (tells.same k e.0 here ∙ sym (tells.same l e.0 there)))
two_if compare tells g k l v w e es true false apart here there first second both =
    let same : g e.1 ≡ g v = ap g (cc first) in
    omega (arith, same, at_least compare g l w es second)
two_if compare tells g k l v w e es false true apart here there first second both =
    let same : g e.1 ≡ g w = ap g (cc second) in
    omega (arith, same, at_least compare g k v es first)
two_if compare tells g k l v w e es false false apart here there first second both = omega (arith, both first second)

two_at_least : {K X : Type 0} (compare : K → K → Ordering) → Tells compare → (g : X → ℕ) (k l : K) (v w : X) (es : List (K × X)) → k ≢ l → lookup (is_at (compare k)) es ≡ Some v
    → lookup (is_at (compare l)) es ≡ Some w → g v + g w ≤ sum_by (λ e. g e.1) es
two_at_least compare tells g k l v w [] apart first second = absurd (cc first)
two_at_least compare tells g k l v w (e ∷ es) apart first second =
    rw (sum_by-cons (λ e. g e.1) e es)
    (two_if compare tells g k l v w e es (is_at (compare k) e.0) (is_at (compare l) e.0) apart refl refl first second
    (λ one other. two_at_least compare tells g k l v w es apart one other))

-- ---- entries

abbrev counted : ℕ → ℕ → ℕ
counted x y = cond (y == x) 1 0

counted_own : (x : ℕ) → counted x x ≡ 1
counted_own x = ap (λ b. cond b 1 0) (eq-eqb x x refl)

some_in : (x : ℕ) (n : List ℕ) (content : Content) → entry_of content n ≡ Some x → 1 ≤ names_in x content
some_in x n (Directory entries) is = omega (arith, counted_own x, at_least (slice_cmp nat_cmp) (counted x) n x entries is)
some_in x n (Regular bytes) is = absurd (cc is)
some_in x n (Link target) is = absurd (cc is)

two_in : (x : ℕ) (n m : List ℕ) (content : Content) → n ≢ m → entry_of content n ≡ Some x → entry_of content m ≡ Some x → 2 ≤ names_in x content
two_in x n m (Directory entries) apart first second = omega (arith, counted_own x, two_at_least (slice_cmp nat_cmp) names_tell (counted x) n m x x entries apart first second)
two_in x n m (Regular bytes) apart first second = absurd (cc first)
two_in x n m (Link target) apart first second = absurd (cc first)

abbrev in_node : ℕ → Node → ℕ
in_node x node = names_in x node.content

other_node : (t : Tree) (x p q : ℕ) (n m : List ℕ) → p ≢ q → entry_at t p n ≡ Some x → entry_at t q m ≡ Some x → 2 ≤ entries_naming t x
other_node t x p q n m apart first second =
    let one = entry_some n x (node_at t p) first in
    let other = entry_some m x (node_at t q) second in
    omega (arith, some_in x n one.0.content one.2, some_in x m other.0.content other.2, two_at_least nat_cmp numbers_tell (in_node x) p q one.0 other.0 t.nodes apart one.1 other.1)

other_name_of : (t : Tree) (x p : ℕ) (n m : List ℕ) → n ≢ m → entry_at t p n ≡ Some x → entry_at t p m ≡ Some x → 2 ≤ entries_naming t x
other_name_of t x p n m apart first second =
    let one = entry_some n x (node_at t p) first in
    let also : entry_of one.0.content m ≡ Some x = ap (entry_in m) (sym one.1) ∙ second in
    omega (arith, two_in x n m one.0.content apart one.2 also, at_least nat_cmp (in_node x) p one.0 t.nodes one.1)

-- two entries of an inode that is named once are one
pub named_once : (t : Tree) (x p q : ℕ) (n m : List ℕ) → entries_naming t x ≡ 1 → entry_at t p n ≡ Some x → entry_at t q m ≡ Some x → (q ≡ p) × (m ≡ n)
named_once t x p q n m once first second =
    elim (cases_eq q p) [
      | inr apart ↦ absurd (omega (arith, once, other_node t x p q n m (λ same. apart (sym same)) first second))
      | inl same ↦ elim (cases_name m n) [
        | inl also ↦ (same, also)
        | inr apart ↦ absurd (omega (arith, once, other_name_of t x p n m (λ equal. apart (sym equal)) first (ap (λ k. entry_at t k m) (sym same) ∙ second)))
      ]
    ]
