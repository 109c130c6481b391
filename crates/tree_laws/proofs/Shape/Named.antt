-- What is named, and what keeps a node.
use Rattle.std.proofs.Common.{sym, ◌≡◌, ◌≢◌, ℕ, ◌+◌, List, [], ◌∷◌, Bool, true, false, cond, Option, Some, refl, ap, ◌∙◌, inl, inr}
use Rattle.std.proofs.lemmas.Bool.{false_from_ne_true, or_from, true_from_ne_false, cond_both, or_parts, eq-eqb, ne_eqb, or_left, or_right, or_cases, both_ways}
use Rattle.std.specs.BTreeMap.{is_at}
use Rattle.std.specs.List.{list_any}
use Rattle.std.specs.Map.{keys_of, values_of, lookup}
use Rattle.std.specs.Ordering.{nat_cmp}
use Rattle.std.specs.Prelude.{◌==◌, ◌||◌}
use Rattle.plain_tree.specs.Entries.{entries_of, entry_at, is_named, is_open, lives, settled, unnamed}
use Rattle.plain_tree.specs.Names.{Rise, NamesRise, NamesInOrder}
use Rattle.plain_tree.specs.Numbers.{Ascend, InOrder}
use Rattle.s3_base.specs.Numbers.{root}
use Rattle.plain_tree.specs.Tree.{Content, Node, Tree, entry_of, without_node}
use Rattle.tree_laws.proofs.Name.Reading.{named_in, any_named}
use Rattle.tree_laws.proofs.Node.Kind.{entry_in, entry_lookup}
use Rattle.tree_laws.proofs.Node.Reading.{past_node, first_node}
use Rattle.tree_laws.proofs.Shape.Loss.{Grown-removed, Grown-spared}
use Rattle.tree_laws.proofs.Shape.Tree.{shape_of, shape-without_node}
use Rattle.tree_laws.proofs.Shape.Words.{IsUnnamed, Grown, NoneGoes, Only}

-- ---- what is named

pub entry_named : (y : ℕ) (content : Content) → Rise (keys_of (entries_of content)) → list_any (λ e. e.1 == y) (entries_of content) ≡ true → (name : List ℕ) × (entry_of content name ≡ Some y)
entry_named y content rise is =
    let found = named_in y (entries_of content) rise is in
    (found.0, entry_lookup found.0 content ∙ found.1)

pub named_at : (y low : ℕ) (es : List (ℕ × Node)) (next : ℕ) → Ascend low (keys_of es) next → NamesRise (values_of es)
    → list_any (λ e. list_any (λ entry. entry.1 == y) (entries_of e.1.content)) es ≡ true → (p : ℕ) × (n : List ℕ) × (entry_in n (lookup (is_at (nat_cmp p)) es) ≡ Some y)
named_at y low [] next ascend rise is = absurd (cc is)
named_at y low (e ∷ es) next ascend rise is =
    elim (or_cases (list_any (λ entry. entry.1 == y) (entries_of e.1.content)) _ is) [
      | inl here ↦
          let found = entry_named y e.1.content rise.0 here in
          (e.0, found.0, ap (entry_in found.0) (first_node e es) ∙ found.1)
      | inr later ↦
          let found = named_at y (e.0 + 1) es next ascend.1 rise.1 later in
          (found.0, found.1, (past_node y found.0 found.1 e es next ascend.1 found.2).1)
    ]

any_if : (y : ℕ) (n : List ℕ) (e : ℕ × Node) (found : Option Node) (others test : Bool) → entry_in n (cond test (Some e.1) found) ≡ Some y → (entry_in n found ≡ Some y → others ≡ true)
    → (list_any (λ entry. entry.1 == y) (entries_of e.1.content) || others) ≡ true
any_if y n e found others true is rest = or_left _ others (any_named y n (entries_of e.1.content) (sym (entry_lookup n e.1.content) ∙ is))
any_if y n e found others false is rest = or_right (list_any (λ entry. entry.1 == y) (entries_of e.1.content)) others (rest is)

any_at : (y p : ℕ) (n : List ℕ) (es : List (ℕ × Node)) → entry_in n (lookup (is_at (nat_cmp p)) es) ≡ Some y
    → list_any (λ e. list_any (λ entry. entry.1 == y) (entries_of e.1.content)) es ≡ true
any_at y p n [] is = absurd (cc is)
any_at y p n (e ∷ es) is = any_if y n e (lookup (is_at (nat_cmp p)) es) _ (is_at (nat_cmp p) e.0) is (any_at y p n es)

pub is_named_by : (t : Tree) (y p : ℕ) (n : List ℕ) → entry_at t p n ≡ Some y → is_named t y ≡ true
is_named_by t y p n is = any_at y p n t.nodes is

pub names_it : (t : Tree) → InOrder t → NamesInOrder t → (y : ℕ) → is_named t y ≡ true → (p : ℕ) × (n : List ℕ) × (entry_at t p n ≡ Some y)
names_it t ordered names y is = named_at y 0 t.nodes t.next_inode ordered names is

pub unnamed_by : (t : Tree) (y : ℕ) → is_named t y ≡ false → IsUnnamed (shape_of t) y
unnamed_by t y not p n is =
    both_ways _ not (is_named_by t y p n is)

-- ---- what keeps a node

pub not_named : (t : Tree) → InOrder t → NamesInOrder t → (y : ℕ) → IsUnnamed (shape_of t) y → is_named t y ≡ false
not_named t ordered names y unnamed =
    false_from_ne_true (is_named t y) (λ named.
    let found = names_it t ordered names y named in
    unnamed found.0 found.1 found.2)

-- what does not live is unnamed, not open, and no root
pub dead_is : (t : Tree) (y : ℕ) → lives t y ≡ false → IsUnnamed (shape_of t) y × (is_open t y ≡ true → ⊥) × (y ≢ root)
dead_is t y is =
    let parts = or_parts (y == root || is_named t y) (is_open t y) is in
    let first = or_parts (y == root) (is_named t y) parts.0 in
    (unnamed_by t y first.1, λ opened. both_ways _ parts.1 opened, λ same. both_ways _ first.0 (eq-eqb y root same))

-- what lives unnamed is open
pub alive_is : (t : Tree) → InOrder t → NamesInOrder t → (y : ℕ) → lives t y ≡ true → IsUnnamed (shape_of t) y → y ≢ root → is_open t y ≡ true
alive_is t ordered names y is unnamed inner =
    true_from_ne_false (is_open t y)
    (λ closed. both_ways _ (or_from _ (is_open t y) (or_from (y == root) (is_named t y) (ne_eqb y root inner) (not_named t ordered names y unnamed)) closed) is)

-- what was about to go goes or stays
pub Grown-settled : (x : ℕ) (t : Tree) → InOrder t → NamesInOrder t → Grown (Only x) (shape_of t) → Grown NoneGoes (shape_of (settled x t))
Grown-settled x t ordered names grown =
    cond_both (lives t x) t (without_node x t) (λ after. Grown NoneGoes (shape_of after)) (λ is. Grown-spared (shape_of t) x grown (λ unnamed. alive_is t ordered names x is unnamed (grown.inner x refl)))
    (λ is.
    let dead = dead_is t x is in
    Grown-removed (shape_of t) (shape_of (without_node x t)) x (shape-without_node x t ordered) grown dead.0 dead.1)
