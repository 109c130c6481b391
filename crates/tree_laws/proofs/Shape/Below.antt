-- A walk finds all that lies below, and nothing else.
use Rattle.std.proofs.Common.{◌≡◌, ◌≤◌, ◌<◌, ℕ, zero, suc, ◌+◌, List, [], ◌∷◌, ◌++◌, Bool, true, false, cond, Option, None, Some, refl, sym, ap, ◌∙◌, ◌⊎◌, inl, inr, arith}
use Rattle.std.proofs.lemmas.Bool.{eqb-true, eq-eqb, or_left, or_right, or_cases}
use Rattle.std.proofs.lemmas.List.Folds.{list_any-append}
use Rattle.std.specs.BTreeMap.{is_at}
use Rattle.std.specs.List.{list_any}
use Rattle.std.specs.Map.{keys_of, lookup}
use Rattle.std.specs.Ordering.{nat_cmp}
use Rattle.std.specs.Prelude.{◌==◌, ◌||◌, length, map, fold}
use Rattle.plain_tree.specs.Below.{is_among, children, walk, at_and_below}
use Rattle.plain_tree.specs.Entries.{entries_of}
use Rattle.plain_tree.specs.Names.{Rise, NamesInOrder}
use Rattle.plain_tree.specs.Tree.{Node, Tree, node_at}
use Rattle.tree_laws.proofs.Name.Reading.{any_named}
use Rattle.tree_laws.proofs.Node.Keys.{same_number}
use Rattle.tree_laws.proofs.Node.Kind.{entry_in, entry_lookup}
use Rattle.tree_laws.proofs.Shape.Gain.{IsBelow}
use Rattle.tree_laws.proofs.Shape.Named.{entry_named}
use Rattle.tree_laws.proofs.Shape.Tree.{shape_of, rise_at}

-- ---- lists of inodes

abbrev Within : List ℕ → List ℕ → Type 0
Within seen more = (y : ℕ) → is_among seen y ≡ true → is_among more y ≡ true

add_one : (seen : List ℕ) (inode : ℕ) → Within seen (seen ++ inode ∷ [])
add_one seen inode y is = list_any-append (λ i. i == y) seen (inode ∷ []) ∙ or_left (is_among seen y) _ is

is_added : (seen : List ℕ) (inode : ℕ) → is_among (seen ++ inode ∷ []) inode ≡ true
is_added seen inode = list_any-append (λ i. i == inode) seen (inode ∷ []) ∙ or_right (is_among seen inode) _ (or_left (inode == inode) false (eq-eqb inode inode refl))

added_was : (seen : List ℕ) (inode y : ℕ) → is_among (seen ++ inode ∷ []) y ≡ true → (is_among seen y ≡ true) ⊎ (y ≡ inode)
added_was seen inode y is =
    elim (or_cases (is_among seen y) ((inode == y) || false) (sym (list_any-append (λ i. i == y) seen (inode ∷ [])) ∙ is)) [
      | inl old ↦ inl old
      | inr new ↦ elim (or_cases (inode == y) false new) [
        | inl same ↦ inr (sym (eqb-true inode y same))
        | inr none ↦ absurd (cc none)
      ]
    ]

-- ---- how many nodes are not seen yet

left : List ℕ → List (ℕ × Node) → ℕ
left seen [] = 0
left seen (e ∷ es) = cond (is_among seen e.0) (left seen es) (left seen es + 1)

one_more : (test : Bool) (n : ℕ) → cond test n (n + 1) ≤ n + 1
one_more true n = omega arith
one_more false n = omega arith

left_most : (es : List (ℕ × Node)) (seen : List ℕ) → left seen es ≤ length es
unfolding left
left_most [] seen = omega arith
left_most (e ∷ es) seen = omega (arith, one_more (is_among seen e.0) (left seen es), left_most es seen)

step_if : (first second : Bool) (k m n : ℕ) → (first ≡ true → second ≡ true) → n + k ≤ m → cond second n (n + 1) + k ≤ cond first m (m + 1)
step_if true true k m n within less = less
step_if true false k m n within less = absurd (cc (within refl))
step_if false true k m n within less = omega (arith, less)
step_if false false k m n within less = omega (arith, less)

fewer : (seen more : List ℕ) → Within seen more → (es : List (ℕ × Node)) → left more es ≤ left seen es
unfolding left
fewer seen more within [] = omega arith
fewer seen more within (e ∷ es) = omega (arith, step_if (is_among seen e.0) (is_among more e.0) 0 (left seen es) (left more es) (within e.0) (omega (arith, fewer seen more within es)))

first_one : (first second : Bool) (m n : ℕ) → first ≡ false → second ≡ true → n ≤ m → cond second n (n + 1) + 1 ≤ cond first m (m + 1)
first_one true second m n is also less = absurd (cc is)
first_one false true m n is also less = omega (arith, less)
first_one false false m n is also less = absurd (cc also)

strict_here : (seen more : List ℕ) → Within seen more → (inode : ℕ) → is_among seen inode ≡ false → is_among more inode ≡ true → (e : ℕ × Node) (es : List (ℕ × Node)) (node : Node) (test : Bool)
    → is_at (nat_cmp inode) e.0 ≡ test → (lookup (is_at (nat_cmp inode)) es ≡ Some node → left more es + 1 ≤ left seen es) → cond test (Some e.1) (lookup (is_at (nat_cmp inode)) es) ≡ Some node
    → cond (is_among more e.0) (left more es) (left more es + 1) + 1 ≤ cond (is_among seen e.0) (left seen es) (left seen es + 1)
strict_here seen more within inode new there e es node true here rest is =
    let same : inode ≡ e.0 = same_number inode e.0 here in
    first_one (is_among seen e.0) (is_among more e.0) (left seen es) (left more es) (ap (is_among seen) (sym same) ∙ new) (ap (is_among more) (sym same) ∙ there) (fewer seen more within es)
strict_here seen more within inode new there e es node false here rest is =
    step_if (is_among seen e.0) (is_among more e.0) 1 (left seen es) (left more es) (within e.0) (rest is)

strict : (seen more : List ℕ) → Within seen more → (inode : ℕ) → is_among seen inode ≡ false → is_among more inode ≡ true → (es : List (ℕ × Node)) (node : Node)
    → lookup (is_at (nat_cmp inode)) es ≡ Some node → left more es + 1 ≤ left seen es
unfolding left
strict seen more within inode new there [] node is = absurd (cc is)
strict seen more within inode new there (e ∷ es) node is =
    strict_here seen more within inode new there e es node (is_at (nat_cmp inode) e.0) refl (strict seen more within inode new there es node) is

-- ---- the walk

record Walked (t : Tree) (inode : ℕ) (seen more : List ℕ) : Type 0 where
  pub grows : Within seen more
  pub itself : is_among more inode ≡ true
  pub closed : (y : ℕ) → is_among more y ≡ true → (is_among seen y ≡ true) ⊎ ((child : ℕ) → is_among (children t y) child ≡ true → is_among more child ≡ true)
  pub up : (y : ℕ) → is_among more y ≡ true → (is_among seen y ≡ true) ⊎ ((y ≡ inode) ⊎ ((q : ℕ) × (is_among more q ≡ true) × (is_among (children t q) y ≡ true)))

record WalkedAll (t : Tree) (inodes seen more : List ℕ) : Type 0 where
  pub grows : Within seen more
  pub all : (y : ℕ) → is_among inodes y ≡ true → is_among more y ≡ true
  pub closed : (y : ℕ) → is_among more y ≡ true → (is_among seen y ≡ true) ⊎ ((child : ℕ) → is_among (children t y) child ≡ true → is_among more child ≡ true)
  pub up : (y : ℕ) → is_among more y ≡ true → (is_among seen y ≡ true) ⊎ ((is_among inodes y ≡ true) ⊎ ((q : ℕ) × (is_among more q ≡ true) × (is_among (children t q) y ≡ true)))

walked_all : (t : Tree) (n : ℕ) (step : ℕ → List ℕ → List ℕ) → ((child : ℕ) (seen : List ℕ) → left seen t.nodes < n → Walked t child seen (step child seen)) → (inodes seen : List ℕ)
    → ((y : ℕ) → is_among inodes y ≡ true → left seen t.nodes < n) → WalkedAll t inodes seen (fold (λ s child. step child s) seen inodes)
walked_all t n step walks [] seen fits = record {
  grows = λ y is. is;
  all = λ y is. absurd (cc is);
  closed = λ y is. inl is;
  up = λ y is. inl is;
}
walked_all t n step walks (inode ∷ inodes) seen fits =
    let less : left seen t.nodes < n = fits inode (or_left (inode == inode) (is_among inodes inode) (eq-eqb inode inode refl)) in
    let middle : List ℕ = step inode seen in
    let one : Walked t inode seen middle = walks inode seen less in
    let smaller : left middle t.nodes ≤ left seen t.nodes = fewer seen middle one.grows t.nodes in
    let rest : WalkedAll t inodes middle (fold (λ s child. step child s) middle inodes) = walked_all t n step walks inodes middle (λ y is. omega (arith, smaller, less)) in
    record {
      grows = λ y is. rest.grows y (one.grows y is);
      all = λ y is.
          elim (or_cases (inode == y) (is_among inodes y) is) [
            | inl first ↦ ap (is_among (fold (λ s child. step child s) middle inodes)) (sym (eqb-true inode y first)) ∙ rest.grows inode one.itself
            | inr later ↦ rest.all y later
          ];
      closed = λ y is.
          elim (rest.closed y is) [
            | inr all ↦ inr all
            | inl old ↦ elim (one.closed y old) [
              | inl older ↦ inl older
              | inr all ↦ inr (λ child among. rest.grows child (all child among))
            ]
          ];
      up = λ y is.
          elim (rest.up y is) [
            | inr from ↦ elim from [
              | inl later ↦ inr (inl (or_right (inode == y) (is_among inodes y) later))
              | inr below ↦ inr (inr below)
            ]
            | inl old ↦ elim (one.up y old) [
              | inl older ↦ inl older
              | inr from ↦ elim from [
                | inl same ↦ inr (inl (or_left (inode == y) (is_among inodes y) (eq-eqb inode y (sym same))))
                | inr below ↦ inr (inr (below.0, rest.grows below.0 below.1, below.2))
              ]
            ]
          ];
    }

fits_if : (t : Tree) (n inode : ℕ) (seen : List ℕ) (found : Option Node) → node_at t inode ≡ found → is_among seen inode ≡ false → left seen t.nodes < suc n → (y : ℕ)
    → is_among (elim found as (λ _. List ℕ) [ Some node ↦ map (λ e. e.1) (entries_of node.content) | None ↦ [] ]) y ≡ true → left (seen ++ inode ∷ []) t.nodes < n
fits_if t n inode seen None found new less y is = absurd (cc is)
fits_if t n inode seen (Some node) found new less y is =
    omega (arith, less, strict seen (seen ++ inode ∷ []) (add_one seen inode) inode new (is_added seen inode) t.nodes node found)

walked_new : (t : Tree) (n : ℕ) (step : ℕ → List ℕ → List ℕ) → ((child : ℕ) (seen : List ℕ) → left seen t.nodes < n → Walked t child seen (step child seen)) → (inode : ℕ) (seen : List ℕ) (test : Bool)
    → is_among seen inode ≡ test → left seen t.nodes < suc n → Walked t inode seen (cond test seen (fold (λ s child. step child s) (seen ++ inode ∷ []) (children t inode)))
walked_new t n step walks inode seen true is less = record {
  grows = λ y among. among;
  itself = is;
  closed = λ y among. inl among;
  up = λ y among. inl among;
}
walked_new t n step walks inode seen false is less =
    let all : WalkedAll t (children t inode) (seen ++ inode ∷ []) (fold (λ s child. step child s) (seen ++ inode ∷ []) (children t inode)) =
    walked_all t n step walks (children t inode) (seen ++ inode ∷ []) (λ y among. fits_if t n inode seen (node_at t inode) refl is less y among) in
    record {
      grows = λ y among. all.grows y (add_one seen inode y among);
      itself = all.grows inode (is_added seen inode);
      closed = λ y among.
          elim (all.closed y among) [
            | inr closed ↦ inr closed
            | inl old ↦ elim (added_was seen inode y old) [
              | inl older ↦ inl older
              | inr same ↦ inr (λ child is_child. all.all child (ap (λ k. is_among (children t k) child) (sym same) ∙ is_child))
            ]
          ];
      up = λ y among.
          elim (all.up y among) [
            | inr from ↦ elim from [
              | inl child ↦ inr (inr (inode, all.grows inode (is_added seen inode), child))
              | inr below ↦ inr (inr below)
            ]
            | inl old ↦ elim (added_was seen inode y old) [
              | inl older ↦ inl older
              | inr same ↦ inr (inl same)
            ]
          ];
    }

walked : (n : ℕ) (t : Tree) (inode : ℕ) (seen : List ℕ) → left seen t.nodes < n → Walked t inode seen (walk n t inode seen)
walked zero t inode seen less = absurd (omega (arith, less))
walked (suc n) t inode seen less = walked_new t n (λ child s. walk n t child s) (λ child s fits. walked n t child s fits) inode seen (is_among seen inode) refl less

-- ---- children and entries

any_value : (y : ℕ) (es : List (List ℕ × ℕ)) → is_among (map (λ e. e.1) es) y ≡ list_any (λ e. e.1 == y) es
any_value y [] = refl
any_value y (e ∷ es) = ap (λ b. (e.1 == y) || b) (any_value y es)

child_of : (y : ℕ) (m : List ℕ) (found : Option Node) → entry_in m found ≡ Some y
    → is_among (elim found as (λ _. List ℕ) [ Some node ↦ map (λ e. e.1) (entries_of node.content) | None ↦ [] ]) y ≡ true
child_of y m None is = absurd (cc is)
child_of y m (Some node) is = any_value y (entries_of node.content) ∙ any_named y m (entries_of node.content) (sym (entry_lookup m node.content) ∙ is)

names_child : (y : ℕ) (found : Option Node) → ((node : Node) → found ≡ Some node → Rise (keys_of (entries_of node.content)))
    → is_among (elim found as (λ _. List ℕ) [ Some node ↦ map (λ e. e.1) (entries_of node.content) | None ↦ [] ]) y ≡ true → (m : List ℕ) × (entry_in m found ≡ Some y)
names_child y None rise is = absurd (cc is)
names_child y (Some node) rise is = entry_named y node.content (rise node refl) (sym (any_value y (entries_of node.content)) ∙ is)

-- a walk finds what lies at and below a node
pub below_shape : (t : Tree) → NamesInOrder t → (x : ℕ) → IsBelow (shape_of t) x (is_among (at_and_below t x))
below_shape t names x =
    let all : Walked t x [] (at_and_below t x) = walked (suc (length t.nodes)) t x [] (omega (arith, left_most t.nodes [])) in
    record {
      itself = all.itself;
      down = λ q y m among is.
          elim (all.closed q among) [
            | inl none ↦ absurd (cc none)
            | inr closed ↦ closed y (child_of y m (node_at t q) is)
          ];
      up = λ y among.
          elim (all.up y among) [
            | inl none ↦ absurd (cc none)
            | inr from ↦ elim from [
              | inl same ↦ inl same
              | inr below ↦
                  let found = names_child y (node_at t below.0) (λ node is. rise_at t names below.0 node is) below.2 in
                  inr (below.0, found.0, below.1, found.1)
            ]
          ];
    }
