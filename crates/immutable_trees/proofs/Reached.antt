-- What has a node, and with each node its children, has all at and below it.
use Rattle.std.proofs.Common.{◌≡◌, ℕ, zero, suc, List, [], ◌∷◌, ◌++◌, Bool, true, false, cond, Option, None, Some, refl, sym, ap, ◌∙◌, inl, inr}
use Rattle.std.proofs.lemmas.Bool.{eqb-true, eq-eqb, or_left, or_right, or_cases}
use Rattle.std.proofs.lemmas.List.Folds.{list_any-append}
use Rattle.std.specs.List.{list_any}
use Rattle.std.specs.Map.{keys_of}
use Rattle.std.specs.Prelude.{◌==◌, ◌||◌, fold, length, map}
use Rattle.plain_tree.specs.Below.{is_among, children, walk, is_at_or_below}
use Rattle.plain_tree.specs.Entries.{entries_of, entry_at}
use Rattle.plain_tree.specs.Names.{NamesInOrder, Rise}
use Rattle.plain_tree.specs.Tree.{Node, Tree, node_at}
use Rattle.tree_laws.proofs.Node.Kind.{entry_in}
use Rattle.tree_laws.proofs.Shape.Named.{entry_named}
use Rattle.tree_laws.proofs.Shape.Tree.{rise_at}

-- all of a list pass
abbrev Inside : (ℕ → Bool) → List ℕ → Type 0
Inside within inodes = (x : ℕ) → is_among inodes x ≡ true → within x ≡ true

all_inside : (within : ℕ → Bool) (step : ℕ → List ℕ → List ℕ) → ((child : ℕ) (seen : List ℕ) → within child ≡ true → Inside within seen → Inside within (step child seen))
    → (inodes seen : List ℕ) → Inside within inodes → Inside within seen → Inside within (fold (λ s child. step child s) seen inodes)
all_inside within step steps [] seen own all = all
all_inside within step steps (child ∷ inodes) seen own all =
    all_inside within step steps inodes (step child seen) (λ x is. own x (or_right (child == x) (is_among inodes x) is))
    (steps child seen (own child (or_left (child == child) (is_among inodes child) (eq-eqb child child refl))) all)

walk_inside : (t : Tree) (within : ℕ → Bool) → ((x : ℕ) → within x ≡ true → Inside within (children t x)) → (n inode : ℕ) (seen : List ℕ) → within inode ≡ true
    → Inside within seen → Inside within (walk n t inode seen)
walk_inside t within closed zero inode seen own all = all
walk_inside t within closed (suc n) inode seen own all =
    by_case (all_inside within (λ child s. walk n t child s) (λ child s. walk_inside t within closed n child s) (children t inode) (seen ++ inode ∷ []) (closed inode own) added)
    (is_among seen inode)
  where
    added : Inside within (seen ++ inode ∷ [])
    added x is =
        elim (or_cases (is_among seen x) ((inode == x) || false) (sym (list_any-append (λ i. i == x) seen (inode ∷ [])) ∙ is)) [
          | inl old ↦ all x old
          | inr new ↦ elim (or_cases (inode == x) false new) [
            | inl same ↦ ap within (sym (eqb-true inode x same)) ∙ own
            | inr none ↦ absurd (cc none)
          ]
        ]

    by_case : Inside within (fold (λ s child. walk n t child s) (seen ++ inode ∷ []) (children t inode)) → (b : Bool)
        → Inside within (cond b seen (fold (λ s child. walk n t child s) (seen ++ inode ∷ []) (children t inode)))
    by_case walked true = all
    by_case walked false = walked

any_value : (x : ℕ) (es : List (List ℕ × ℕ)) → is_among (map (λ e. e.1) es) x ≡ list_any (λ e. e.1 == x) es
any_value x [] = refl
any_value x (e ∷ es) = ap (λ b. (e.1 == x) || b) (any_value x es)

-- a child has an entry
child_entry : (x : ℕ) (found : Option Node) → ((node : Node) → found ≡ Some node → Rise (keys_of (entries_of node.content)))
    → is_among (elim found as (λ _. List ℕ) [ Some node ↦ map (λ e. e.1) (entries_of node.content) | None ↦ [] ]) x ≡ true
    → (name : List ℕ) × (entry_in name found ≡ Some x)
child_entry x None rise is = absurd (cc is)
child_entry x (Some node) rise is = entry_named x node.content (rise node refl) (sym (any_value x (entries_of node.content)) ∙ is)

pub below_inside : (t : Tree) → NamesInOrder t → (within : ℕ → Bool) → ((parent x : ℕ) (name : List ℕ) → within parent ≡ true → entry_at t parent name ≡ Some x → within x ≡ true)
    → (top : ℕ) → within top ≡ true → (x : ℕ) → is_at_or_below t top x ≡ true → within x ≡ true
below_inside t names within closed top own =
    walk_inside t within
    (λ parent is x among.
    let found = child_entry x (node_at t parent) (λ node there. rise_at t names parent node there) among in
    closed parent x found.0 is found.1)
    (suc (length t.nodes)) top [] own (λ x is. absurd (cc is))
