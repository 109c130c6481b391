-- The plain tree's walk, one node at a time: its bound on the depth is never met.
use Rattle.std.proofs.Common.{◌≡◌, ◌≤◌, ◌<◌, ℕ, zero, suc, ◌+◌, List, [], ◌∷◌, ◌++◌, length, Bool, true, false, cond, Option, None, Some, refl, sym, ap, ◌∙◌, subst, arith, eq-eqb}
use Rattle.std.proofs.lemmas.Bool.{both_ways}
use Rattle.std.proofs.lemmas.List.{append-nil, append_assoc}
use Rattle.std.proofs.lemmas.List.Sums.{count_by-le-length, sum_by-cons}
use Rattle.std.specs.BTreeMap.{is_at}
use Rattle.std.specs.Map.{lookup}
use Rattle.std.specs.Ordering.{nat_cmp}
use Rattle.std.specs.Prelude.{not, ◌||◌, count_by, fold, map}
use Rattle.plain_tree.specs.Below.{at_and_below, children, is_among, walk}
use Rattle.plain_tree.specs.Entries.{entries_of}
use Rattle.plain_tree.specs.Tree.{Node, Tree, node_at}
use Rattle.tree_laws.proofs.Node.Keys.{same_number}
use Rattle.tree_rows.proofs.Validity.Each.{count_by_weaker}
use Rattle.tree_copy.specs.WalkOrder.{walked}
use Rattle.tree_copy.proofs.SameEntries.{among_first, among_last}

-- ---- a walk extends what was seen

abbrev Extends : List ℕ → List ℕ → Type 0
Extends seen after = (rest : List ℕ) × (after ≡ seen ++ rest)

extends_all : (step : List ℕ → ℕ → List ℕ) → ((s : List ℕ) (c : ℕ) → Extends s (step s c)) → (cs s : List ℕ) → Extends s (fold step s cs)
extends_all step each [] s = ([], sym (append-nil s))
extends_all step each (c ∷ cs) s =
    let first = each s c in
    let later = extends_all step each cs (step s c) in
    (first.0 ++ later.0, later.1 ∙ ap (λ xs. xs ++ later.0) first.1 ∙ append_assoc s first.0 later.0)

extends_walk : (n : ℕ) (t : Tree) (x : ℕ) (s : List ℕ) → Extends s (walk n t x s)
extends_walk zero t x s = ([], sym (append-nil s))
extends_walk (suc n) t x s = by_case (is_among s x) (extends_all (λ s child. walk n t child s) (λ s c. extends_walk n t c s) (children t x) (s ++ x ∷ []))
  where
    by_case : (b : Bool) → Extends (s ++ x ∷ []) (fold (λ s child. walk n t child s) (s ++ x ∷ []) (children t x))
        → Extends s (cond b s (fold (λ s child. walk n t child s) (s ++ x ∷ []) (children t x)))
    by_case true later = ([], sym (append-nil s))
    by_case false later = (x ∷ later.0, later.1 ∙ append_assoc s (x ∷ []) later.0)

-- ---- nodes that were not seen

-- how many nodes were not
unseen : Tree → List ℕ → ℕ
unseen t s = count_by (λ e. not (is_among s e.0)) t.nodes

count-cons : {X : Type 0} (p : X → Bool) (x : X) (xs : List X) → count_by p (x ∷ xs) ≡ cond (p x) 1 0 + count_by p xs
count-cons {X} p x xs =
    let one : X → ℕ = λ y. cond (p y) 1 0 in
    sum_by-cons one x xs

one_fewer : (a b : Bool) → (a ≡ true → b ≡ true) → cond {A = ℕ} a 1 0 ≤ cond b 1 0
one_fewer true true follows = omega arith
one_fewer true false follows = absurd (both_ways false refl (follows refl))
one_fewer false true follows = omega arith
one_fewer false false follows = omega arith

-- a node that passes one test and not the other makes a difference
fewer_by_one : (p q : ℕ → Bool) → ((x : ℕ) → p x ≡ true → q x ≡ true) → (k : ℕ) → p k ≡ false → q k ≡ true → (es : List (ℕ × Node)) (node : Node)
    → lookup (is_at (nat_cmp k)) es ≡ Some node → count_by (λ (e : ℕ × Node). p e.0) es < count_by (λ (e : ℕ × Node). q e.0) es
fewer_by_one p q follows k out in_it [] node is = absurd (cc is)
fewer_by_one p q follows k out in_it (e ∷ es) node is = by_case (is_at (nat_cmp k) e.0) refl is (fewer_by_one p q follows k out in_it es node)
  where
    before : count_by (λ (e : ℕ × Node). p e.0) (e ∷ es) ≡ cond (p e.0) 1 0 + count_by (λ (e : ℕ × Node). p e.0) es
    before = count-cons (λ (e : ℕ × Node). p e.0) e es

    after : count_by (λ (e : ℕ × Node). q e.0) (e ∷ es) ≡ cond (q e.0) 1 0 + count_by (λ (e : ℕ × Node). q e.0) es
    after = count-cons (λ (e : ℕ × Node). q e.0) e es

    by_case : (b : Bool) → is_at (nat_cmp k) e.0 ≡ b → cond b (Some e.1) (lookup (is_at (nat_cmp k)) es) ≡ Some node
        → (lookup (is_at (nat_cmp k)) es ≡ Some node → count_by (λ (e : ℕ × Node). p e.0) es < count_by (λ (e : ℕ × Node). q e.0) es)
        → count_by (λ (e : ℕ × Node). p e.0) (e ∷ es) < count_by (λ (e : ℕ × Node). q e.0) (e ∷ es)
    by_case true here found rest =
        let number : k ≡ e.0 = same_number k e.0 here in
        let none : cond {A = ℕ} (p e.0) 1 0 ≡ 0 = ap (λ j. cond {A = ℕ} (p j) 1 0) (sym number) ∙ ap (λ b. cond {A = ℕ} b 1 0) out in
        let one : cond {A = ℕ} (q e.0) 1 0 ≡ 1 = ap (λ j. cond {A = ℕ} (q j) 1 0) (sym number) ∙ ap (λ b. cond {A = ℕ} b 1 0) in_it in
        omega (arith, before, after, none, one, count_by_weaker (λ (e : ℕ × Node). p e.0) (λ (e : ℕ × Node). q e.0) (λ e own. follows e.0 own) es)
    by_case false other found rest = omega (arith, before, after, one_fewer (p e.0) (q e.0) (follows e.0), rest found)

not_seen : (s rest : List ℕ) (x : ℕ) → not (is_among (s ++ rest) x) ≡ true → not (is_among s x) ≡ true
not_seen s rest x is = by_case (is_among s x) refl
  where
    by_case : (b : Bool) → is_among s x ≡ b → not b ≡ true
    by_case true among =
        let clash : false ≡ true = sym (ap not (among_first s rest x among)) ∙ is in
        absurd (cc clash)
    by_case false other = refl

-- what is seen grows, and the rest gets less
less_unseen : (t : Tree) (s after : List ℕ) → Extends s after → unseen t after ≤ unseen t s
unfolding unseen
less_unseen t s after extends =
    subst (λ xs. count_by (λ (e : ℕ × Node). not (is_among xs e.0)) t.nodes ≤ count_by (λ (e : ℕ × Node). not (is_among s e.0)) t.nodes) (sym extends.1)
    (count_by_weaker (λ (e : ℕ × Node). not (is_among (s ++ extends.0) e.0)) (λ (e : ℕ × Node). not (is_among s e.0)) (λ e own. not_seen s extends.0 e.0 own) t.nodes)

or_all : (b : Bool) → (b || true) ≡ true
or_all true = refl
or_all false = refl

one_unseen : (t : Tree) (s : List ℕ) (x : ℕ) (node : Node) → node_at t x ≡ Some node → is_among s x ≡ false → unseen t (s ++ x ∷ []) < unseen t s
unfolding unseen
one_unseen t s x node is new =
    fewer_by_one (λ y. not (is_among (s ++ x ∷ []) y)) (λ y. not (is_among s y)) (λ y own. not_seen s (x ∷ []) y own) x
    (ap not (among_last s x x ∙ ap (λ b. is_among s x || b) (eq-eqb x x refl) ∙ or_all (is_among s x))) (ap not new) t.nodes node is

-- ---- how deep the walk may go

folds_alike : (t : Tree) (n m : ℕ) → ((x : ℕ) (s : List ℕ) → unseen t s < n → unseen t s < m → walk n t x s ≡ walk m t x s) → (cs s : List ℕ) → unseen t s < n → unseen t s < m
    → fold (λ s child. walk n t child s) s cs ≡ fold (λ s child. walk m t child s) s cs
folds_alike t n m each [] s few some = refl
folds_alike t n m each (c ∷ cs) s few some =
    let less : unseen t (walk n t c s) ≤ unseen t s = less_unseen t s (walk n t c s) (extends_walk n t c s) in
    folds_alike t n m each cs (walk n t c s) (omega (arith, less, few)) (omega (arith, less, some))
    ∙ ap (λ after. fold (λ s child. walk m t child s) after cs) (each c s few some)

-- what the entries of a node name
abbrev below : Option Node → List ℕ
below found = elim found [ Some node ↦ map (λ e. e.1) (entries_of node.content) | None ↦ [] ]

-- below a node that was not seen the walks are alike where there is fuel for all that was not seen
below_alike : (t : Tree) (n m : ℕ) (x : ℕ) (s : List ℕ) → ((c : ℕ) (s : List ℕ) → unseen t s < n → unseen t s < m → walk n t c s ≡ walk m t c s) → is_among s x ≡ false
    → unseen t s ≤ n → unseen t s ≤ m
    → fold (λ s child. walk n t child s) (s ++ x ∷ []) (children t x) ≡ fold (λ s child. walk m t child s) (s ++ x ∷ []) (children t x)
below_alike t n m x s each new few some = by_node (node_at t x) refl
  where
    by_node : (found : Option Node) → node_at t x ≡ found
        → fold (λ s child. walk n t child s) (s ++ x ∷ []) (children t x) ≡ fold (λ s child. walk m t child s) (s ++ x ∷ []) (children t x)
    by_node None none =
        ap (λ (found : Option Node). fold (λ s child. walk n t child s) (s ++ x ∷ []) (below found)) none
        ∙ sym (ap (λ (found : Option Node). fold (λ s child. walk m t child s) (s ++ x ∷ []) (below found)) none)
    by_node (Some node) is =
        let less : unseen t (s ++ x ∷ []) < unseen t s = one_unseen t s x node is new in
        folds_alike t n m each (children t x) (s ++ x ∷ []) (omega (arith, less, few)) (omega (arith, less, some))

walks_alike : (t : Tree) (n m : ℕ) (x : ℕ) (s : List ℕ) → unseen t s < n → unseen t s < m → walk n t x s ≡ walk m t x s
walks_alike t zero m x s few some = absurd (omega (arith, few))
walks_alike t (suc n) zero x s few some = absurd (omega (arith, some))
walks_alike t (suc n) (suc m) x s few some =
    by_case (is_among s x) refl (λ new. below_alike t n m x s (λ c s less more. walks_alike t n m c s less more) new (omega (arith, few)) (omega (arith, some)))
  where
    by_case : (b : Bool) → is_among s x ≡ b
        → (is_among s x ≡ false → fold (λ s child. walk n t child s) (s ++ x ∷ []) (children t x) ≡ fold (λ s child. walk m t child s) (s ++ x ∷ []) (children t x))
        → cond b s (fold (λ s child. walk n t child s) (s ++ x ∷ []) (children t x)) ≡ cond b s (fold (λ s child. walk m t child s) (s ++ x ∷ []) (children t x))
    by_case true is rest = refl
    by_case false is rest = rest is

-- ---- one node at a time

module _ (t : Tree) where
  -- what was seen is passed
  pub walked_seen : (x : ℕ) (xs seen : List ℕ) → is_among seen x ≡ true → walked t (x ∷ xs) seen ≡ walked t xs seen
  walked_seen x xs seen among =
      ap (λ b. walked t xs (cond b seen (fold (λ s child. walk (length t.nodes) t child s) (seen ++ x ∷ []) (children t x)))) among

  below_same : (x : ℕ) (seen : List ℕ) → is_among seen x ≡ false
      → fold (λ s child. walk (length t.nodes) t child s) (seen ++ x ∷ []) (children t x) ≡ walked t (children t x) (seen ++ x ∷ [])
  unfolding unseen
  below_same x seen new =
      let most : unseen t seen ≤ length t.nodes = count_by-le-length (λ (e : ℕ × Node). not (is_among seen e.0)) t.nodes in
      below_alike t (length t.nodes) (suc (length t.nodes)) x seen (λ c s less more. walks_alike t (length t.nodes) (suc (length t.nodes)) c s less more) new most (omega (arith, most))

  -- what was not is seen, and then all below it, before the next
  pub walked_new : (x : ℕ) (xs seen : List ℕ) → is_among seen x ≡ false
      → walked t (x ∷ xs) seen ≡ walked t xs (walked t (children t x) (seen ++ x ∷ []))
  walked_new x xs seen new =
      ap (λ b. walked t xs (cond b seen (fold (λ s child. walk (length t.nodes) t child s) (seen ++ x ∷ []) (children t x)))) new
      ∙ ap (walked t xs) (below_same x seen new)

  -- and so all at and below a node is the node, and then all below it
  pub at_and_below_walked : (x : ℕ) → at_and_below t x ≡ walked t (children t x) (x ∷ [])
  at_and_below_walked x = below_same x [] refl
