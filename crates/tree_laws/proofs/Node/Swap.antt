-- Changes of two different nodes come in either order.
use Rattle.std.proofs.Common.{◌≡◌, ◌≢◌, ℕ, List, [], ◌∷◌, Bool, true, false, cond, Option, None, Some, refl, sym, ap, ◌∙◌}
use Rattle.std.proofs.lemmas.Bool.{cond-true, cond-false}
use Rattle.std.specs.BTreeMap.{is_at}
use Rattle.std.specs.Map.{set_value}
use Rattle.std.specs.Ordering.{nat_cmp}
use Rattle.plain_tree.specs.Tree.{Node, Tree, node_at, changed_by, change_node}
use Rattle.tree_laws.proofs.Node.Keys.{same_number, other_number}
use Rattle.tree_laws.proofs.Node.Reading.{node_at-change_node_other}

-- values of keys that no two tests take for one another
set_value_comm : {K X : Type 0} (test other : K → Bool) → ((k : K) → test k ≡ true → other k ≡ false) → (v w : X) (es : List (K × X))
    → set_value test (set_value other es w) v ≡ set_value other (set_value test es v) w
set_value_comm test other apart v w [] = refl
set_value_comm {K} {X} test other apart v w (e ∷ es) = by_case (set_value_comm test other apart v w es) (test e.0) refl (other e.0) refl
  where
    by_case : set_value test (set_value other es w) v ≡ set_value other (set_value test es v) w → (b : Bool) → test e.0 ≡ b → (c : Bool) → other e.0 ≡ c
        → set_value test (cond c ((e.0, w) ∷ es) (e ∷ set_value other es w)) v ≡ set_value other (cond b ((e.0, v) ∷ es) (e ∷ set_value test es v)) w
    by_case rest true is true too =
        let clash : true ≡ false = sym too ∙ apart e.0 is in
        absurd (cc clash)
    by_case rest true is false not_too = cond-true _ _ _ is ∙ sym (cond-false _ _ _ not_too)
    by_case rest false is_not true is = cond-false _ _ _ is_not ∙ sym (cond-true _ _ _ is)
    by_case rest false is_not false not_too = cond-false _ _ _ is_not ∙ ap (λ (xs : List (K × X)). e ∷ xs) rest ∙ sym (cond-false _ _ _ not_too)

pub change_node_comm : (f g : Node → Node) (i x : ℕ) (t : Tree) → x ≢ i → change_node x g (change_node i f t) ≡ change_node i f (change_node x g t)
change_node_comm f g i x t apart =
    ap (λ (found : Option Node). changed_by g found x (change_node i f t)) (node_at-change_node_other f i x t apart)
    ∙ swapped (node_at t x) (node_at t i)
    ∙ ap (λ (found : Option Node). changed_by f found i (change_node x g t)) (sym (node_at-change_node_other g x i t (λ same. apart (sym same))))
  where
    swapped : (a b : Option Node) → changed_by g a x (changed_by f b i t) ≡ changed_by f b i (changed_by g a x t)
    swapped None b = refl
    swapped (Some node) None = refl
    swapped (Some node) (Some first) =
        ap (λ (nodes : List (ℕ × Node)). record t { nodes = nodes })
        (set_value_comm (is_at (nat_cmp x)) (is_at (nat_cmp i)) (λ k here. other_number i k (λ same. apart (same_number x k here ∙ sym same))) (g node) (f first) t.nodes)
