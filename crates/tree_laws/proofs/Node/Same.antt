-- Nodes in the order of their numbers are the same where look-ups find the same.
use Rattle.std.proofs.Common.{◌≡◌, ◌<◌, ◌+◌, inl, inr, ℕ, List, [], ◌∷◌, Some, refl, sym, ap, ◌∙◌, subst, arith}
use Rattle.std.proofs.lemmas.Bool.{cases_eq, cases_order, cond-false}
use Rattle.std.specs.BTreeMap.{is_at}
use Rattle.std.specs.Map.{keys_of, lookup}
use Rattle.std.specs.Ordering.{nat_cmp}
use Rattle.plain_tree.specs.Numbers.{Ascend}
use Rattle.plain_tree.specs.Tree.{Node}
use Rattle.tree_laws.proofs.Node.Keys.{other_number}
use Rattle.tree_laws.proofs.Node.Kind.{none_some}
use Rattle.tree_laws.proofs.Node.Reading.{first_node, lookup_none_below}

earlier : (e f : ℕ × Node) (es fs : List (ℕ × Node)) (next : ℕ) → Ascend (f.0 + 1) (keys_of fs) next → e.0 < f.0
    → lookup (is_at (nat_cmp e.0)) (e ∷ es) ≡ lookup (is_at (nat_cmp e.0)) (f ∷ fs) → ⊥
earlier e f es fs next up less same =
    none_some (lookup (is_at (nat_cmp e.0)) (f ∷ fs)) e.1 (lookup_none_below e.0 f.0 (f ∷ fs) next (omega arith, up) less) (sym same ∙ first_node e es)

pub same_nodes : (low : ℕ) (es fs : List (ℕ × Node)) (next : ℕ) → Ascend low (keys_of es) next → Ascend low (keys_of fs) next
    → ((y : ℕ) → lookup (is_at (nat_cmp y)) es ≡ lookup (is_at (nat_cmp y)) fs) → es ≡ fs
same_nodes low [] [] next up down same = refl
same_nodes low [] (f ∷ fs) next up down same = absurd (none_some (lookup (is_at (nat_cmp f.0)) (f ∷ fs)) f.1 (sym (same f.0)) (first_node f fs))
same_nodes low (e ∷ es) [] next up down same = absurd (none_some (lookup (is_at (nat_cmp e.0)) (e ∷ es)) e.1 (same e.0) (first_node e es))
same_nodes low (e ∷ es) (f ∷ fs) next up down same =
    elim (cases_order e.0 f.0) [
      | inl number ↦
          let both : Some e.1 ≡ Some f.1 =
          sym (first_node e es) ∙ same e.0 ∙ ap (λ k. lookup (is_at (nat_cmp k)) (f ∷ fs)) number ∙ first_node f fs in
          let value : e.1 ≡ f.1 = cc both in
          let down_too : Ascend (e.0 + 1) (keys_of fs) next = subst (λ k. Ascend (k + 1) (keys_of fs) next) (sym number) down.1 in
          let rest : es ≡ fs = same_nodes (e.0 + 1) es fs next up.1 down_too (λ y. later y number down_too) in
          λ i. (number i, value i) ∷ rest i
      | inr apart ↦ elim apart [
        | inl less ↦ absurd (earlier e f es fs next down.1 less (same e.0))
        | inr more ↦ absurd (earlier f e fs es next up.1 more (sym (same f.0)))
      ]
    ]
  where
    later : (y : ℕ) → e.0 ≡ f.0 → Ascend (e.0 + 1) (keys_of fs) next → lookup (is_at (nat_cmp y)) es ≡ lookup (is_at (nat_cmp y)) fs
    later y number down_too =
        elim (cases_eq y e.0) [
          | inl here ↦
              ap (λ k. lookup (is_at (nat_cmp k)) es) here ∙ lookup_none_below e.0 (e.0 + 1) es next up.1 (omega arith)
              ∙ sym (ap (λ k. lookup (is_at (nat_cmp k)) fs) here ∙ lookup_none_below e.0 (e.0 + 1) fs next down_too (omega arith))
          | inr other ↦
              sym (cond-false _ _ _ (other_number y e.0 other)) ∙ same y ∙ cond-false _ _ _ (other_number y f.0 (λ s. other (s ∙ sym number)))
        ]
