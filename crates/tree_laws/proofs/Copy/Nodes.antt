-- Where the copies of nodes stand, and what look-ups find among them.
use Rattle.std.proofs.Common.{◌≡◌, ◌≢◌, ◌≤◌, ℕ, zero, suc, ◌+◌, List, [], ◌∷◌, ◌++◌, Bool, true, false, cond, Option, None, Some, refl, sym, ap, ◌∙◌, ◌⊎◌, inl, inr, arith, ◌<◌}
use Rattle.std.proofs.lemmas.Bool.{cases_eq, eqb-true, eq-eqb, or_left, or_right, or_cases, both_ways}
use Rattle.std.proofs.lemmas.List.{append-nil, append_assoc}
use Rattle.std.specs.BTreeMap.{is_at}
use Rattle.std.specs.Map.{lookup}
use Rattle.std.specs.Ordering.{nat_cmp}
use Rattle.std.specs.Prelude.{◌==◌, length, fold, ◌||◌}
use Rattle.plain_tree.specs.Below.{is_among, children, walk, at_and_below}
use Rattle.plain_tree.specs.Numbers.{InOrder}
use Rattle.plain_tree.specs.Subtrees.{place_of, copy_number, copied_node, copies}
use Rattle.plain_tree.specs.Tree.{Node, Tree, node_at}
use Rattle.tree_laws.proofs.Copy.Numbers.{copies_ascend}
use Rattle.tree_laws.proofs.Node.Keys.{same_number, other_number, own_number, lookup-append_there, lookup-append_new, lookup-append_before}
use Rattle.tree_laws.proofs.Node.Kind.{one_some, none_some}
use Rattle.tree_laws.proofs.Node.Reading.{lookup_none_below, node_at_none_next}

-- ---- places

place_head : (y : ℕ) (rest : List ℕ) → place_of y (y ∷ rest) ≡ 0
place_head y rest = ap (λ b. cond b 0 (place_of y rest + 1)) (eq-eqb y y refl)

place_if : (first second : Bool) (m n : ℕ) → cond first 0 (m + 1) ≡ cond second 0 (n + 1) → ((first ≡ true) × (second ≡ true)) ⊎ ((first ≡ false) × (second ≡ false) × (m ≡ n))
place_if true true m n is = inl (refl, refl)
place_if true false m n is = absurd (omega (arith, is))
place_if false true m n is = absurd (omega (arith, is))
place_if false false m n is = inr (refl, refl, omega (arith, is))

-- two inodes of a list that have one place are one
pub place_of-one : (order : List ℕ) (y z : ℕ) → is_among order y ≡ true → place_of y order ≡ place_of z order → y ≡ z
place_of-one [] y z among same = absurd (cc among)
place_of-one (i ∷ order) y z among same =
    elim (place_if (i == y) (i == z) (place_of y order) (place_of z order) same) [
      | inl both ↦ sym (eqb-true i y both.0) ∙ eqb-true i z both.1
      | inr neither ↦ elim (or_cases (i == y) (is_among order y) among) [
        | inl first ↦ absurd (both_ways (i == y) neither.0 first)
        | inr later ↦ place_of-one order y z later neither.2
      ]
    ]

place_less : (here later : Bool) (place size : ℕ) → (here || later) ≡ true → (later ≡ true → place < size) → cond here 0 (place + 1) < suc size
place_less true later place size among rest = omega arith
place_less false later place size among rest = omega (arith, rest among)

-- a place is one of the list's
pub place_within : (order : List ℕ) (y : ℕ) → is_among order y ≡ true → place_of y order < length order
place_within [] y among = absurd (cc among)
place_within (i ∷ order) y among = place_less (i == y) (is_among order y) (place_of y order) (length order) among (place_within order y)

-- ---- the first of a walk

abbrev Begins : List ℕ → List ℕ → Type 0
Begins front whole = (rest : List ℕ) × (whole ≡ front ++ rest)

begins_all : (step : ℕ → List ℕ → List ℕ) → ((child : ℕ) (seen : List ℕ) → Begins seen (step child seen)) → (inodes seen : List ℕ) → Begins seen (fold (λ s child. step child s) seen inodes)
begins_all step begins [] seen = ([], sym (append-nil seen))
begins_all step begins (inode ∷ inodes) seen =
    let one = begins inode seen in
    let rest = begins_all step begins inodes (step inode seen) in
    (one.0 ++ rest.0, rest.1 ∙ ap (λ s. s ++ rest.0) one.1 ∙ append_assoc seen one.0 rest.0)

begins_new : (step : ℕ → List ℕ → List ℕ) → ((child : ℕ) (seen : List ℕ) → Begins seen (step child seen)) → (inode : ℕ) (below seen : List ℕ) (test : Bool)
    → Begins seen (cond test seen (fold (λ s child. step child s) (seen ++ inode ∷ []) below))
begins_new step begins inode below seen true = ([], sym (append-nil seen))
begins_new step begins inode below seen false =
    let all = begins_all step begins below (seen ++ inode ∷ []) in
    (inode ∷ all.0, all.1 ∙ append_assoc seen (inode ∷ []) all.0)

begins_walk : (n : ℕ) (t : Tree) (inode : ℕ) (seen : List ℕ) → Begins seen (walk n t inode seen)
begins_walk zero t inode seen = ([], sym (append-nil seen))
begins_walk (suc n) t inode seen = begins_new (λ child s. walk n t child s) (λ child s. begins_walk n t child s) inode (children t inode) seen (is_among seen inode)

-- the node itself is the first that its walk visits
pub first_place : (t : Tree) (x : ℕ) → place_of x (at_and_below t x) ≡ 0
first_place t x =
    let all = begins_all (λ child s. walk (length t.nodes) t child s) (λ child s. begins_walk (length t.nodes) t child s) (children t x) (x ∷ []) in
    ap (place_of x) all.1 ∙ place_head x all.0

-- ---- look-ups among the copies

-- the copy of a node
abbrev pub copy_of : Tree → List ℕ → ℕ → Node → Node
copy_of t order now node = copied_node t.next_inode order now node

abbrev pub number_of : Tree → List ℕ → ℕ → ℕ
number_of t order y = copy_number t.next_inode order y

-- a node is the copy of one of the inodes
pub record FromCopy (t : Tree) (order : List ℕ) (now : ℕ) (inodes : List ℕ) (z : ℕ) (node : Node) : Type 0 where
  pub of : ℕ
  pub original : Node
  pub among : is_among inodes of ≡ true
  pub number : z ≡ number_of t order of
  pub there : node_at t of ≡ Some original
  pub is : node ≡ copy_of t order now original

abbrev next_copies : Tree → List ℕ → ℕ → ℕ → List ℕ → Option Node → List (ℕ × Node)
next_copies t order now inode inodes found =
    elim found as (λ _. List (ℕ × Node)) [ Some node ↦ (copy_number t.next_inode order inode, copied_node t.next_inode order now node) ∷ copies t order now inodes | None ↦ copies t order now inodes ]

-- another inode has another number
other_copy : (t : Tree) (order : List ℕ) (y z : ℕ) → is_among order y ≡ true → y ≢ z → number_of t order y ≢ number_of t order z
other_copy t order y z among apart same = apart (place_of-one order y z among (omega (arith, same)))

which_one : (inode y : ℕ) (inodes : List ℕ) → is_among (inode ∷ inodes) y ≡ true → (inode ≡ y) ⊎ (is_among inodes y ≡ true)
which_one inode y inodes is =
    elim (or_cases (inode == y) (is_among inodes y) is) [
      | inl first ↦ inl (eqb-true inode y first)
      | inr later ↦ inr later
    ]

-- copies of the inodes of a list
module _ (t : Tree) (order : List ℕ) (now : ℕ) where
  from_later : (inode : ℕ) (inodes : List ℕ) (z : ℕ) (node : Node) → FromCopy t order now inodes z node → FromCopy t order now (inode ∷ inodes) z node
  from_later inode inodes z node from = record {
    of = from.of;
    original = from.original;
    among = or_right (inode == from.of) (is_among inodes from.of) from.among;
    number = from.number;
    there = from.there;
    is = from.is;
  }

  from_here : (inode : ℕ) (inodes : List ℕ) (z : ℕ) (original node : Node) (found : Option Node) (test : Bool) → is_at (nat_cmp z) (number_of t order inode) ≡ test → node_at t inode ≡ Some original → (found ≡ Some node → FromCopy t order now inodes z node) → cond test (Some (copy_of t order now original)) found ≡ Some node → FromCopy t order now (inode ∷ inodes) z node
  from_here inode inodes z original node found true here there rest is =
      let same : copy_of t order now original ≡ node = cc is in
      record {
        of = inode;
        original = original;
        among = or_left (inode == inode) (is_among inodes inode) (eq-eqb inode inode refl);
        number = same_number z (number_of t order inode) here;
        there = there;
        is = sym same;
      }
  from_here inode inodes z original node found false here there rest is = from_later inode inodes z node (rest is)

  from_if : (inode : ℕ) (inodes : List ℕ) (z : ℕ) (node : Node) (found : Option Node) → node_at t inode ≡ found → (lookup (is_at (nat_cmp z)) (copies t order now inodes) ≡ Some node → FromCopy t order now inodes z node) → lookup (is_at (nat_cmp z)) (next_copies t order now inode inodes found) ≡ Some node → FromCopy t order now (inode ∷ inodes) z node
  from_if inode inodes z node None there rest is = from_later inode inodes z node (rest is)
  from_if inode inodes z node (Some original) there rest is =
      from_here inode inodes z original node (lookup (is_at (nat_cmp z)) (copies t order now inodes)) (is_at (nat_cmp z) (number_of t order inode)) refl there rest is

  from_copies : (inodes : List ℕ) (z : ℕ) (node : Node) → lookup (is_at (nat_cmp z)) (copies t order now inodes) ≡ Some node → FromCopy t order now inodes z node
  from_copies [] z node is = absurd (cc is)
  from_copies (inode ∷ inodes) z node is = from_if inode inodes z node (node_at t inode) refl (from_copies inodes z node) is

  to_if : (inode : ℕ) (inodes : List ℕ) (y : ℕ) (node : Node) (found : Option Node) → node_at t inode ≡ found → is_among order y ≡ true → node_at t y ≡ Some node → (is_among inodes y ≡ true → lookup (is_at (nat_cmp (number_of t order y))) (copies t order now inodes) ≡ Some (copy_of t order now node)) → ((inode ≡ y) ⊎ (is_among inodes y ≡ true)) → (inode ≡ y) ⊎ (inode ≢ y) → lookup (is_at (nat_cmp (number_of t order y))) (next_copies t order now inode inodes found) ≡ Some (copy_of t order now node)
  to_if inode inodes y node None there among is rest which (inl same) =
      absurd (none_some (node_at t inode) node there (ap (node_at t) same ∙ is))
  to_if inode inodes y node None there among is rest (inl same) (inr apart) = absurd (apart same)
  to_if inode inodes y node None there among is rest (inr later) (inr apart) = rest later
  to_if inode inodes y node (Some original) there among is rest which (inl same) =
      let one : original ≡ node = one_some _ original node there (ap (node_at t) same ∙ is) in
      ap (λ b. cond b (Some (copy_of t order now original)) (lookup (is_at (nat_cmp (number_of t order y))) (copies t order now inodes)))
      (ap (λ k. is_at (nat_cmp (number_of t order y)) (number_of t order k)) same ∙ own_number (number_of t order y))
      ∙ ap (λ o. Some (copy_of t order now o)) one
  to_if inode inodes y node (Some original) there among is rest (inl same) (inr apart) = absurd (apart same)
  to_if inode inodes y node (Some original) there among is rest (inr later) (inr apart) =
      ap (λ b. cond b (Some (copy_of t order now original)) (lookup (is_at (nat_cmp (number_of t order y))) (copies t order now inodes)))
      (other_number (number_of t order y) (number_of t order inode) (other_copy t order y inode among (λ same. apart (sym same))))
      ∙ rest later

  to_copies : (inodes : List ℕ) (y : ℕ) (node : Node) → is_among order y ≡ true → is_among inodes y ≡ true → node_at t y ≡ Some node → lookup (is_at (nat_cmp (number_of t order y))) (copies t order now inodes) ≡ Some (copy_of t order now node)
  to_copies [] y node among within is = absurd (cc within)
  to_copies (inode ∷ inodes) y node among within is =
      to_if inode inodes y node (node_at t inode) refl among is (λ later. to_copies inodes y node among later is) (which_one inode y inodes within) (cases_eq inode y)

-- ---- a tree with copies

-- the tree with the copies, before one of them is named
abbrev pub with_copies : Tree → List ℕ → ℕ → Tree
with_copies t order now = record t { next_inode = t.next_inode + length order; nodes = t.nodes ++ copies t order now order }

-- a node that was there is there
pub old_node : (t : Tree) (order : List ℕ) (now y : ℕ) (node : Node) → node_at t y ≡ Some node → node_at (with_copies t order now) y ≡ Some node
old_node t order now y node is = lookup-append_there (is_at (nat_cmp y)) t.nodes (copies t order now order) node is

-- copies have numbers that were not given
pub number_fits : (t : Tree) (order : List ℕ) (y : ℕ) → t.next_inode ≤ number_of t order y
number_fits t order y = omega arith

-- the copy of each node is there
pub new_node : (t : Tree) → InOrder t → (order : List ℕ) (now y : ℕ) (node : Node) → is_among order y ≡ true → node_at t y ≡ Some node
    → node_at (with_copies t order now) (number_of t order y) ≡ Some (copy_of t order now node)
new_node t ordered order now y node among is =
    lookup-append_new (is_at (nat_cmp (number_of t order y))) t.nodes (copies t order now order) (node_at_none_next t ordered (number_of t order y) (number_fits t order y))
    ∙ to_copies t order now order y node among among is

from_node_if : (t : Tree) (order : List ℕ) (now z : ℕ) (node : Node) (found : Option Node) → node_at t z ≡ found → node_at (with_copies t order now) z ≡ Some node
    → (node_at t z ≡ Some node) ⊎ FromCopy t order now order z node
from_node_if t order now z node None there is = inr (from_copies t order now order z node (sym (lookup-append_new (is_at (nat_cmp z)) t.nodes (copies t order now order) there) ∙ is))
from_node_if t order now z node (Some old) there is =
    let both_ways : Some old ≡ Some node = sym (old_node t order now z old there) ∙ is in
    inl (there ∙ both_ways)

-- a node is one that was there, or a copy
pub from_node : (t : Tree) (order : List ℕ) (now z : ℕ) (node : Node) → node_at (with_copies t order now) z ≡ Some node → (node_at t z ≡ Some node) ⊎ FromCopy t order now order z node
from_node t order now z node is = from_node_if t order now z node (node_at t z) refl is

-- what was there is there
pub node_before : (t : Tree) (source now x : ℕ) → x < t.next_inode → node_at (with_copies t (at_and_below t source) now) x ≡ node_at t x
node_before t source now x less =
    let order : List ℕ = at_and_below t source in
    lookup-append_before (is_at (nat_cmp x)) t.nodes (copies t order now order) (lookup_none_below x t.next_inode (copies t order now order) (t.next_inode + length order) (copies_ascend t source now) less)
