-- A walk visits each node once, and so copies are numbered one after the other.
use Rattle.std.proofs.Common.{◌≡◌, ℕ, zero, suc, ◌+◌, List, [], ◌∷◌, ◌++◌, Bool, true, false, cond, Option, None, Some, refl, sym, ap, ◌∙◌, subst, arith}
use Rattle.std.proofs.lemmas.Bool.{eq-eqb, or_parts}
use Rattle.std.proofs.lemmas.List.{append-nil, append_assoc, length-append}
use Rattle.std.specs.Map.{keys_of}
use Rattle.std.specs.Prelude.{◌==◌, length, fold}
use Rattle.plain_tree.specs.Below.{is_among, children, walk, at_and_below}
use Rattle.plain_tree.specs.Numbers.{Ascend}
use Rattle.plain_tree.specs.Subtrees.{place_of, copy_number, copied_node, copies}
use Rattle.plain_tree.specs.Tree.{Node, Tree, node_at}
use Rattle.tree_laws.proofs.Node.Ascend.{Ascend-lower}

-- each is none of those before it
abbrev pub Fresh : List ℕ → List ℕ → Type 0
Fresh seen [] = Unit {0}
Fresh seen (inode ∷ inodes) = (is_among seen inode ≡ false) × Fresh (seen ++ inode ∷ []) inodes

one_more : (seen inodes : List ℕ) (inode : ℕ) → Fresh seen inodes → is_among (seen ++ inodes) inode ≡ false → Fresh seen (inodes ++ inode ∷ [])
one_more seen [] inode fresh new = (ap (λ s. is_among s inode) (sym (append-nil seen)) ∙ new, _)
one_more seen (first ∷ inodes) inode fresh new =
    (fresh.0, one_more (seen ++ first ∷ []) inodes inode fresh.1 (ap (λ s. is_among s inode) (append_assoc seen (first ∷ []) inodes) ∙ new))

visit_all : (step : ℕ → List ℕ → List ℕ) → ((child : ℕ) (seen : List ℕ) → Fresh [] seen → Fresh [] (step child seen)) → (inodes seen : List ℕ) → Fresh [] seen
    → Fresh [] (fold (λ s child. step child s) seen inodes)
visit_all step keeps [] seen fresh = fresh
visit_all step keeps (inode ∷ inodes) seen fresh = visit_all step keeps inodes (step inode seen) (keeps inode seen fresh)

visit_new : (step : ℕ → List ℕ → List ℕ) → ((child : ℕ) (seen : List ℕ) → Fresh [] seen → Fresh [] (step child seen)) → (inode : ℕ) (below seen : List ℕ) (test : Bool)
    → is_among seen inode ≡ test → Fresh [] seen → Fresh [] (cond test seen (fold (λ s child. step child s) (seen ++ inode ∷ []) below))
visit_new step keeps inode below seen true is fresh = fresh
visit_new step keeps inode below seen false is fresh = visit_all step keeps below (seen ++ inode ∷ []) (one_more [] seen inode fresh is)

visit : (n : ℕ) (t : Tree) (inode : ℕ) (seen : List ℕ) → Fresh [] seen → Fresh [] (walk n t inode seen)
visit zero t inode seen fresh = fresh
visit (suc n) t inode seen fresh =
    visit_new (λ child s. walk n t child s) (λ child s old. visit n t child s old) inode (children t inode) seen (is_among seen inode) refl fresh

-- a walk visits no node twice
pub visited_once : (t : Tree) (inode : ℕ) → Fresh [] (at_and_below t inode)
visited_once t inode = visit (suc (length t.nodes)) t inode [] _

-- ---- the numbers of copies

place_behind : (seen : List ℕ) (inode : ℕ) (inodes : List ℕ) → is_among seen inode ≡ false → place_of inode (seen ++ inode ∷ inodes) ≡ length seen
place_behind [] inode inodes new = rw (eq-eqb inode inode refl) refl
place_behind (first ∷ seen) inode inodes new =
    let differs = or_parts (first == inode) (is_among seen inode) new in
    let rest : place_of inode (seen ++ inode ∷ inodes) ≡ length seen = place_behind seen inode inodes differs.1 in
    rw differs.0 (omega (arith, rest))

-- the copies of what is left of the walk
copies_if : (t : Tree) (order inodes : List ℕ) (now inode low next : ℕ) (found : Option Node) → copy_number t.next_inode order inode ≡ low → Ascend (low + 1) (keys_of (copies t order now inodes)) next
    → Ascend low (keys_of (elim found as (λ _. List (ℕ × Node)) [ Some node ↦ (copy_number t.next_inode order inode, copied_node t.next_inode order now node) ∷ copies t order now inodes | None ↦ copies t order now inodes ])) next
copies_if t order inodes now inode low next (Some node) is rest = rw is (omega arith, rest)
copies_if t order inodes now inode low next None is rest = Ascend-lower (low + 1) low (keys_of (copies t order now inodes)) next (omega arith) rest

copies_from : (t : Tree) (order : List ℕ) (now : ℕ) (seen inodes : List ℕ) → order ≡ seen ++ inodes → Fresh seen inodes
    → Ascend (t.next_inode + length seen) (keys_of (copies t order now inodes)) (t.next_inode + length order)
copies_from t order now seen [] is fresh =
    let all : length order ≡ length seen = ap length (is ∙ append-nil seen) in
    omega (arith, all)
copies_from t order now seen (inode ∷ inodes) is fresh =
    let again : order ≡ (seen ++ inode ∷ []) ++ inodes = is ∙ sym (append_assoc seen (inode ∷ []) inodes) in
    let longer : length (seen ++ inode ∷ []) ≡ length seen + 1 = length-append seen (inode ∷ []) in
    let place : copy_number t.next_inode order inode ≡ t.next_inode + length seen = ap (λ o. t.next_inode + place_of inode o) is ∙ ap (λ k. t.next_inode + k) (place_behind seen inode inodes fresh.0) in
    let rest = copies_from t order now (seen ++ inode ∷ []) inodes again fresh.1 in
    let low : t.next_inode + length (seen ++ inode ∷ []) ≡ t.next_inode + length seen + 1 = omega (arith, longer) in
    copies_if t order inodes now inode (t.next_inode + length seen) (t.next_inode + length order) (node_at t inode) place
    (subst (λ k. Ascend k (keys_of (copies t order now inodes)) (t.next_inode + length order)) low rest)

-- copies stand in the order of their numbers, which fill the range from the next one on
pub copies_ascend : (t : Tree) (source now : ℕ)
    → Ascend t.next_inode (keys_of (copies t (at_and_below t source) now (at_and_below t source))) (t.next_inode + length (at_and_below t source))
copies_ascend t source now =
    subst (λ k. Ascend k (keys_of (copies t (at_and_below t source) now (at_and_below t source))) (t.next_inode + length (at_and_below t source))) (omega arith)
    (copies_from t (at_and_below t source) now [] (at_and_below t source) refl (visited_once t source))
