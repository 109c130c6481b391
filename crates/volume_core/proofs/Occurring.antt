-- Each block of a file that is not all zeros is among the blocks of the tree.
use Rattle.std.proofs.Common.{◌≡◌, ℕ, zero, suc, ◌+◌, ◌-◌, ◌*◌, ◌/◌, ◌<◌, ◌≤◌, List, [], ◌∷◌, length, Bool, true, false, cond, Some, refl, sym, ap, ◌∙◌, subst, inl, inr, arith}
use Rattle.std.specs.Prelude.{Contains, IsTrue, filter, option_and_then}
use Rattle.std.specs.BTreeMap.{is_at}
use Rattle.std.specs.Map.{lookup}
use Rattle.std.specs.Ordering.{nat_cmp}
use Rattle.std.proofs.Math.Nat.{mod-lt, mul-le-mul_right}
use Rattle.std.proofs.lemmas.Nat.{div-add-mod'}
use Rattle.std.proofs.lemmas.Bool.{cases_lt}
use Rattle.plain_tree.specs.Tree.{Content, Regular, Directory, Link, Node, Tree}
use Rattle.plain_tree.specs.Files.{bytes_of, file_at}
use Rattle.block_math.specs.Blocks.{forms_from, piece_of, trimmed}
use Rattle.core_model.specs.Occurring.{KnowsAll, blocks_in, blocks_of_content, is_stored}
use Rattle.core_model.proofs.Elements.{Contains-first, Contains-flat_map, Contains-later}
use Rattle.byte_steps.specs.Changed.{KnowsChanged}
use Rattle.byte_steps.proofs.SameForms.{piece_of-past}

forms_contain : (size count first n : ℕ) (bytes : List ℕ) → first ≤ n → n < first + count → IsTrue (is_stored (trimmed (piece_of size bytes n)))
    → Contains (filter is_stored (forms_from size bytes count first)) (trimmed (piece_of size bytes n))
forms_contain size zero first n bytes low high stored = absurd (omega arith)
forms_contain size (suc count) first n bytes low high stored =
    elim (cases_lt first n) [
      | inl less ↦ behind (is_stored (trimmed (piece_of size bytes first))) (forms_contain size count (first + 1) n bytes (omega arith) (omega arith) stored)
      | inr most ↦ here first (omega arith)
    ]
  where
    rest : List (List ℕ)
    rest = filter is_stored (forms_from size bytes count (first + 1))

    behind : (b : Bool) → Contains rest (trimmed (piece_of size bytes n)) → Contains (cond b (trimmed (piece_of size bytes first) ∷ rest) rest) (trimmed (piece_of size bytes n))
    behind true there = Contains-later (trimmed (piece_of size bytes first)) rest (trimmed (piece_of size bytes n)) there
    behind false there = there

    here : (m : ℕ) → m ≡ n → Contains (cond (is_stored (trimmed (piece_of size bytes m))) (trimmed (piece_of size bytes m) ∷ rest) rest) (trimmed (piece_of size bytes n))
    here m same =
        subst (λ k. Contains (cond (is_stored (trimmed (piece_of size bytes k))) (trimmed (piece_of size bytes k) ∷ rest) rest) (trimmed (piece_of size bytes n))) (sym same)
        (subst (λ b. Contains (cond b (trimmed (piece_of size bytes n) ∷ rest) rest) (trimmed (piece_of size bytes n))) (sym stored) (Contains-first (trimmed (piece_of size bytes n)) rest))

before_end : (size n count len : ℕ) → n * size < len → len ≤ count * size → n < count
before_end size n count len inside reach = elim (cases_lt n count) [
  | inl low ↦ low
  | inr high ↦ absurd (let past : count * size ≤ n * size = mul-le-mul_right size high in omega arith)
]

some_size : (size : ℕ) → 0 < suc size
some_size size = omega arith

-- a block that is not all zeros begins before the end
within_file : (size n : ℕ) (bytes : List ℕ) → IsTrue (is_stored (trimmed (piece_of size bytes n))) → n < (length bytes + size - 1) / size
within_file size n bytes stored =
    elim (cases_lt (n * size) (length bytes)) [
      | inl inside ↦ by_size size n bytes stored inside
      | inr past ↦
          let none : is_stored (trimmed (piece_of size bytes n)) ≡ false = ap (λ (b : List ℕ). is_stored (trimmed b)) (piece_of-past size n bytes past) in
          let clash : true ≡ false = sym stored ∙ none in
          absurd (cc clash)
    ]
  where
    by_size : (size n : ℕ) (bytes : List ℕ) → IsTrue (is_stored (trimmed (piece_of size bytes n))) → n * size < length bytes → n < (length bytes + size - 1) / size
    by_size zero n bytes stored inside = absurd (cc stored)
    by_size (suc size) n bytes stored inside = before_end (suc size) n ((length bytes + suc size - 1) / suc size) (length bytes) inside
        (omega (arith, div-add-mod' (length bytes + suc size - 1) (suc size), mod-lt (length bytes + suc size - 1) (some_size size)))

-- the node of a file
file_node : (x : ℕ) (bytes : List ℕ) (nodes : List (ℕ × Node)) → option_and_then (λ (node : Node). bytes_of node.content) (lookup (is_at (nat_cmp x)) nodes) ≡ Some bytes
    → (e : ℕ × Node) × Contains nodes e × (e.1.content ≡ Regular bytes)
file_node x bytes [] is = absurd (cc is)
file_node x bytes (e ∷ es) is = by_test (λ own. file_node x bytes es own) (is_at (nat_cmp x) e.0) refl
  where
    of_file : (content : Content) → bytes_of content ≡ Some bytes → content ≡ Regular bytes
    of_file (Regular own) same =
        let equal : own ≡ bytes = cc same in
        ap Regular equal
    of_file (Directory entries) same = absurd (cc same)
    of_file (Link target) same = absurd (cc same)

    by_test : (option_and_then (λ (node : Node). bytes_of node.content) (lookup (is_at (nat_cmp x)) es) ≡ Some bytes → (f : ℕ × Node) × Contains es f × (f.1.content ≡ Regular bytes))
        → (b : Bool) → is_at (nat_cmp x) e.0 ≡ b → (f : ℕ × Node) × Contains (e ∷ es) f × (f.1.content ≡ Regular bytes)
    by_test others true own =
        (e, Contains-first e es, of_file e.1.content (sym (ap (λ c. option_and_then (λ (node : Node). bytes_of node.content) (cond c (Some e.1) (lookup (is_at (nat_cmp x)) es))) own) ∙ is))
    by_test others false own =
        let there = others (sym (ap (λ c. option_and_then (λ (node : Node). bytes_of node.content) (cond c (Some e.1) (lookup (is_at (nat_cmp x)) es))) own) ∙ is) in
        (there.0, Contains-later e es there.0 there.1, there.2)

pub stored_piece_occurs : (whole : Tree) (x n : ℕ) (bytes : List ℕ) → file_at whole x ≡ Some bytes → IsTrue (is_stored (trimmed (piece_of whole.block_size bytes n)))
    → Contains (blocks_in whole) (trimmed (piece_of whole.block_size bytes n))
stored_piece_occurs whole x n bytes file stored =
    let node = file_node x bytes whole.nodes file in
    let size : ℕ = whole.block_size in
    Contains-flat_map (λ (e : ℕ × Node). blocks_of_content size e.1.content) whole.nodes node.0 (trimmed (piece_of size bytes n)) node.1
    (subst (λ (c : Content). Contains (blocks_of_content size c) (trimmed (piece_of size bytes n))) (sym node.2)
    (forms_contain size ((length bytes + size - 1) / size) 0 n bytes (omega arith) (omega (arith, within_file size n bytes stored)) stored))

-- contents that know the blocks of a tree know the changed ones of its file
pub knows_changed : (digest_of : List ℕ → List ℕ) (whole : Tree) (x : ℕ) (bytes changed : List ℕ) → file_at whole x ≡ Some bytes
    → (m : List (List ℕ × List ℕ)) → KnowsAll digest_of m (blocks_in whole) → KnowsChanged digest_of m whole.block_size bytes changed
knows_changed digest_of whole x bytes changed file m knows n there stored = knows (trimmed (piece_of whole.block_size bytes n)) (stored_piece_occurs whole x n bytes file stored)
