-- The places of a tree at which blocks lie that are not all zeros, in the order of files and numbers, each with its trimmed block.
use Rattle.std.proofs.Common.{◌≡◌, ℕ, zero, suc, ◌+◌, ◌-◌, ◌*◌, ◌/◌, ◌<◌, ◌≤◌, List, [], ◌∷◌, ◌++◌, map, length, Bool, true, false, cond, Some, refl, sym, ap, ◌∙◌, subst, inl, inr, arith, eqb-true}
use Rattle.std.specs.Prelude.{IsTrue, ◌||◌, filter, option_and_then, option_map}
use Rattle.std.specs.List.{list_all, list_any, flat_map, AllByRecursion}
use Rattle.std.specs.Cmp.{nat_cmp_total, nat_cmp_is, tied_itself}
use Rattle.std.specs.declared.cmp.Ordering.TheVariants.{Less}
use Rattle.std.specs.Ordering.{is_eq, is_lt, nat_cmp, ordering_then}
use Rattle.std.specs.BTreeMap.{is_at}
use Rattle.std.specs.Map.{lookup}
use Rattle.std.proofs.Math.Nat.{mod-lt, mul-le-mul_right}
use Rattle.std.proofs.lemmas.Nat.{div-add-mod'}
use Rattle.std.proofs.lemmas.Bool.{and_from, and_parts, cases_lt}
use Rattle.std.proofs.lemmas.List.{map-append}
use Rattle.std.proofs.lemmas.List.Folds.{list_any-append}
use Rattle.plain_tree.specs.Tree.{Content, Regular, Directory, Link, Node, Tree, node_at}
use Rattle.plain_tree.specs.Files.{bytes_of, file_at}
use Rattle.block_math.specs.Blocks.{forms_from, piece_of, trimmed}
use Rattle.s3_rows.specs.Keyed.{Order, has_key, is_past, pair_cmp, rises, row_at}
use Rattle.row_lemmas.proofs.Tests.{less_from_is_lt, is_eq-nat_cmp}
use Rattle.row_lemmas.proofs.Keyed.Rises.{rises_head, rises_tail}
use Rattle.row_lemmas.proofs.Keyed.RowAt.{row_at_own}
use Rattle.core_model.specs.Occurring.{blocks_in, blocks_of_content, is_stored}
use Rattle.byte_steps.proofs.SameForms.{piece_of-past}

-- a place, and the trimmed block that lies there
abbrev pub Placed : Type 0
Placed = (ℕ × ℕ) × List ℕ

abbrev pub by_place : Order (ℕ × ℕ) Placed
by_place = record { compare = pair_cmp; key = λ p. p.0 }

abbrev pub by_node : Order ℕ (ℕ × Node)
by_node = record { compare = nat_cmp; key = λ e. e.0 }

-- so many blocks of a file, from one on
abbrev pub placed_from : ℕ → ℕ → List ℕ → ℕ → ℕ → List Placed
placed_from size x bytes zero n = []
placed_from size x bytes (suc count) n =
    cond (is_stored (trimmed (piece_of size bytes n))) (((x, n), trimmed (piece_of size bytes n)) ∷ placed_from size x bytes count (n + 1)) (placed_from size x bytes count (n + 1))

abbrev pub placed_in : ℕ → ℕ → Content → List Placed
placed_in size x (Regular bytes) = placed_from size x bytes ((length bytes + size - 1) / size) 0
placed_in size x (Directory entries) = []
placed_in size x (Link target) = []

abbrev pub placed_blocks : Tree → List Placed
placed_blocks whole = flat_map (λ e. placed_in whole.block_size e.0 e.1.content) whole.nodes

-- ---- the blocks

blocks-placed_from : (size x count n : ℕ) (bytes : List ℕ) → map (λ (p : Placed). p.1) (placed_from size x bytes count n) ≡ filter is_stored (forms_from size bytes count n)
blocks-placed_from size x zero n bytes = refl
blocks-placed_from size x (suc count) n bytes =
    by_test (trimmed (piece_of size bytes n)) (placed_from size x bytes count (n + 1)) (is_stored (trimmed (piece_of size bytes n)))
    ∙ ap (λ (rest : List (List ℕ)). cond (is_stored (trimmed (piece_of size bytes n))) (trimmed (piece_of size bytes n) ∷ rest) rest) (blocks-placed_from size x count (n + 1) bytes)
  where
    by_test : (b : List ℕ) (rest : List Placed) (stored : Bool)
        → map (λ (p : Placed). p.1) (cond stored (((x, n), b) ∷ rest) rest) ≡ cond stored (b ∷ map (λ (p : Placed). p.1) rest) (map (λ (p : Placed). p.1) rest)
    by_test b rest true = refl
    by_test b rest false = refl

blocks-placed_in : (size x : ℕ) (content : Content) → map (λ (p : Placed). p.1) (placed_in size x content) ≡ blocks_of_content size content
blocks-placed_in size x (Regular bytes) = blocks-placed_from size x ((length bytes + size - 1) / size) 0 bytes
blocks-placed_in size x (Directory entries) = refl
blocks-placed_in size x (Link target) = refl

-- they are the blocks of the tree
pub blocks-placed_blocks : (whole : Tree) → map (λ (p : Placed). p.1) (placed_blocks whole) ≡ blocks_in whole
blocks-placed_blocks whole = each whole.nodes
  where
    each : (nodes : List (ℕ × Node)) → map (λ (p : Placed). p.1) (flat_map (λ (e : ℕ × Node). placed_in whole.block_size e.0 e.1.content) nodes)
        ≡ flat_map (λ (e : ℕ × Node). blocks_of_content whole.block_size e.1.content) nodes
    each [] = refl
    each (e ∷ es) =
        let rest : List Placed = flat_map (λ (f : ℕ × Node). placed_in whole.block_size f.0 f.1.content) es in
        map-append (λ (p : Placed). p.1) (placed_in whole.block_size e.0 e.1.content) rest
        ∙ ap (λ (bs : List (List ℕ)). bs ++ map (λ (p : Placed). p.1) rest) (blocks-placed_in whole.block_size e.0 e.1.content)
        ∙ ap (λ (bs : List (List ℕ)). blocks_of_content whole.block_size e.1.content ++ bs) (each es)

-- ---- their order

-- a pair comes after one whose first number is less, or the same where the second is less
pair_after_first : (a b i j : ℕ) → nat_cmp a b ≡ Less → is_lt (pair_cmp (a, i) (b, j)) ≡ true
pair_after_first a b i j less = ap (λ c. is_lt (ordering_then c (nat_cmp i j))) less

pair_after_second : (a i j : ℕ) → i < j → is_lt (pair_cmp (a, i) (a, j)) ≡ true
pair_after_second a i j less = ap (λ c. is_lt (ordering_then c (nat_cmp i j))) (tied_itself nat_cmp_total a) ∙ ap is_lt (sym (nat_cmp_is i j Less less))

-- what all blocks of a file and all others come after
past_from : (size x count n : ℕ) (bytes : List ℕ) (k : ℕ × ℕ) (others : List Placed) → ((i : ℕ) → n ≤ i → IsTrue (is_lt (pair_cmp k (x, i)))) → IsTrue (list_all (is_past by_place k) others)
    → IsTrue (list_all (is_past by_place k) (placed_from size x bytes count n ++ others))
past_from size x zero n bytes k others before all = all
past_from size x (suc count) n bytes k others before all =
    by_test (is_stored (trimmed (piece_of size bytes n))) (past_from size x count (n + 1) bytes k others (λ i high. before i (omega arith)) all)
  where
    by_test : (stored : Bool) → IsTrue (list_all (is_past by_place k) (placed_from size x bytes count (n + 1) ++ others))
        → IsTrue (list_all (is_past by_place k) (cond stored (((x, n), trimmed (piece_of size bytes n)) ∷ placed_from size x bytes count (n + 1)) (placed_from size x bytes count (n + 1)) ++ others))
    by_test true rest = and_from (is_lt (pair_cmp k (x, n))) (list_all (is_past by_place k) (placed_from size x bytes count (n + 1) ++ others)) (before n (omega arith)) rest
    by_test false rest = rest

rises-placed_from : (size x count n : ℕ) (bytes : List ℕ) (others : List Placed) → ((i : ℕ) → IsTrue (list_all (is_past by_place (x, i)) others)) → IsTrue (rises by_place others)
    → IsTrue (rises by_place (placed_from size x bytes count n ++ others))
rises-placed_from size x zero n bytes others all up = up
rises-placed_from size x (suc count) n bytes others all up =
    by_test (is_stored (trimmed (piece_of size bytes n))) (rises-placed_from size x count (n + 1) bytes others all up)
  where
    by_test : (stored : Bool) → IsTrue (rises by_place (placed_from size x bytes count (n + 1) ++ others))
        → IsTrue (rises by_place (cond stored (((x, n), trimmed (piece_of size bytes n)) ∷ placed_from size x bytes count (n + 1)) (placed_from size x bytes count (n + 1)) ++ others))
    by_test true rest =
        and_from (list_all (is_past by_place (x, n)) (placed_from size x bytes count (n + 1) ++ others)) (rises by_place (placed_from size x bytes count (n + 1) ++ others))
        (past_from size x count (n + 1) bytes (x, n) others (λ i high. pair_after_second x n i (omega arith)) (all n)) rest
    by_test false rest = rest

module _ (size : ℕ) where
  abbrev all_placed : List (ℕ × Node) → List Placed
  all_placed nodes = flat_map (λ e. placed_in size e.0 e.1.content) nodes

  past_in : (x : ℕ) (content : Content) (k : ℕ × ℕ) (others : List Placed) → nat_cmp k.0 x ≡ Less → IsTrue (list_all (is_past by_place k) others)
      → IsTrue (list_all (is_past by_place k) (placed_in size x content ++ others))
  past_in x (Regular bytes) k others less all =
      past_from size x ((length bytes + size - 1) / size) 0 bytes k others (λ i high. pair_after_first k.0 x k.1 i less) all
  past_in x (Directory entries) k others less all = all
  past_in x (Link target) k others less all = all

  past_nodes : (nodes : List (ℕ × Node)) (k : ℕ × ℕ) → IsTrue (list_all (is_past by_node k.0) nodes) → IsTrue (list_all (is_past by_place k) (all_placed nodes))
  past_nodes [] k all = refl
  past_nodes (e ∷ es) k all =
      let parts : IsTrue (is_past by_node k.0 e) × IsTrue (list_all (is_past by_node k.0) es) = and_parts (is_past by_node k.0 e) (list_all (is_past by_node k.0) es) all in
      past_in e.0 e.1.content k (all_placed es) (less_from_is_lt (nat_cmp k.0 e.0) parts.0) (past_nodes es k parts.1)

  rises-all_placed : (nodes : List (ℕ × Node)) → IsTrue (rises by_node nodes) → IsTrue (rises by_place (all_placed nodes))
  rises-all_placed [] up = refl
  rises-all_placed (e ∷ es) up = by_content e.1.content (rises-all_placed es (rises_tail by_node e es up))
    where
      by_content : (content : Content) → IsTrue (rises by_place (all_placed es)) → IsTrue (rises by_place (placed_in size e.0 content ++ all_placed es))
      by_content (Regular bytes) rest =
          rises-placed_from size e.0 ((length bytes + size - 1) / size) 0 bytes (all_placed es) (λ i. past_nodes es (e.0, i) (rises_head by_node e es up)) rest
      by_content (Directory entries) rest = rest
      by_content (Link target) rest = rest

-- where nodes rise by their numbers, places do
pub rises-placed_blocks : (whole : Tree) → IsTrue (rises by_node whole.nodes) → IsTrue (rises by_place (placed_blocks whole))
rises-placed_blocks whole up = rises-all_placed whole.block_size whole.nodes up

-- ---- each is one of a file

-- a trimmed block of a file that is not all zeros, at its place
pub record IsPlaced (whole : Tree) (p : Placed) : Type 0 where
  pub bytes : List ℕ
  pub file : file_at whole p.0.0 ≡ Some bytes
  pub is : p.1 ≡ trimmed (piece_of whole.block_size bytes p.0.1)
  pub stored : IsTrue (is_stored p.1)

node_at-row_at : (x : ℕ) (nodes : List (ℕ × Node)) → lookup (is_at (nat_cmp x)) nodes ≡ option_map (λ (e : ℕ × Node). e.1) (row_at by_node x nodes)
node_at-row_at x [] = refl
node_at-row_at x (e ∷ es) = by_test (is_at (nat_cmp x) e.0) (node_at-row_at x es)
  where
    by_test : (b : Bool) → lookup (is_at (nat_cmp x)) es ≡ option_map (λ (f : ℕ × Node). f.1) (row_at by_node x es)
        → cond b (Some e.1) (lookup (is_at (nat_cmp x)) es) ≡ option_map (λ (f : ℕ × Node). f.1) (cond b (Some e) (row_at by_node x es))
    by_test true rest = refl
    by_test false rest = rest

module _ (whole : Tree) where
  abbrev B : ℕ
  B = whole.block_size

  placed_each : (x count n : ℕ) (bytes : List ℕ) (others : List Placed) → file_at whole x ≡ Some bytes → AllByRecursion (IsPlaced whole) others
      → AllByRecursion (IsPlaced whole) (placed_from B x bytes count n ++ others)
  placed_each x zero n bytes others file all = all
  placed_each x (suc count) n bytes others file all =
      by_test (is_stored (trimmed (piece_of B bytes n))) refl (placed_each x count (n + 1) bytes others file all)
    where
      by_test : (stored : Bool) → is_stored (trimmed (piece_of B bytes n)) ≡ stored → AllByRecursion (IsPlaced whole) (placed_from B x bytes count (n + 1) ++ others)
          → AllByRecursion (IsPlaced whole) (cond stored (((x, n), trimmed (piece_of B bytes n)) ∷ placed_from B x bytes count (n + 1)) (placed_from B x bytes count (n + 1)) ++ others)
      by_test true stored rest = (record { bytes = bytes; file = file; is = refl; stored = stored }, rest)
      by_test false stored rest = rest

  IsPlaced-nodes : (nodes : List (ℕ × Node)) → AllByRecursion (λ (e : ℕ × Node). row_at by_node e.0 whole.nodes ≡ Some e) nodes
      → AllByRecursion (IsPlaced whole) (flat_map (λ (e : ℕ × Node). placed_in B e.0 e.1.content) nodes)
  IsPlaced-nodes [] own = tt
  IsPlaced-nodes (e ∷ es) own = by_content e.1.content refl (IsPlaced-nodes es own.1)
    where
      node : node_at whole e.0 ≡ Some e.1
      node = node_at-row_at e.0 whole.nodes ∙ ap (option_map (λ (f : ℕ × Node). f.1)) own.0

      by_content : (content : Content) → e.1.content ≡ content → AllByRecursion (IsPlaced whole) (flat_map (λ (f : ℕ × Node). placed_in B f.0 f.1.content) es)
          → AllByRecursion (IsPlaced whole) (placed_in B e.0 content ++ flat_map (λ (f : ℕ × Node). placed_in B f.0 f.1.content) es)
      by_content (Regular bytes) is rest =
          placed_each e.0 ((length bytes + B - 1) / B) 0 bytes (flat_map (λ (f : ℕ × Node). placed_in B f.0 f.1.content) es)
          (ap (option_and_then (λ (f : Node). bytes_of f.content)) node ∙ ap bytes_of is) rest
      by_content (Directory entries) is rest = rest
      by_content (Link target) is rest = rest

  pub IsPlaced-placed_blocks : IsTrue (rises by_node whole.nodes) → AllByRecursion (IsPlaced whole) (placed_blocks whole)
  IsPlaced-placed_blocks up = IsPlaced-nodes whole.nodes (row_at_own by_node nat_cmp_total whole.nodes up)

-- ---- each block of a file is there

own_key : (x n : ℕ) (b : List ℕ) → has_key by_place (x, n) ((x, n), b) ≡ true
own_key x n b = ap (λ c. is_eq (ordering_then c (nat_cmp n n))) (tied_itself nat_cmp_total x) ∙ ap is_eq (tied_itself nat_cmp_total n)

later : (a b : Bool) → b ≡ true → (a || b) ≡ true
later true b is = refl
later false b is = is

there_from : (size x count first n : ℕ) (bytes : List ℕ) → first ≤ n → n < first + count → IsTrue (is_stored (trimmed (piece_of size bytes n)))
    → list_any (has_key by_place (x, n)) (placed_from size x bytes count first) ≡ true
there_from size x zero first n bytes low high stored = absurd (omega arith)
there_from size x (suc count) first n bytes low high stored =
    elim (cases_lt first n) [
      | inl less ↦ behind (is_stored (trimmed (piece_of size bytes first))) (there_from size x count (first + 1) n bytes (omega arith) (omega arith) stored)
      | inr most ↦ (let same : first ≡ n = omega arith in
          ap (λ b. list_any (has_key by_place (x, n)) (cond b (((x, first), trimmed (piece_of size bytes first)) ∷ placed_from size x bytes count (first + 1)) (placed_from size x bytes count (first + 1))))
          (ap (λ m. is_stored (trimmed (piece_of size bytes m))) same ∙ stored)
          ∙ ap (λ b. b || list_any (has_key by_place (x, n)) (placed_from size x bytes count (first + 1)))
          (ap (λ m. has_key by_place (x, n) ((x, m), trimmed (piece_of size bytes first))) same ∙ own_key x n (trimmed (piece_of size bytes first))))
    ]
  where
    behind : (b : Bool) → list_any (has_key by_place (x, n)) (placed_from size x bytes count (first + 1)) ≡ true
        → list_any (has_key by_place (x, n)) (cond b (((x, first), trimmed (piece_of size bytes first)) ∷ placed_from size x bytes count (first + 1)) (placed_from size x bytes count (first + 1))) ≡ true
    behind true rest = later (has_key by_place (x, n) ((x, first), trimmed (piece_of size bytes first))) (list_any (has_key by_place (x, n)) (placed_from size x bytes count (first + 1))) rest
    behind false rest = rest

-- a block that is not all zeros begins before the end
within_file : (size n : ℕ) (bytes : List ℕ) → IsTrue (is_stored (trimmed (piece_of size bytes n))) → n < (length bytes + size - 1) / size
within_file size n bytes stored =
    elim (cases_lt (n * size) (length bytes)) [
      | inl inside ↦ by_size size n bytes stored inside
      | inr past ↦
          let none : is_stored (trimmed (piece_of size bytes n)) ≡ false = ap (λ (b : List ℕ). is_stored (trimmed b)) (piece_of-past size n bytes past) in
          let clash : true ≡ false = sym stored ∙ none in
          absurd (cc clash)
    ]
  where
    by_size : (size n : ℕ) (bytes : List ℕ) → IsTrue (is_stored (trimmed (piece_of size bytes n))) → n * size < length bytes → n < (length bytes + size - 1) / size
    by_size zero n bytes stored inside = absurd (cc stored)
    by_size (suc size) n bytes stored inside = before_end (suc size) n ((length bytes + suc size - 1) / suc size) (length bytes) inside
        (omega (arith, div-add-mod' (length bytes + suc size - 1) (suc size), mod-lt (length bytes + suc size - 1) (some size)))
      where
        some : (size : ℕ) → 0 < suc size
        some size = omega arith

        before_end : (size n count len : ℕ) → n * size < len → len ≤ count * size → n < count
        before_end size n count len inside reach = elim (cases_lt n count) [
          | inl low ↦ low
          | inr high ↦ absurd (let past : count * size ≤ n * size = mul-le-mul_right size high in omega arith)
        ]

module _ (size : ℕ) where
  there_in : (nodes : List (ℕ × Node)) (x n : ℕ) (bytes : List ℕ) → option_and_then (λ (node : Node). bytes_of node.content) (lookup (is_at (nat_cmp x)) nodes) ≡ Some bytes
      → IsTrue (is_stored (trimmed (piece_of size bytes n))) → list_any (has_key by_place (x, n)) (flat_map (λ (e : ℕ × Node). placed_in size e.0 e.1.content) nodes) ≡ true
  there_in [] x n bytes none stored = absurd (cc none)
  there_in (e ∷ es) x n bytes file stored =
      list_any-append (has_key by_place (x, n)) (placed_in size e.0 e.1.content) (flat_map (λ (f : ℕ × Node). placed_in size f.0 f.1.content) es)
      ∙ by_test (λ own. there_in es x n bytes own stored) (is_at (nat_cmp x) e.0) refl file
    where
      here : (a b : Bool) → a ≡ true → (a || b) ≡ true
      here true b is = refl
      here false b is = absurd (cc is)

      by_content : (content : Content) → bytes_of content ≡ Some bytes → list_any (has_key by_place (x, n)) (placed_in size x content) ≡ true
      by_content (Regular own) is =
          let same : own ≡ bytes = cc is in
          subst (λ (b : List ℕ). list_any (has_key by_place (x, n)) (placed_from size x b ((length b + size - 1) / size) 0) ≡ true) (sym same)
          (there_from size x ((length bytes + size - 1) / size) 0 n bytes (omega arith) (omega (arith, within_file size n bytes stored)) stored)
      by_content (Directory entries) is = absurd (cc is)
      by_content (Link target) is = absurd (cc is)

      by_test : (option_and_then (λ (node : Node). bytes_of node.content) (lookup (is_at (nat_cmp x)) es) ≡ Some bytes → list_any (has_key by_place (x, n)) (flat_map (λ (f : ℕ × Node). placed_in size f.0 f.1.content) es) ≡ true)
          → (b : Bool) → is_at (nat_cmp x) e.0 ≡ b → option_and_then (λ (node : Node). bytes_of node.content) (cond b (Some e.1) (lookup (is_at (nat_cmp x)) es)) ≡ Some bytes
          → (list_any (has_key by_place (x, n)) (placed_in size e.0 e.1.content) || list_any (has_key by_place (x, n)) (flat_map (λ (f : ℕ × Node). placed_in size f.0 f.1.content) es)) ≡ true
      by_test others true same own =
          let number : x ≡ e.0 = eqb-true x e.0 (sym (is_eq-nat_cmp x e.0) ∙ same) in
          here (list_any (has_key by_place (x, n)) (placed_in size e.0 e.1.content)) (list_any (has_key by_place (x, n)) (flat_map (λ (f : ℕ × Node). placed_in size f.0 f.1.content) es))
          (ap (λ y. list_any (has_key by_place (x, n)) (placed_in size y e.1.content)) (sym number) ∙ by_content e.1.content own)
      by_test others false apart own = later (list_any (has_key by_place (x, n)) (placed_in size e.0 e.1.content)) (list_any (has_key by_place (x, n)) (flat_map (λ (f : ℕ × Node). placed_in size f.0 f.1.content) es)) (others own)

pub placed_there : (whole : Tree) (x n : ℕ) (bytes : List ℕ) → file_at whole x ≡ Some bytes → IsTrue (is_stored (trimmed (piece_of whole.block_size bytes n)))
    → IsTrue (list_any (has_key by_place (x, n)) (placed_blocks whole))
placed_there whole x n bytes file stored = there_in whole.block_size whole.nodes x n bytes file stored
