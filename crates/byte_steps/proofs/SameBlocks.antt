-- As many different blocks, where files of two trees have the same bytes.
use Rattle.std.proofs.Common.{◌≡◌, ◌<◌, ℕ, ◌+◌, List, [], ◌∷◌, Bool, true, false, cond, refl, sym, ap, ◌∙◌, arith}
use Rattle.std.specs.Prelude.{IsTrue, ◌||◌}
use Rattle.std.specs.List.{list_all, list_any, AllByRecursion, IsDistinct}
use Rattle.std.specs.Cmp.{nat_cmp_is}
use Rattle.std.specs.Map.{keys_of}
use Rattle.std.specs.Ordering.{eq_by_cmp, is_lt}
use Rattle.std.specs.Set.{is_member, unique_keys}
use Rattle.std.specs.declared.cmp.Ordering.TheVariants.{Less}
use Rattle.std.proofs.lemmas.Bool.{and_from, or_parts}
use Rattle.std.proofs.lemmas.Cmp.{eq_by_cmp_equiv, nat_list_cmp_total}
use Rattle.std.proofs.lemmas.Map.Made.{length-from_keys}
use Rattle.plain_tree.specs.Numbers.{Ascend, InOrder}
use Rattle.plain_tree.specs.Tree.{Node, Tree}
use Rattle.plain_tree.specs.Files.{file_at}
use Rattle.tree_laws.proofs.Node.Keys.{same_name}
use Rattle.tree_laws.proofs.Node.Kind.{one_some}
use Rattle.block_math.specs.Blocks.{piece_of, trimmed}
use Rattle.s3_rows.specs.Keyed.{has_key, is_past, rises}
use Rattle.s3_rows.specs.Selections.{bytes_cmp}
use Rattle.row_lemmas.proofs.Tables.{pair_cmp_total}
use Rattle.row_lemmas.proofs.Tests.{find_from_list_any, find_passes, list_any-map, list_any_from_find, pair_parts}
use Rattle.row_lemmas.proofs.Keyed.RowAt.{row_at_from_find, row_at_meets}
use Rattle.core_model.specs.Occurring.{blocks_in, is_stored}
use Rattle.byte_steps.specs.Counts.{HasBytesOf, different_blocks}
use Rattle.byte_steps.proofs.PlacedBlocks.{IsPlaced, IsPlaced-placed_blocks, Placed, blocks-placed_blocks, by_node, by_place, placed_blocks, placed_there, rises-placed_blocks}

-- ---- different blocks

abbrev alike : List ℕ → List ℕ → Bool
alike = eq_by_cmp bytes_cmp

is_member-unique_keys : (xs : List (List ℕ)) (q : List ℕ) → is_member alike (unique_keys alike xs) q ≡ is_member alike xs q
is_member-unique_keys [] q = refl
is_member-unique_keys (x ∷ xs) q = by_test (is_member alike xs x) (alike q x) refl refl (is_member-unique_keys xs q)
  where
    by_test : (b c : Bool) → is_member alike xs x ≡ b → alike q x ≡ c → is_member alike (unique_keys alike xs) q ≡ is_member alike xs q
        → is_member alike (cond b (unique_keys alike xs) (x ∷ unique_keys alike xs)) q ≡ (c || is_member alike xs q)
    by_test true true within same rest = rest ∙ ap (is_member alike xs) (same_name q x same) ∙ within
    by_test true false within same rest = rest
    by_test false c within same rest = ap (λ b. b || is_member alike (unique_keys alike xs) q) same ∙ ap (λ b. c || b) rest

apart_from_absent : (x : List ℕ) (ys : List (List ℕ)) → is_member alike ys x ≡ false → AllByRecursion (λ y. alike x y ≡ false) ys
apart_from_absent x [] none = tt
apart_from_absent x (y ∷ ys) none =
    let parts : (alike x y ≡ false) × (is_member alike ys x ≡ false) = or_parts (alike x y) (is_member alike ys x) none in
    (parts.0, apart_from_absent x ys parts.1)

IsDistinct-unique_keys : (xs : List (List ℕ)) → IsDistinct alike (unique_keys alike xs)
unfolding IsDistinct
IsDistinct-unique_keys [] = tt
IsDistinct-unique_keys (x ∷ xs) = by_test (is_member alike xs x) refl (IsDistinct-unique_keys xs)
  where
    by_test : (b : Bool) → is_member alike xs x ≡ b → IsDistinct alike (unique_keys alike xs) → IsDistinct alike (cond b (unique_keys alike xs) (x ∷ unique_keys alike xs))
    by_test true within rest = rest
    by_test false within rest = (apart_from_absent x (unique_keys alike xs) (is_member-unique_keys xs x ∙ within), rest)

-- lists of the same blocks have as many different ones
different_blocks-same : (xs ys : List (List ℕ)) → ((q : List ℕ) → is_member alike xs q ≡ is_member alike ys q) → different_blocks xs ≡ different_blocks ys
different_blocks-same xs ys same =
    length-from_keys (eq_by_cmp_equiv nat_list_cmp_total) (unique_keys alike xs) ys (IsDistinct-unique_keys xs) (λ q. is_member-unique_keys xs q ∙ same q)

both_ways : (a b : Bool) → (a ≡ true → b ≡ true) → (b ≡ true → a ≡ true) → a ≡ b
both_ways true b to from = sym (to refl)
both_ways false true to from = from refl
both_ways false false to from = refl

-- ---- nodes in order

past_all : (k low : ℕ) (nodes : List (ℕ × Node)) (next : ℕ) → Ascend low (keys_of nodes) next → k < low → IsTrue (list_all (is_past by_node k) nodes)
past_all k low [] next ascend less = refl
past_all k low (e ∷ es) next ascend less =
    and_from (is_past by_node k e) (list_all (is_past by_node k) es) (ap is_lt (sym (nat_cmp_is k e.0 Less (omega (arith, ascend.0, less)))))
    (past_all k (e.0 + 1) es next ascend.1 (omega (arith, ascend.0, less)))

rises-Ascend : (low : ℕ) (nodes : List (ℕ × Node)) (next : ℕ) → Ascend low (keys_of nodes) next → IsTrue (rises by_node nodes)
rises-Ascend low [] next ascend = refl
rises-Ascend low (e ∷ es) next ascend =
    and_from (list_all (is_past by_node e.0) es) (rises by_node es) (past_all e.0 (e.0 + 1) es next ascend.1 (omega arith)) (rises-Ascend (e.0 + 1) es next ascend.1)

rises-nodes_in_order : (t : Tree) → InOrder t → IsTrue (rises by_node t.nodes)
rises-nodes_in_order t ordered = rises-Ascend 0 t.nodes t.next_inode ordered

-- ---- trees

-- the blocks of a tree, at their places
pub member_placed : (t : Tree) (q : List ℕ) → list_any (λ (p : Placed). alike q p.1) (placed_blocks t) ≡ is_member alike (blocks_in t) q
member_placed t q = list_any-map (alike q) (λ (p : Placed). p.1) (placed_blocks t) ∙ ap (λ (bs : List (List ℕ)). is_member alike bs q) (blocks-placed_blocks t)

module _ (whole next : Tree) (ordered : InOrder whole) (after : InOrder next) (size : next.block_size ≡ whole.block_size) (from : HasBytesOf whole next) where
  -- a block of a file is one of the file that has the same bytes
  of_other : (p : Placed) → IsPlaced next p → (q : List ℕ) → alike q p.1 ≡ true → list_any (λ (o : Placed). alike q o.1) (placed_blocks whole) ≡ true
  of_other p own q same =
      let other = from p.0.0 own.bytes own.file in
      let is : p.1 ≡ trimmed (piece_of whole.block_size own.bytes p.0.1) = own.is ∙ ap (λ s. trimmed (piece_of s own.bytes p.0.1)) size in
      let stored : IsTrue (is_stored (trimmed (piece_of whole.block_size own.bytes p.0.1))) = ap is_stored (sym is) ∙ own.stored in
      let found = find_from_list_any (has_key by_place (other.0, p.0.1)) (placed_blocks whole) (placed_there whole other.0 p.0.1 own.bytes other.1 stored) in
      let key = pair_parts (other.0, p.0.1) found.0.0 (find_passes (has_key by_place (other.0, p.0.1)) (placed_blocks whole) found.0 found.1) in
      let placed : IsPlaced whole found.0 =
      row_at_meets by_place (IsPlaced whole) (other.0, p.0.1) (placed_blocks whole) found.0 (IsPlaced-placed_blocks whole (rises-nodes_in_order whole ordered)) found.1 in
      let bytes : placed.bytes ≡ own.bytes = one_some _ placed.bytes own.bytes placed.file (ap (file_at whole) (sym key.0) ∙ other.1) in
      let equal : found.0.1 ≡ p.1 =
      placed.is ∙ ap (λ (b : List ℕ). trimmed (piece_of whole.block_size b found.0.0.1)) bytes ∙ ap (λ n. trimmed (piece_of whole.block_size own.bytes n)) (sym key.1) ∙ sym is in
      list_any_from_find (has_key by_place (other.0, p.0.1)) (λ (o : Placed). alike q o.1) (placed_blocks whole) found.0 found.1 (ap (alike q) equal ∙ same)

  member_of : (q : List ℕ) → is_member alike (blocks_in next) q ≡ true → is_member alike (blocks_in whole) q ≡ true
  member_of q is =
      let test : Placed → Bool = λ p. alike q p.1 in
      let found = find_from_list_any test (placed_blocks next) (member_placed next q ∙ is) in
      let up : IsTrue (rises by_place (placed_blocks next)) = rises-placed_blocks next (rises-nodes_in_order next after) in
      let placed : IsPlaced next found.0 =
      row_at_meets by_place (IsPlaced next) found.0.0 (placed_blocks next) found.0 (IsPlaced-placed_blocks next (rises-nodes_in_order next after))
      (row_at_from_find by_place pair_cmp_total test (placed_blocks next) found.0 up found.1) in
      sym (member_placed whole q) ∙ of_other found.0 placed q (find_passes test (placed_blocks next) found.0 found.1)

pub different_blocks-same_bytes : (whole next : Tree) → InOrder whole → InOrder next → next.block_size ≡ whole.block_size → HasBytesOf whole next → HasBytesOf next whole
    → different_blocks (blocks_in next) ≡ different_blocks (blocks_in whole)
different_blocks-same_bytes whole next ordered after size from back =
    different_blocks-same (blocks_in next) (blocks_in whole)
    (λ q. both_ways (is_member alike (blocks_in next) q) (is_member alike (blocks_in whole) q) (member_of whole next ordered after size from q) (member_of next whole after ordered (sym size) back q))
