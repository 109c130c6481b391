-- How many places of one file name a block, and how many of its blocks are equal to one.
use Rattle.std.proofs.Common.{◌≡◌, ℕ, zero, suc, ◌+◌, ◌-◌, ◌/◌, List, [], ◌∷◌, length, Bool, true, false, cond, Option, None, Some, refl, sym, ap, ◌∙◌, arith, eq-eqb, eqb-true, le-leb}
use Rattle.std.specs.Prelude.{IsTrue, ◌==◌, ◌&&◌, count_by, filter, nat_le}
use Rattle.std.specs.BTreeMap.{is_at}
use Rattle.std.specs.List.{flat_map, list_all}
use Rattle.std.specs.Map.{lookup}
use Rattle.std.specs.Ordering.{is_eq, nat_cmp}
use Rattle.std.proofs.lemmas.Bool.{and_parts}
use Rattle.std.proofs.lemmas.List.Sums.{sum_by-append, sum_by-cons}
use Rattle.plain_tree.specs.Tree.{Content, Regular, Directory, Link, Node, Tree}
use Rattle.block_math.specs.Blocks.{forms_from, piece_of, trimmed}
use Rattle.s3_rows.specs.Rows.{InodeBlock}
use Rattle.s3_rows.specs.Keyed.{is_past, rises}
use Rattle.s3_rows.specs.Selections.{bytes_cmp}
use Rattle.row_lemmas.proofs.Tests.{eqb_comm, is_eq-nat_cmp, less_from_is_lt}
use Rattle.row_lemmas.proofs.Keyed.Rises.{rises_head, rises_tail}
use Rattle.ref_counts.specs.Links.{is_place_from}
use Rattle.core_model.specs.Occurring.{blocks_of_content, is_stored}
use Rattle.byte_steps.specs.Counts.{blocks_at, equal_blocks}
use Rattle.byte_steps.proofs.PlacedBlocks.{Placed, by_node, placed_blocks, placed_from, placed_in}

-- ---- the places of a file

pub places_at : (x id : ℕ) (rows : List InodeBlock) → count_by (λ l. l.block == id) (filter (is_place_from x 0) rows) ≡ count_by (λ l. l.inode == x && l.block == id) rows
places_at x id [] = refl
places_at x id (r ∷ rows) = by_case (places_at x id rows) (r.inode == x) (nat_le 0 r.blockno) (le-leb 0 r.blockno (omega arith)) ∙ sym (sum_by-cons both r rows)
  where
    one : InodeBlock → ℕ
    one l = cond (l.block == id) 1 0

    both : InodeBlock → ℕ
    both l = cond (l.inode == x && l.block == id) 1 0

    by_case : count_by (λ l. l.block == id) (filter (is_place_from x 0) rows) ≡ count_by (λ l. l.inode == x && l.block == id) rows → (a b : Bool) → b ≡ true
        → count_by (λ l. l.block == id) (cond (a && b) (r ∷ filter (is_place_from x 0) rows) (filter (is_place_from x 0) rows))
        ≡ cond (a && r.block == id) 1 0 + count_by (λ l. l.inode == x && l.block == id) rows
    by_case rest true true is = omega (arith, sum_by-cons (λ (l : InodeBlock). cond (l.block == id) 1 0) r (filter (is_place_from x 0) rows), rest)
    by_case rest true false is = absurd (cc is)
    by_case rest false b is = omega (arith, rest)

-- ---- the blocks of a file

module _ (x : ℕ) (block : List ℕ) where
  abbrev alike : List ℕ → Bool
  alike b = is_eq (bytes_cmp block b)

  abbrev test : Placed → Bool
  test p = p.0.0 == x && alike p.1

  abbrev counted : Placed → ℕ
  counted p = cond (test p) 1 0

  abbrev equal_one : List ℕ → ℕ
  equal_one b = cond (alike b) 1 0

  module _ (size : ℕ) where
    from_own : (y count n : ℕ) (bytes : List ℕ) → (y == x) ≡ true → count_by test (placed_from size y bytes count n) ≡ equal_blocks block (filter is_stored (forms_from size bytes count n))
    from_own y zero n bytes own = refl
    from_own y (suc count) n bytes own = by_test (from_own y count (n + 1) bytes own) (is_stored (trimmed (piece_of size bytes n)))
      where
        by_test : count_by test (placed_from size y bytes count (n + 1)) ≡ equal_blocks block (filter is_stored (forms_from size bytes count (n + 1))) → (stored : Bool)
            → count_by test (cond stored (((y, n), trimmed (piece_of size bytes n)) ∷ placed_from size y bytes count (n + 1)) (placed_from size y bytes count (n + 1)))
            ≡ equal_blocks block (cond stored (trimmed (piece_of size bytes n) ∷ filter is_stored (forms_from size bytes count (n + 1))) (filter is_stored (forms_from size bytes count (n + 1))))
        by_test rest true =
            let head : counted ((y, n), trimmed (piece_of size bytes n)) ≡ equal_one (trimmed (piece_of size bytes n)) =
            ap (λ b. cond (b && alike (trimmed (piece_of size bytes n))) 1 0) own in
            omega (
              arith,
              sum_by-cons counted ((y, n), trimmed (piece_of size bytes n)) (placed_from size y bytes count (n + 1)),
              sum_by-cons equal_one (trimmed (piece_of size bytes n)) (filter is_stored (forms_from size bytes count (n + 1))),
              head,
              rest,
            )
        by_test rest false = rest

    from_other : (y count n : ℕ) (bytes : List ℕ) → (y == x) ≡ false → count_by test (placed_from size y bytes count n) ≡ 0
    from_other y zero n bytes other = refl
    from_other y (suc count) n bytes other = by_test (from_other y count (n + 1) bytes other) (is_stored (trimmed (piece_of size bytes n)))
      where
        by_test : count_by test (placed_from size y bytes count (n + 1)) ≡ 0 → (stored : Bool)
            → count_by test (cond stored (((y, n), trimmed (piece_of size bytes n)) ∷ placed_from size y bytes count (n + 1)) (placed_from size y bytes count (n + 1))) ≡ 0
        by_test rest true =
            let head : counted ((y, n), trimmed (piece_of size bytes n)) ≡ 0 = ap (λ b. cond (b && alike (trimmed (piece_of size bytes n))) 1 0) other in
            omega (arith, sum_by-cons counted ((y, n), trimmed (piece_of size bytes n)) (placed_from size y bytes count (n + 1)), head, rest)
        by_test rest false = rest

    content_own : (y : ℕ) (content : Content) → (y == x) ≡ true → count_by test (placed_in size y content) ≡ equal_blocks block (blocks_of_content size content)
    content_own y (Regular bytes) own = from_own y ((length bytes + size - 1) / size) 0 bytes own
    content_own y (Directory entries) own = refl
    content_own y (Link target) own = refl

    content_other : (y : ℕ) (content : Content) → (y == x) ≡ false → count_by test (placed_in size y content) ≡ 0
    content_other y (Regular bytes) other = from_other y ((length bytes + size - 1) / size) 0 bytes other
    content_other y (Directory entries) other = refl
    content_other y (Link target) other = refl

    abbrev all_in : List (ℕ × Node) → List Placed
    all_in nodes = flat_map (λ (e : ℕ × Node). placed_in size e.0 e.1.content) nodes

    all_other : (nodes : List (ℕ × Node)) → IsTrue (list_all (is_past by_node x) nodes) → count_by test (all_in nodes) ≡ 0
    all_other [] past = refl
    all_other (e ∷ es) past =
        let parts = and_parts (is_past by_node x e) (list_all (is_past by_node x) es) past in
        let apart : (e.0 == x) ≡ false = eqb_comm e.0 x ∙ sym (is_eq-nat_cmp x e.0) ∙ ap is_eq (less_from_is_lt (nat_cmp x e.0) parts.0) in
        omega (arith, sum_by-append counted (placed_in size e.0 e.1.content) (all_in es), content_other e.0 e.1.content apart, all_other es parts.1)

    abbrev of_found : Option Node → List (List ℕ)
    of_found found = elim found [ Some node ↦ blocks_of_content size node.content | None ↦ [] ]

    all_at : (nodes : List (ℕ × Node)) → IsTrue (rises by_node nodes) → count_by test (all_in nodes) ≡ equal_blocks block (of_found (lookup (is_at (nat_cmp x)) nodes))
    all_at [] up = refl
    all_at (e ∷ es) up = by_test (all_at es (rises_tail by_node e es up)) (is_at (nat_cmp x) e.0) refl
      where
        by_test : count_by test (all_in es) ≡ equal_blocks block (of_found (lookup (is_at (nat_cmp x)) es)) → (b : Bool) → is_at (nat_cmp x) e.0 ≡ b
            → count_by test (all_in (e ∷ es)) ≡ equal_blocks block (of_found (cond b (Some e.1) (lookup (is_at (nat_cmp x)) es)))
        by_test rest true here =
            let number : x ≡ e.0 = eqb-true x e.0 (sym (is_eq-nat_cmp x e.0) ∙ here) in
            let later : IsTrue (list_all (is_past by_node x) es) = ap (λ k. list_all (is_past by_node k) es) number ∙ rises_head by_node e es up in
            omega (
              arith,
              sum_by-append counted (placed_in size e.0 e.1.content) (all_in es),
              content_own e.0 e.1.content (eq-eqb e.0 x (sym number)),
              all_other es later,
            )
        by_test rest false apart =
            omega (
              arith,
              sum_by-append counted (placed_in size e.0 e.1.content) (all_in es),
              content_other e.0 e.1.content (eqb_comm e.0 x ∙ sym (is_eq-nat_cmp x e.0) ∙ apart),
              rest,
            )

  pub placed_at : (whole : Tree) → IsTrue (rises by_node whole.nodes) → count_by test (placed_blocks whole) ≡ equal_blocks block (blocks_at whole x)
  placed_at whole up = all_at whole.block_size whole.nodes up
