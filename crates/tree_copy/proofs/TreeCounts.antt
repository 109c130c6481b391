-- How often a tree with a copy has a block, and that a copy whose places do not fit would have one too often.
use Rattle.std.proofs.Common.{◌≡◌, ℕ, ◌+◌, List, [], ◌∷◌, Bool, true, false, cond, Option, None, Some, refl, ap, ◌∙◌, arith}
use Rattle.std.specs.BTreeMap.{is_at}
use Rattle.std.specs.List.{flat_map}
use Rattle.std.specs.Map.{lookup, set_value}
use Rattle.std.specs.Ordering.{is_eq, nat_cmp}
use Rattle.std.specs.Prelude.{◌==◌, count_by, sum_by}
use Rattle.std.proofs.lemmas.List.Sums.{sum_by-append, sum_by-cons}
use Rattle.plain_tree.specs.Below.{at_and_below}
use Rattle.plain_tree.specs.Subtrees.{copied_content, copied_node, copies, copy_number, with_copy}
use Rattle.plain_tree.specs.Tree.{Content, Regular, Directory, Link, Node, Tree, changed_by, named, node_at, touched}
use Rattle.tree_laws.proofs.Copy.Nodes.{with_copies}
use Rattle.s3_rows.specs.Rows.{InodeBlock}
use Rattle.s3_rows.specs.Selections.{bytes_cmp}
use Rattle.s3_rows.specs.Tables.{Tables}
use Rattle.ref_counts.specs.Links.{places_from, places_of}
use Rattle.core_model.specs.Occurring.{blocks_in, blocks_of_content}
use Rattle.byte_steps.specs.Counts.{blocks_at, equal_blocks}
use Rattle.tree_copy.specs.CopiedCounts.{copied_block_count}

-- ---- the tree with a copy

module _ (t : Tree) (block : List ℕ) where
  abbrev equal_one : List ℕ → ℕ
  equal_one b = cond (is_eq (bytes_cmp block b)) 1 0

  -- how often a node has the block
  abbrev in_node : Node → ℕ
  in_node node = equal_blocks block (blocks_of_content t.block_size node.content)

  abbrev of_node : ℕ × Node → ℕ
  of_node e = in_node e.1

  in_all : (nodes : List (ℕ × Node)) → equal_blocks block (flat_map (λ (e : ℕ × Node). blocks_of_content t.block_size e.1.content) nodes) ≡ sum_by of_node nodes
  in_all [] = refl
  in_all (e ∷ es) =
      omega (
        arith,
        sum_by-append equal_one (blocks_of_content t.block_size e.1.content) (flat_map (λ (f : ℕ × Node). blocks_of_content t.block_size f.1.content) es),
        sum_by-cons of_node e es,
        in_all es,
      )

  in_set : (test : ℕ → Bool) (v w : Node) → in_node w ≡ in_node v → (es : List (ℕ × Node)) → lookup test es ≡ Some v → sum_by of_node (set_value test es w) ≡ sum_by of_node es
  in_set test v w same [] is = absurd (cc is)
  in_set test v w same (e ∷ es) is = by_test (in_set test v w same es) (test e.0) is
    where
      by_test : (lookup test es ≡ Some v → sum_by of_node (set_value test es w) ≡ sum_by of_node es) → (b : Bool) → cond b (Some e.1) (lookup test es) ≡ Some v
          → sum_by of_node (cond b ((e.0, w) ∷ es) (e ∷ set_value test es w)) ≡ sum_by of_node (e ∷ es)
      by_test rest true found =
          let one : e.1 ≡ v = cc found in
          let own : in_node e.1 ≡ in_node v = ap in_node one in
          omega (arith, sum_by-cons of_node (e.0, w) es, sum_by-cons of_node e es, own, same)
      by_test rest false found = omega (arith, sum_by-cons of_node e (set_value test es w), sum_by-cons of_node e es, rest found)

  in_named : (name : List ℕ) (inode : ℕ) (content : Content) → blocks_of_content t.block_size (named name inode content) ≡ blocks_of_content t.block_size content
  in_named name inode (Regular bytes) = refl
  in_named name inode (Directory entries) = refl
  in_named name inode (Link target) = refl

  in_copied : (next : ℕ) (order : List ℕ) (content : Content) → blocks_of_content t.block_size (copied_content next order content) ≡ blocks_of_content t.block_size content
  in_copied next order (Regular bytes) = refl
  in_copied next order (Directory entries) = refl
  in_copied next order (Link target) = refl

  -- the copies have the blocks of what they are copies of
  in_copies : (order : List ℕ) (now : ℕ) (inodes : List ℕ) → sum_by of_node (copies t order now inodes) ≡ sum_by (λ x. equal_blocks block (blocks_at t x)) inodes
  in_copies order now [] = refl
  in_copies order now (i ∷ is) = by_node (in_copies order now is) (node_at t i) refl
    where
      by_node : sum_by of_node (copies t order now is) ≡ sum_by (λ x. equal_blocks block (blocks_at t x)) is → (found : Option Node) → node_at t i ≡ found
          → sum_by of_node (elim found as (λ _. List (ℕ × Node)) [ Some node ↦ (copy_number t.next_inode order i, copied_node t.next_inode order now node) ∷ copies t order now is | None ↦ copies t order now is ])
          ≡ sum_by (λ x. equal_blocks block (blocks_at t x)) (i ∷ is)
      by_node rest (Some node) there =
          let own : equal_blocks block (blocks_at t i) ≡ in_node node =
          ap (λ (f : Option Node). equal_blocks block (elim f as (λ _. List (List ℕ)) [ Some y ↦ blocks_of_content t.block_size y.content | None ↦ [] ])) there in
          let head : of_node (copy_number t.next_inode order i, copied_node t.next_inode order now node) ≡ in_node node =
          ap (equal_blocks block) (in_copied t.next_inode order node.content) in
          omega (
            arith,
            sum_by-cons of_node (copy_number t.next_inode order i, copied_node t.next_inode order now node) (copies t order now is),
            sum_by-cons (λ (x : ℕ). equal_blocks block (blocks_at t x)) i is,
            own,
            head,
            rest,
          )
      by_node rest None there =
          let own : equal_blocks block (blocks_at t i) ≡ 0 =
          ap (λ (f : Option Node). equal_blocks block (elim f as (λ _. List (List ℕ)) [ Some y ↦ blocks_of_content t.block_size y.content | None ↦ [] ])) there in
          omega (arith, sum_by-cons (λ (x : ℕ). equal_blocks block (blocks_at t x)) i is, own, rest)

  pub equal_blocks-with_copy : (source p : ℕ) (n : List ℕ) (now : ℕ)
      → equal_blocks block (blocks_in (with_copy source p n now t)) ≡ equal_blocks block (blocks_in t) + sum_by (λ x. equal_blocks block (blocks_at t x)) (at_and_below t source)
  equal_blocks-with_copy source p n now =
      let both : sum_by of_node more.nodes ≡ sum_by of_node t.nodes + sum_by of_node (copies t (at_and_below t source) now (at_and_below t source)) =
      sum_by-append of_node t.nodes (copies t (at_and_below t source) now (at_and_below t source)) in
      omega (arith, by_node (node_at more p) refl, both, in_all t.nodes, in_copies (at_and_below t source) now (at_and_below t source))
    where
      more : Tree
      more = with_copies t (at_and_below t source) now

      entered : Node → Node
      entered node = touched now (record node { content = named n t.next_inode node.content })

      by_node : (found : Option Node) → node_at more p ≡ found → equal_blocks block (blocks_in (changed_by entered found p more)) ≡ sum_by of_node more.nodes
      by_node None is = in_all more.nodes
      by_node (Some node) is =
          in_all (set_value (is_at (nat_cmp p)) more.nodes (entered node))
          ∙ in_set (is_at (nat_cmp p)) node (entered node) (ap (equal_blocks block) (in_named n t.next_inode node.content)) more.nodes is

-- ---- the places of its files

module _ (t : Tables) (whole : Tree) (block : List ℕ) (id : ℕ) (each : (x : ℕ) → count_by (λ l. l.block == id) (places_from t x 0) ≡ equal_blocks block (blocks_at whole x)) where
  pub copied_block_count-files : (xs : List ℕ) → copied_block_count t xs id ≡ sum_by (λ x. equal_blocks block (blocks_at whole x)) xs
  copied_block_count-files [] = refl
  copied_block_count-files (x ∷ xs) =
      omega (
        arith,
        sum_by-append (λ (l : InodeBlock). cond (l.block == id) 1 0) (places_from t x 0) (places_of t xs),
        sum_by-cons (λ (y : ℕ). equal_blocks block (blocks_at whole y)) x xs,
        each x,
        copied_block_count-files xs,
      )
