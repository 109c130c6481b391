-- As many places and blocks as the tree has, where all places are exact.
use Rattle.std.proofs.Common.{◌≡◌, ◌≤◌, ℕ, suc, List, [], ◌∷◌, map, length, Bool, true, false, cond, Option, None, Some, refl, sym, ap, ◌∙◌, arith, leb-true, eqb-true}
use Rattle.std.specs.Prelude.{IsTrue, Contains, ◌==◌, ◌&&◌, ◌||◌, nat_le, find, is_some, option_and_then, option_map}
use Rattle.std.specs.List.{list_all, list_any}
use Rattle.std.specs.Cmp.{nat_cmp_total}
use Rattle.std.specs.Ordering.{eq_by_cmp, is_eq, nat_cmp}
use Rattle.std.specs.Set.{distinct_count, is_member, unique_keys}
use Rattle.std.proofs.lemmas.Bool.{and_parts}
use Rattle.std.proofs.lemmas.Cmp.{nat_list_cmp_total}
use Rattle.std.proofs.lemmas.List.{length-map}
use Rattle.std.proofs.lemmas.List.Folds.{list_all-map}
use Rattle.s3_base.specs.declared.node_kind.Kind.{Kind}
use Rattle.s3_base.specs.declared.node_kind.Kind.TheVariants as kinds
use Rattle.plain_tree.specs.Tree as tree
use Rattle.plain_tree.specs.Tree.{Node, Tree, node_at}
use Rattle.plain_tree.specs.Files.{bytes_of, file_at}
use Rattle.tree_laws.proofs.Node.Keys.{own_name, same_name}
use Rattle.block_math.specs.Blocks.{piece_of, trimmed}
use Rattle.s3_rows.specs.Rows.{Block, Inode, InodeBlock}
use Rattle.s3_rows.specs.Keyed.{Order, has_key, is_past, pair_cmp, rises, row_at}
use Rattle.s3_rows.specs.Tables.{Tables, by_block, by_inode, by_spot}
use Rattle.s3_rows.specs.Selections.{block_at, bytes_cmp, inode_at, inode_block_at}
use Rattle.s3_rows.specs.Counts.{listed_block_count}
use Rattle.s3_rows.specs.Validity.{IsValid, counts_block, finds_of_inode_block, has_inode, have_one_digest, is_regular}
use Rattle.row_lemmas.proofs.Tables.{pair_cmp_total}
use Rattle.row_lemmas.proofs.Tests.{find_from_list_any, find_passes, list_any-find, list_any_from_find, pair_parts}
use Rattle.row_lemmas.proofs.Keyed.Rises.{rises-map}
use Rattle.row_lemmas.proofs.Keyed.RowAt.{row_at_from_find, row_at_meets, row_at_passes}
use Rattle.tree_rows.specs.Shapes.{ContentShape, Regular, NodeShape, Represents, TreeShape, node_of_row, shape_of_content, shape_of_node}
use Rattle.tree_rows.specs.Spots.{form_at, form_of_row}
use Rattle.tree_rows.proofs.Shaped.{found_alike}
use Rattle.tree_rows.proofs.Whole.{content_of_kind}
use Rattle.core_model.specs.Bytes.{no_overlay}
use Rattle.core_model.specs.Exact.{IsExact, form_of_stored}
use Rattle.core_model.specs.Occurring.{IsCollisionFree, blocks_in, is_stored}
use Rattle.core_model.proofs.Elements.{Contains-first, Contains-later}
use Rattle.byte_steps.specs.Counts.{different_blocks}
use Rattle.byte_steps.proofs.CountedObjects.{list_any-counted}
use Rattle.byte_steps.proofs.DistinctRows.{AreAmong, IsDistinct-differ, IsDistinct-rises, length-distinct_count, length-same_keys}
use Rattle.byte_steps.proofs.PlacedBlocks.{IsPlaced, IsPlaced-placed_blocks, Placed, blocks-placed_blocks, by_node, by_place, placed_blocks, placed_there, rises-placed_blocks}

-- ---- nodes and files

abbrev by_shape : Order ℕ (ℕ × NodeShape)
by_shape = record { compare = nat_cmp; key = λ e. e.0 }

-- the nodes of a tree rise where the rows that represent them do
pub rises-nodes : (t : Tables) (whole : Tree) → Represents t whole → IsTrue (rises by_inode t.inodes) → IsTrue (rises by_node whole.nodes)
rises-nodes t whole same up =
    sym (back whole.nodes) ∙ ap (λ (s : TreeShape). rises by_shape s.nodes) (sym same) ∙ rises-map by_inode by_shape (λ (r : Inode). (r.id, node_of_row t r)) (λ x y. refl) t.inodes up
  where
    back : (nodes : List (ℕ × Node)) → rises by_shape (map (λ (e : ℕ × Node). (e.0, shape_of_node e.1)) nodes) ≡ rises by_node nodes
    back [] = refl
    back (e ∷ es) =
        ap (λ b. b && rises by_shape (map (λ (f : ℕ × Node). (f.0, shape_of_node f.1)) es)) (list_all-map (is_past by_shape e.0) (λ (f : ℕ × Node). (f.0, shape_of_node f.1)) es)
        ∙ ap (λ b. list_all (is_past by_node e.0) es && b) (back es)

file_of_content : (content : tree.Content) (size : ℕ) → shape_of_content content ≡ Regular size → (bytes : List ℕ) × (bytes_of content ≡ Some bytes)
file_of_content (tree.Regular bytes) size is = (bytes, refl)
file_of_content (tree.Directory entries) size is = absurd (cc is)
file_of_content (tree.Link target) size is = absurd (cc is)

file_of_shape : (found : Option Node) (size : ℕ) → option_map (λ (s : NodeShape). s.content) (option_map shape_of_node found) ≡ Some (Regular size)
    → (bytes : List ℕ) × (option_and_then (λ (node : Node). bytes_of node.content) found ≡ Some bytes)
file_of_shape None size is = absurd (cc is)
file_of_shape (Some node) size is = file_of_content node.content size (cc is)

-- the row of a regular file is a file of the tree
file_of_row : (t : Tables) (whole : Tree) → Represents t whole → (x : ℕ) → IsTrue (has_inode is_regular t x) → (bytes : List ℕ) × (file_at whole x ≡ Some bytes)
file_of_row t whole same x regular = by_row (inode_at t x) refl regular
  where
    by_kind : (r : Inode) (kind : Kind) → IsTrue (is_regular kind) → content_of_kind t r kind ≡ Regular r.size
    by_kind r kinds.Directory is = absurd (cc is)
    by_kind r kinds.Regular is = refl
    by_kind r kinds.Link is = absurd (cc is)

    by_row : (found : Option Inode) → inode_at t x ≡ found → IsTrue (elim found [ Some r ↦ is_regular r.kind | None ↦ false ]) → (bytes : List ℕ) × (file_at whole x ≡ Some bytes)
    by_row None there has = absurd (cc has)
    by_row (Some r) there has =
        file_of_shape (node_at whole x) r.size
        (ap (option_map (λ (s : NodeShape). s.content)) (found_alike t whole same x ∙ ap (option_map (node_of_row t)) there) ∙ ap (λ (c : ContentShape). Some c) (by_kind r r.kind has))

-- ---- forms

form_stored : (digest_of : List ℕ → List ℕ) (b : List ℕ) → IsTrue (is_stored b) → form_of_stored digest_of b ≡ Some (digest_of b, length b)
form_stored digest_of [] stored = absurd (cc stored)
form_stored digest_of (x ∷ xs) stored = refl

stored_form : (digest_of : List ℕ → List ℕ) (b : List ℕ) (form : List ℕ × ℕ) → form_of_stored digest_of b ≡ Some form → IsTrue (is_stored b)
stored_form digest_of [] form is = absurd (cc is)
stored_form digest_of (x ∷ xs) form is = refl

-- the link and the block of a form
pub record HasForm (t : Tables) (x n : ℕ) (form : List ℕ × ℕ) : Type 0 where
  pub link : InodeBlock
  pub block : Block
  pub place : inode_block_at t x n ≡ Some link
  pub row : block_at t link.block ≡ Some block
  pub is : form_of_row block ≡ form

pub form_parts : (t : Tables) (x n : ℕ) (form : List ℕ × ℕ) → form_at t x n ≡ Some form → HasForm t x n form
form_parts t x n form is = by_link (inode_block_at t x n) refl is
  where
    of_block : (l : InodeBlock) (found : Option Block) → inode_block_at t x n ≡ Some l → block_at t l.block ≡ found → option_map form_of_row found ≡ Some form → HasForm t x n form
    of_block l None place row own = absurd (cc own)
    of_block l (Some b) place row own = record { link = l; block = b; place = place; row = row; is = cc own }

    by_link : (found : Option InodeBlock) → inode_block_at t x n ≡ found → option_and_then (λ (l : InodeBlock). option_map form_of_row (block_at t l.block)) found ≡ Some form → HasForm t x n form
    by_link None place own = absurd (cc own)
    by_link (Some l) place own = of_block l (block_at t l.block) place refl own

-- ---- places and blocks

module _ (digest_of : List ℕ → List ℕ) (t : Tables) (whole : Tree) (valid : IsValid t) (same : Represents t whole) (exact : IsExact digest_of t no_overlay whole) where
  pub up : IsTrue (rises by_place (placed_blocks whole))
  up = rises-placed_blocks whole (rises-nodes t whole same valid.ordered.inodes)

  -- a block of the tree is found by its place, with its form
  pub placed_form : (p : Placed) → row_at by_place p.0 (placed_blocks whole) ≡ Some p → form_at t p.0.0 p.0.1 ≡ Some (digest_of p.1, length p.1)
  placed_form p there =
      let own : IsPlaced whole p =
      row_at_meets by_place (IsPlaced whole) p.0 (placed_blocks whole) p (IsPlaced-placed_blocks whole (rises-nodes t whole same valid.ordered.inodes)) there in
      exact p.0.0 p.0.1 refl own.bytes own.file ∙ ap (form_of_stored digest_of) (sym own.is) ∙ form_stored digest_of p.1 own.stored

  -- what any test finds of them is found by its place
  pub found_placed : (test : Placed → Bool) (p : Placed) → find test (placed_blocks whole) ≡ Some p → row_at by_place p.0 (placed_blocks whole) ≡ Some p
  found_placed test p there = row_at_from_find by_place pair_cmp_total test (placed_blocks whole) p up there

  -- a place with a form has a block of the tree, with its digest
  pub record IsOfTree (x n : ℕ) (form : List ℕ × ℕ) : Type 0 where
    pub block : Placed
    pub found : row_at by_place (x, n) (placed_blocks whole) ≡ Some block
    pub digest : digest_of block.1 ≡ form.0

  pub of_tree : (x n : ℕ) (form : List ℕ × ℕ) → IsTrue (has_inode is_regular t x) → form_at t x n ≡ Some form → IsOfTree x n form
  of_tree x n form regular is =
      let file : (bytes : List ℕ) × (file_at whole x ≡ Some bytes) = file_of_row t whole same x regular in
      let stored : IsTrue (is_stored (trimmed (piece_of whole.block_size file.0 n))) =
      stored_form digest_of (trimmed (piece_of whole.block_size file.0 n)) form (sym (exact x n refl file.0 file.1) ∙ is) in
      let found = find_from_list_any (has_key by_place (x, n)) (placed_blocks whole) (placed_there whole x n file.0 file.1 stored) in
      let place = pair_parts (x, n) found.0.0 (find_passes (has_key by_place (x, n)) (placed_blocks whole) found.0 found.1) in
      let own : form_at t found.0.0.0 found.0.0.1 ≡ Some (digest_of found.0.1, length found.0.1) =
      placed_form found.0 (found_placed (has_key by_place (x, n)) found.0 found.1) in
      let one : Some (digest_of found.0.1, length found.0.1) ≡ Some form = sym own ∙ ap (λ y. form_at t y found.0.0.1) (sym place.0) ∙ ap (λ k. form_at t x k) (sym place.1) ∙ is in
      let both : (digest_of found.0.1, length found.0.1) ≡ form = cc one in
      record { block = found.0; found = found.1; digest = ap (λ (f : List ℕ × ℕ). f.0) both }

  -- a link names a block, and lies in a regular file
  pub link_finds : (x n : ℕ) (l : InodeBlock) → inode_block_at t x n ≡ Some l → (x ≡ l.inode) × (n ≡ l.blockno) × IsTrue (has_inode is_regular t x) × IsTrue (is_some (block_at t l.block))
  link_finds x n l there =
      let own = pair_parts (x, n) (l.inode, l.blockno) (find_passes (has_key by_spot (x, n)) t.inode_blocks l there) in
      let finds : IsTrue (finds_of_inode_block t l) = row_at_passes by_spot (finds_of_inode_block t) (x, n) t.inode_blocks l valid.rows.inode_blocks there in
      let parts = and_parts (has_inode is_regular t l.inode) (is_some (block_at t l.block)) finds in
      (own.0, own.1, ap (λ y. has_inode is_regular t y) own.0 ∙ parts.0, parts.1)

  pub link_form : (x n : ℕ) (l : InodeBlock) (b : Block) → inode_block_at t x n ≡ Some l → block_at t l.block ≡ Some b → form_at t x n ≡ Some (form_of_row b)
  link_form x n l b place row = ap (option_and_then (λ (k : InodeBlock). option_map form_of_row (block_at t k.block))) place ∙ ap (option_map form_of_row) row

  -- ---- places

  links_among : AreAmong pair_cmp pair_cmp_total (λ (l : InodeBlock). (l.inode, l.blockno)) (λ (p : Placed). p.0) t.inode_blocks (placed_blocks whole)
  links_among q any =
      let found = find_from_list_any (has_key by_spot q) t.inode_blocks any in
      let finds = link_finds q.0 q.1 found.0 found.1 in
      by_block_row found.0 found.1 finds.2 (block_at t found.0.block) refl finds.3
    where
      by_block_row : (l : InodeBlock) → inode_block_at t q.0 q.1 ≡ Some l → IsTrue (has_inode is_regular t q.0) → (b : Option Block) → block_at t l.block ≡ b → IsTrue (is_some b)
          → IsTrue (list_any (λ (p : Placed). is_eq (pair_cmp q p.0)) (placed_blocks whole))
      by_block_row l place regular None row has = absurd (cc has)
      by_block_row l place regular (Some b) row has =
          let own : IsOfTree q.0 q.1 (form_of_row b) = of_tree q.0 q.1 (form_of_row b) regular (link_form q.0 q.1 l b place row) in
          list_any-find (has_key by_place q) (placed_blocks whole) ∙ ap is_some own.found

  placed_among : AreAmong pair_cmp pair_cmp_total (λ (p : Placed). p.0) (λ (l : InodeBlock). (l.inode, l.blockno)) (placed_blocks whole) t.inode_blocks
  placed_among q any =
      let found = find_from_list_any (has_key by_place q) (placed_blocks whole) any in
      let place = pair_parts q found.0.0 (find_passes (has_key by_place q) (placed_blocks whole) found.0 found.1) in
      let form : HasForm t found.0.0.0 found.0.0.1 (digest_of found.0.1, length found.0.1) =
      form_parts t found.0.0.0 found.0.0.1 (digest_of found.0.1, length found.0.1) (placed_form found.0 (found_placed (has_key by_place q) found.0 found.1)) in
      list_any-find (has_key by_spot q) t.inode_blocks
      ∙ ap is_some (ap (λ x. inode_block_at t x q.1) place.0 ∙ ap (λ n. inode_block_at t found.0.0.0 n) place.1 ∙ form.place)

  pub length-links : length t.inode_blocks ≡ length (blocks_in whole)
  length-links =
      length-same_keys pair_cmp pair_cmp_total (λ (l : InodeBlock). (l.inode, l.blockno)) (λ (p : Placed). p.0) t.inode_blocks (placed_blocks whole) links_among placed_among
      (IsDistinct-rises by_spot t.inode_blocks valid.ordered.inode_blocks) (IsDistinct-rises by_place (placed_blocks whole) up)
      ∙ sym (length-map (placed_blocks whole) (λ (p : Placed). p.1)) ∙ ap (λ (bs : List (List ℕ)). length bs) (blocks-placed_blocks whole)

  -- ---- blocks

  -- a block row has a place
  pub block_place : (b : Block) → block_at t b.id ≡ Some b → (l : InodeBlock) × (inode_block_at t l.inode l.blockno ≡ Some l) × (l.block ≡ b.id)
  block_place b there =
      let counts = and_parts (b.refcount == listed_block_count t b.id) (nat_le 1 b.refcount) (row_at_passes by_block (counts_block t) b.id t.blocks b valid.counts.blocks there) in
      let counted : b.refcount ≡ listed_block_count t b.id = eqb-true b.refcount (listed_block_count t b.id) counts.0 in
      let least : 1 ≤ b.refcount = leb-true 1 b.refcount counts.1 in
      let found = find_from_list_any (λ (l : InodeBlock). l.block == b.id) t.inode_blocks
      (list_any-counted (λ (l : InodeBlock). l.block == b.id) t.inode_blocks (λ none. omega (arith, none, counted, least))) in (
        found.0,
        row_at_from_find by_spot pair_cmp_total (λ (l : InodeBlock). l.block == b.id) t.inode_blocks found.0 valid.ordered.inode_blocks found.1,
        eqb-true found.0.block b.id (find_passes (λ (l : InodeBlock). l.block == b.id) t.inode_blocks found.0 found.1),
      )

  -- and its digest is that of a block of the tree
  digest_there : (q : List ℕ) (b : Block) → block_at t b.id ≡ Some b → IsTrue (is_eq (bytes_cmp q b.digest.0))
      → IsTrue (list_any (λ (p : Placed). is_eq (bytes_cmp q (digest_of p.1))) (placed_blocks whole))
  digest_there q b row passes =
      let place = block_place b row in
      of_place place.0 place.1 (link_finds place.0.inode place.0.blockno place.0 place.1).2 (ap (block_at t) place.2 ∙ row)
    where
      of_place : (l : InodeBlock) → inode_block_at t l.inode l.blockno ≡ Some l → IsTrue (has_inode is_regular t l.inode) → block_at t l.block ≡ Some b
          → IsTrue (list_any (λ (p : Placed). is_eq (bytes_cmp q (digest_of p.1))) (placed_blocks whole))
      of_place l place regular own =
          let of_it : IsOfTree l.inode l.blockno (form_of_row b) = of_tree l.inode l.blockno (form_of_row b) regular (link_form l.inode l.blockno l b place own) in
          list_any_from_find (has_key by_place (l.inode, l.blockno)) (λ (p : Placed). is_eq (bytes_cmp q (digest_of p.1))) (placed_blocks whole) of_it.block of_it.found
          (ap (λ (d : List ℕ). is_eq (bytes_cmp q d)) of_it.digest ∙ passes)

  blocks_among : AreAmong bytes_cmp nat_list_cmp_total (λ (b : Block). b.digest.0) (λ (p : Placed). digest_of p.1) t.blocks (placed_blocks whole)
  blocks_among q any =
      let test : Block → Bool = λ b. is_eq (bytes_cmp q b.digest.0) in
      let found = find_from_list_any test t.blocks any in
      digest_there q found.0 (row_at_from_find by_block nat_cmp_total test t.blocks found.0 valid.ordered.blocks found.1) (find_passes test t.blocks found.0 found.1)

  digests_among : AreAmong bytes_cmp nat_list_cmp_total (λ (p : Placed). digest_of p.1) (λ (b : Block). b.digest.0) (placed_blocks whole) t.blocks
  digests_among q any =
      let test : Placed → Bool = λ p. is_eq (bytes_cmp q (digest_of p.1)) in
      let found = find_from_list_any test (placed_blocks whole) any in
      let form : HasForm t found.0.0.0 found.0.0.1 (digest_of found.0.1, length found.0.1) =
      form_parts t found.0.0.0 found.0.0.1 (digest_of found.0.1, length found.0.1) (placed_form found.0 (found_placed test found.0 found.1)) in
      list_any_from_find (has_key by_block form.link.block) (λ (b : Block). is_eq (bytes_cmp q b.digest.0)) t.blocks form.block form.row
      (ap (λ (f : List ℕ × ℕ). is_eq (bytes_cmp q f.0)) form.is ∙ find_passes test (placed_blocks whole) found.0 found.1)

  -- as many as there are different digests of blocks of the tree
  length-digests : length t.blocks ≡ distinct_count (eq_by_cmp bytes_cmp) (map digest_of (blocks_in whole))
  length-digests =
      length-distinct_count bytes_cmp nat_list_cmp_total (λ (b : Block). b.digest.0) (λ (p : Placed). digest_of p.1) t.blocks (placed_blocks whole) blocks_among digests_among
      (IsDistinct-differ (eq_by_cmp bytes_cmp) have_one_digest (λ (b : Block). b.digest.0) (λ a b. refl) t.blocks valid.blocks.digests)
      ∙ ap (λ (ds : List (List ℕ)). distinct_count (eq_by_cmp bytes_cmp) ds) (digests (placed_blocks whole) ∙ ap (map digest_of) (blocks-placed_blocks whole))
    where
      digests : (ps : List Placed) → map (λ (p : Placed). digest_of p.1) ps ≡ map digest_of (map (λ (p : Placed). p.1) ps)
      digests [] = refl
      digests (p ∷ ps) = ap (λ (ds : List (List ℕ)). digest_of p.1 ∷ ds) (digests ps)

-- ---- digests that do not collide

module _ (digest_of : List ℕ → List ℕ) where
  same_test : (b c : List ℕ) → (digest_of b ≡ digest_of c → b ≡ c) → is_eq (bytes_cmp (digest_of b) (digest_of c)) ≡ is_eq (bytes_cmp b c)
  same_test b c free = by_test (is_eq (bytes_cmp (digest_of b) (digest_of c))) (is_eq (bytes_cmp b c)) refl refl
    where
      by_test : (x y : Bool) → is_eq (bytes_cmp (digest_of b) (digest_of c)) ≡ x → is_eq (bytes_cmp b c) ≡ y → x ≡ y
      by_test true true one two = refl
      by_test false false one two = refl
      by_test true false one two =
          let equal : b ≡ c = free (same_name (digest_of b) (digest_of c) one) in
          let clash : true ≡ false = sym (own_name b) ∙ ap (λ (z : List ℕ). is_eq (bytes_cmp b z)) equal ∙ two in
          absurd (cc clash)
      by_test false true one two =
          let equal : b ≡ c = same_name b c two in
          let clash : true ≡ false = sym (own_name (digest_of b)) ∙ ap (λ (z : List ℕ). is_eq (bytes_cmp (digest_of b) (digest_of z))) equal ∙ one in
          absurd (cc clash)

  same_member : (b : List ℕ) (cs : List (List ℕ)) → ((c : List ℕ) → Contains cs c → digest_of b ≡ digest_of c → b ≡ c)
      → is_member (eq_by_cmp bytes_cmp) (map digest_of cs) (digest_of b) ≡ is_member (eq_by_cmp bytes_cmp) cs b
  same_member b [] free = refl
  same_member b (c ∷ cs) free =
      ap (λ x. x || is_member (eq_by_cmp bytes_cmp) (map digest_of cs) (digest_of b)) (same_test b c (free c (Contains-first c cs)))
      ∙ ap (λ x. is_eq (bytes_cmp b c) || x) (same_member b cs (λ d there. free d (Contains-later c cs d there)))

  -- different blocks have different digests
  distinct_count-digests : (bs : List (List ℕ)) → IsCollisionFree digest_of bs → distinct_count (eq_by_cmp bytes_cmp) (map digest_of bs) ≡ distinct_count (eq_by_cmp bytes_cmp) bs
  distinct_count-digests [] free = refl
  distinct_count-digests (b ∷ bs) free =
      ap (λ m. length (cond m (unique_keys (eq_by_cmp bytes_cmp) (map digest_of bs)) (digest_of b ∷ unique_keys (eq_by_cmp bytes_cmp) (map digest_of bs))))
      (same_member b bs (λ c there. free b c (Contains-first b bs) (Contains-later b bs c there)))
      ∙ by_test (is_member (eq_by_cmp bytes_cmp) bs b) (distinct_count-digests bs (λ x y one two. free x y (Contains-later b bs x one) (Contains-later b bs y two)))
    where
      by_test : (m : Bool) → distinct_count (eq_by_cmp bytes_cmp) (map digest_of bs) ≡ distinct_count (eq_by_cmp bytes_cmp) bs
          → length (cond m (unique_keys (eq_by_cmp bytes_cmp) (map digest_of bs)) (digest_of b ∷ unique_keys (eq_by_cmp bytes_cmp) (map digest_of bs)))
          ≡ length (cond m (unique_keys (eq_by_cmp bytes_cmp) bs) (b ∷ unique_keys (eq_by_cmp bytes_cmp) bs))
      by_test true rest = rest
      by_test false rest = ap (λ n. suc n) rest

pub length-blocks : (digest_of : List ℕ → List ℕ) (t : Tables) (whole : Tree) → IsValid t → Represents t whole → IsExact digest_of t no_overlay whole
    → IsCollisionFree digest_of (blocks_in whole) → length t.blocks ≡ different_blocks (blocks_in whole)
length-blocks digest_of t whole valid same exact free = length-digests digest_of t whole valid same exact ∙ distinct_count-digests digest_of (blocks_in whole) free
