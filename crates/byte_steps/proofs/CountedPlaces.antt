-- A block counts the places where the tree has it.
use Rattle.std.proofs.Common.{◌≡◌, ℕ, List, [], ◌∷◌, map, length, Bool, true, false, cond, Option, None, Some, refl, sym, ap, ◌∙◌, subst, eqb-true, eq-eqb}
use Rattle.std.specs.Prelude.{IsTrue, Contains, ◌==◌, ◌&&◌, not, nat_le, count_by, filter, find, is_some}
use Rattle.std.specs.List.{list_any}
use Rattle.std.specs.Ordering.{is_eq, nat_cmp}
use Rattle.std.proofs.lemmas.Bool.{and_from, and_parts}
use Rattle.std.proofs.lemmas.List.Sums.{length-filter}
use Rattle.plain_tree.specs.Tree.{Tree}
use Rattle.tree_laws.proofs.Node.Keys.{own_name, same_name}
use Rattle.s3_rows.specs.Rows.{Block, InodeBlock}
use Rattle.s3_rows.specs.Keyed.{has_key, pair_cmp, row_at}
use Rattle.s3_rows.specs.Tables.{Tables, by_block, by_spot}
use Rattle.s3_rows.specs.Selections.{block_at, bytes_cmp, inode_block_at}
use Rattle.s3_rows.specs.Counts.{listed_block_count}
use Rattle.s3_rows.specs.Validity.{IsValid, counts_block, differ, have_one_digest}
use Rattle.row_lemmas.proofs.Sums.{sum_by-map}
use Rattle.row_lemmas.proofs.Tables.{pair_cmp_total}
use Rattle.row_lemmas.proofs.Tests.{false_from_not, find_passes, is_eq-nat_cmp, list_any-find, list_any_from_find, pair_parts}
use Rattle.row_lemmas.proofs.Keyed.Filter.{if_passes, row_at-filter}
use Rattle.row_lemmas.proofs.Keyed.Rises.{rises-filter}
use Rattle.row_lemmas.proofs.Keyed.RowAt.{row_at_passes}
use Rattle.tree_rows.specs.Shapes.{Represents}
use Rattle.tree_rows.specs.Spots.{form_of_row}
use Rattle.core_model.specs.Bytes.{no_overlay}
use Rattle.core_model.specs.Exact.{IsExact}
use Rattle.core_model.specs.Occurring.{IsCollisionFree, blocks_in}
use Rattle.core_model.proofs.Elements.{Contains-first, Contains-later}
use Rattle.ref_counts.specs.Links.{places_from}
use Rattle.byte_steps.specs.Counts.{blocks_at, equal_blocks}
use Rattle.byte_steps.proofs.CountedBlocks.{HasForm, IsOfTree, block_place, form_parts, found_placed, link_finds, link_form, of_tree, placed_form, rises-nodes, up}
use Rattle.byte_steps.proofs.DistinctRows.{AreAmong, IsDistinct-rises, length-same_keys}
use Rattle.byte_steps.proofs.FileCounts.{placed_at, places_at}
use Rattle.byte_steps.proofs.PlacedBlocks.{Placed, blocks-placed_blocks, by_place, placed_blocks}

-- what is found of a list is in what is made of each of its elements
Contains_from_find : {A B : Type 0} (f : A → B) (p : A → Bool) (xs : List A) (x : A) → find p xs ≡ Some x → Contains (map f xs) (f x)
Contains_from_find f p [] x is = absurd (cc is)
Contains_from_find {A} {B} f p (y ∷ ys) x is = by_test (p y) (Contains_from_find f p ys x) is
  where
    by_test : (b : Bool) → (find p ys ≡ Some x → Contains (map f ys) (f x)) → cond b (Some y) (find p ys) ≡ Some x → Contains (f y ∷ map f ys) (f x)
    by_test true later here =
        let same : y ≡ x = cc here in
        let P : A → Type 0 = λ z. Contains (f y ∷ map f ys) (f z) in
        subst P same (Contains-first (f y) (map f ys))
    by_test false later there = Contains-later (f y) (map f ys) (f x) (later there)

-- of rows of which no two have one digest, two with one digest are one
one_of_digest : (bs : List Block) (a b : Block) (p q : Block → Bool) → IsTrue (differ have_one_digest bs) → find p bs ≡ Some a → find q bs ≡ Some b
    → a.digest.0 ≡ b.digest.0 → a ≡ b
one_of_digest [] a b p q unlike one two same = absurd (cc one)
one_of_digest (x ∷ xs) a b p q unlike one two same =
    by_tests (λ here there. one_of_digest xs a b p q (and_parts (not (list_any (have_one_digest x) xs)) (differ have_one_digest xs) unlike).1 here there same)
    (p x) (q x) refl refl one two
  where
    parts : IsTrue (not (list_any (have_one_digest x) xs)) × IsTrue (differ have_one_digest xs)
    parts = and_parts (not (list_any (have_one_digest x) xs)) (differ have_one_digest xs) unlike

    -- a later row has another digest than the first
    later : (y : Block) (r : Block → Bool) → find r xs ≡ Some y → x.digest.0 ≡ y.digest.0 → ⊥
    later y r there equal =
        let alike : IsTrue (have_one_digest x y) = ap (λ (d : List ℕ). is_eq (bytes_cmp x.digest.0 d)) (sym equal) ∙ own_name x.digest.0 in
        let clash : false ≡ true = sym (false_from_not (list_any (have_one_digest x) xs) parts.0) ∙ list_any_from_find r (have_one_digest x) xs y there alike in
        cc clash

    by_tests : (find p xs ≡ Some a → find q xs ≡ Some b → a ≡ b) → (c d : Bool) → p x ≡ c → q x ≡ d → cond c (Some x) (find p xs) ≡ Some a → cond d (Some x) (find q xs) ≡ Some b → a ≡ b
    by_tests others true true first second here there = let left : x ≡ a = cc here in let right : x ≡ b = cc there in sym left ∙ right
    by_tests others true false first second here there =
        let left : x ≡ a = cc here in
        absurd (later b q there (ap (λ (y : Block). y.digest.0) left ∙ same))
    by_tests others false true first second here there =
        let right : x ≡ b = cc there in
        absurd (later a p here (ap (λ (y : Block). y.digest.0) right ∙ sym same))
    by_tests others false false first second here there = others here there

module _ (digest_of : List ℕ → List ℕ) (t : Tables) (whole : Tree) (valid : IsValid t) (same : Represents t whole) (exact : IsExact digest_of t no_overlay whole)
    (free : IsCollisionFree digest_of (blocks_in whole)) (r : Block) (there : block_at t r.id ≡ Some r) where
  -- a place that has the block, and the block of the tree that lies there
  place : (l : InodeBlock) × (inode_block_at t l.inode l.blockno ≡ Some l) × (l.block ≡ r.id)
  place = block_place digest_of t whole valid same exact r there

  finds : (x n : ℕ) (l : InodeBlock) → inode_block_at t x n ≡ Some l → l.block ≡ r.id → IsOfTree digest_of t whole valid same exact x n (form_of_row r)
  finds x n l at is =
      let parts = link_finds digest_of t whole valid same exact x n l at in
      of_tree digest_of t whole valid same exact x n (form_of_row r) parts.2 (link_form digest_of t whole valid same exact x n l r at (ap (block_at t) is ∙ there))

  one : IsOfTree digest_of t whole valid same exact place.0.inode place.0.blockno (form_of_row r)
  one = finds place.0.inode place.0.blockno place.0 place.1 place.2

  abbrev block : List ℕ
  block = one.block.1

  -- a block of the tree that is found by a place
  placed_in_tree : (p : Placed) (q : Placed → Bool) → find q (placed_blocks whole) ≡ Some p → Contains (blocks_in whole) p.1
  placed_in_tree p q is = subst (λ (bs : List (List ℕ)). Contains bs p.1) (blocks-placed_blocks whole) (Contains_from_find (λ (x : Placed). x.1) q (placed_blocks whole) p is)

  in_tree : Contains (blocks_in whole) block
  in_tree = placed_in_tree one.block (has_key by_place (place.0.inode, place.0.blockno)) one.found

  -- ---- the places that have it, of the tables and of the tree, in files that pass a test

  module _ (good : ℕ → Bool) where
    abbrev names_it : InodeBlock → Bool
    names_it l = good l.inode && l.block == r.id

    abbrev lies_there : Placed → Bool
    lies_there p = good p.0.0 && is_eq (bytes_cmp block p.1)

    at_links : (q : ℕ × ℕ) → list_any (λ (l : InodeBlock). is_eq (pair_cmp q (l.inode, l.blockno))) (filter names_it t.inode_blocks) ≡ is_some (if_passes names_it (row_at by_spot q t.inode_blocks))
    at_links q = list_any-find (has_key by_spot q) (filter names_it t.inode_blocks) ∙ ap is_some (row_at-filter by_spot pair_cmp_total names_it q t.inode_blocks valid.ordered.inode_blocks)

    at_places : (q : ℕ × ℕ) → list_any (λ (p : Placed). is_eq (pair_cmp q p.0)) (filter lies_there (placed_blocks whole)) ≡ is_some (if_passes lies_there (row_at by_place q (placed_blocks whole)))
    at_places q =
        list_any-find (has_key by_place q) (filter lies_there (placed_blocks whole))
        ∙ ap is_some (row_at-filter by_place pair_cmp_total lies_there q (placed_blocks whole) (up digest_of t whole valid same exact))

    if_there : {R : Type 0} (p : R → Bool) (found : Option R) → IsTrue (is_some (if_passes p found)) → (x : R) × (found ≡ Some x) × IsTrue (p x)
    if_there p None is = absurd (cc is)
    if_there {R} p (Some x) is = by_test (p x) refl is
      where
        by_test : (b : Bool) → p x ≡ b → is_some (cond b (Some x) None) ≡ true → (y : R) × (Some x ≡ Some y) × IsTrue (p y)
        by_test true passes some = (x, refl, passes)
        by_test false passes some = absurd (cc some)

    there_if : {R : Type 0} (p : R → Bool) (found : Option R) (x : R) → found ≡ Some x → IsTrue (p x) → IsTrue (is_some (if_passes p found))
    there_if p found x is passes = ap (λ y. is_some (if_passes p y)) is ∙ ap (λ b. is_some (cond b (Some x) None)) passes

    links_among : AreAmong pair_cmp pair_cmp_total (λ (l : InodeBlock). (l.inode, l.blockno)) (λ (p : Placed). p.0) (filter names_it t.inode_blocks) (filter lies_there (placed_blocks whole))
    links_among q any =
        let found = if_there names_it (row_at by_spot q t.inode_blocks) (sym (at_links q) ∙ any) in
        let passes = and_parts (good found.0.inode) (found.0.block == r.id) found.2 in
        let of_it = finds q.0 q.1 found.0 found.1 (eqb-true found.0.block r.id passes.1) in
        let equal : block ≡ of_it.block.1 =
        free block of_it.block.1 in_tree (placed_in_tree of_it.block (has_key by_place q) of_it.found) (one.digest ∙ sym of_it.digest) in
        let link = pair_parts q (found.0.inode, found.0.blockno) (find_passes (has_key by_spot q) t.inode_blocks found.0 found.1) in
        let own = pair_parts q of_it.block.0 (find_passes (has_key by_place q) (placed_blocks whole) of_it.block of_it.found) in
        at_places q
        ∙ there_if lies_there (row_at by_place q (placed_blocks whole)) of_it.block of_it.found
        (and_from (good of_it.block.0.0) (is_eq (bytes_cmp block of_it.block.1)) (ap good (sym own.0 ∙ link.0) ∙ passes.0)
        (ap (λ (b : List ℕ). is_eq (bytes_cmp block b)) (sym equal) ∙ own_name block))

    places_among : AreAmong pair_cmp pair_cmp_total (λ (p : Placed). p.0) (λ (l : InodeBlock). (l.inode, l.blockno)) (filter lies_there (placed_blocks whole)) (filter names_it t.inode_blocks)
    places_among q any =
        let found = if_there lies_there (row_at by_place q (placed_blocks whole)) (sym (at_places q) ∙ any) in
        let passes = and_parts (good found.0.0.0) (is_eq (bytes_cmp block found.0.1)) found.2 in
        let own = pair_parts q found.0.0 (find_passes (has_key by_place q) (placed_blocks whole) found.0 found.1) in
        let equal : block ≡ found.0.1 = same_name block found.0.1 passes.1 in
        let form : HasForm t found.0.0.0 found.0.0.1 (digest_of found.0.1, length found.0.1) =
        form_parts t found.0.0.0 found.0.0.1 (digest_of found.0.1, length found.0.1)
        (placed_form digest_of t whole valid same exact found.0 (found_placed digest_of t whole valid same exact (has_key by_place q) found.0 found.1)) in
        let digest : form.block.digest.0 ≡ r.digest.0 = ap (λ (f : List ℕ × ℕ). f.0) form.is ∙ ap digest_of (sym equal) ∙ one.digest in
        let row : form.block ≡ r =
        one_of_digest t.blocks form.block r (has_key by_block form.link.block) (has_key by_block r.id) valid.blocks.digests form.row there digest in
        let number : form.link.block ≡ form.block.id =
        same_number form.link.block form.block.id (find_passes (has_key by_block form.link.block) t.blocks form.block form.row) in
        let link = pair_parts (found.0.0.0, found.0.0.1) (form.link.inode, form.link.blockno) (find_passes (has_key by_spot (found.0.0.0, found.0.0.1)) t.inode_blocks form.link form.place) in
        at_links q
        ∙ there_if names_it (row_at by_spot q t.inode_blocks) form.link
        (ap (λ x. inode_block_at t x q.1) own.0 ∙ ap (λ n. inode_block_at t found.0.0.0 n) own.1 ∙ form.place)
        (and_from (good form.link.inode) (form.link.block == r.id) (ap good (sym link.0) ∙ passes.0) (eq-eqb form.link.block r.id (number ∙ ap (λ (b : Block). b.id) row)))
      where
        same_number : (x y : ℕ) → IsTrue (is_eq (nat_cmp x y)) → x ≡ y
        same_number x y is = eqb-true x y (sym (is_eq-nat_cmp x y) ∙ is)

    counted_in : count_by names_it t.inode_blocks ≡ count_by lies_there (placed_blocks whole)
    counted_in =
        sym (length-filter names_it t.inode_blocks)
        ∙ length-same_keys pair_cmp pair_cmp_total (λ (l : InodeBlock). (l.inode, l.blockno)) (λ (p : Placed). p.0) (filter names_it t.inode_blocks) (filter lies_there (placed_blocks whole)) links_among places_among
        (IsDistinct-rises by_spot (filter names_it t.inode_blocks) (rises-filter by_spot names_it t.inode_blocks valid.ordered.inode_blocks))
        (IsDistinct-rises by_place (filter lies_there (placed_blocks whole)) (rises-filter by_place lies_there (placed_blocks whole) (up digest_of t whole valid same exact)))
        ∙ length-filter lies_there (placed_blocks whole)

  counted : r.refcount ≡ equal_blocks block (blocks_in whole)
  counted =
      let count : r.refcount ≡ listed_block_count t r.id =
      eqb-true r.refcount (listed_block_count t r.id)
      (and_parts (r.refcount == listed_block_count t r.id) (nat_le 1 r.refcount) (row_at_passes by_block (counts_block t) r.id t.blocks r valid.counts.blocks there)).0 in
      count ∙ counted_in (λ x. true)
      ∙ sym (sum_by-map (λ (b : List ℕ). cond (is_eq (bytes_cmp block b)) 1 0) (λ (p : Placed). p.1) (placed_blocks whole))
      ∙ ap (λ (bs : List (List ℕ)). equal_blocks block bs) (blocks-placed_blocks whole)

  -- the same in each file, of any block that has the digest
  counted_at : (b : List ℕ) → Contains (blocks_in whole) b → digest_of b ≡ r.digest.0 → (x : ℕ) → count_by (λ l. l.block == r.id) (places_from t x 0) ≡ equal_blocks b (blocks_at whole x)
  counted_at b occurs digest x =
      let equal : block ≡ b = free block b in_tree occurs (one.digest ∙ sym digest) in
      places_at x r.id t.inode_blocks ∙ counted_in (λ y. y == x) ∙ placed_at x block whole (rises-nodes t whole same valid.ordered.inodes)
      ∙ ap (λ (c : List ℕ). equal_blocks c (blocks_at whole x)) equal

pub places_counted : (digest_of : List ℕ → List ℕ) (t : Tables) (whole : Tree) → IsValid t → Represents t whole → IsExact digest_of t no_overlay whole
    → IsCollisionFree digest_of (blocks_in whole) → (r : Block) → block_at t r.id ≡ Some r
    → (b : List ℕ) × Contains (blocks_in whole) b × (digest_of b ≡ r.digest.0) × (r.refcount ≡ equal_blocks b (blocks_in whole))
places_counted digest_of t whole valid same exact free r there = (
  block digest_of t whole valid same exact free r there,
  in_tree digest_of t whole valid same exact free r there,
  (one digest_of t whole valid same exact free r there).digest,
  counted digest_of t whole valid same exact free r there,
)

pub places_counted_at : (digest_of : List ℕ → List ℕ) (t : Tables) (whole : Tree) → IsValid t → Represents t whole → IsExact digest_of t no_overlay whole
    → IsCollisionFree digest_of (blocks_in whole) → (r : Block) (b : List ℕ) (inode : ℕ) → block_at t r.id ≡ Some r → Contains (blocks_in whole) b → digest_of b ≡ r.digest.0
    → count_by (λ l. l.block == r.id) (places_from t inode 0) ≡ equal_blocks b (blocks_at whole inode)
places_counted_at digest_of t whole valid same exact free r b inode there occurs digest = counted_at digest_of t whole valid same exact free r there b occurs digest inode
