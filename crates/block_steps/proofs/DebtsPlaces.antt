-- Places that name another block or none: what is paid by them, and what is owed then.
use Rattle.std.proofs.Common.{◌≡◌, ℕ, ◌+◌, List, ◌∷◌, false, true, cond, Option, None, Some, refl, sym, ap, ◌∙◌, subst, arith}
use Rattle.std.specs.Prelude.{IsTrue, ◌&&◌, ◌==◌, is_some, nat_le}
use Rattle.std.specs.List.{list_all}
use Rattle.std.specs.Ordering.{is_eq}
use Rattle.std.proofs.lemmas.Bool.{and_from, and_parts}
use Rattle.std.proofs.lemmas.List.Sums.{sum_by-cons}
use Rattle.s3_rows.specs.Rows.{InodeBlock, Block, Parameters}
use Rattle.s3_rows.specs.Keyed.{put, rises, without}
use Rattle.s3_rows.specs.Tables.{Tables, by_block, by_spot}
use Rattle.s3_rows.specs.Batches.{tables_after}
use Rattle.s3_rows.specs.Selections.{block_at, inode_block_at}
use Rattle.s3_rows.specs.Counts.{listed_block_count}
use Rattle.s3_rows.specs.Validity.{finds_of_inode_block, has_inode, is_in_file, is_regular}
use Rattle.row_lemmas.proofs.Tables.{pair_cmp_total}
use Rattle.row_lemmas.proofs.Tests.{list_all_weaker}
use Rattle.row_lemmas.proofs.Keyed.Count.{count_by-put_new, count_by-put_there, count_by-without_there}
use Rattle.row_lemmas.proofs.Keyed.Put.{list_all-put, rises-put}
use Rattle.row_lemmas.proofs.Keyed.Rises.{rises-without}
use Rattle.row_lemmas.proofs.Keyed.RowAt.{row_at_key, row_at_passes}
use Rattle.row_lemmas.proofs.Keyed.Without.{list_all-without}
use Rattle.ref_counts.specs.Links.{link_replaced, lowered_block, relinked}
use Rattle.block_steps.specs.Owed.{OwesPlaces, owes_places, times}
use Rattle.block_steps.proofs.DebtsLists.{times-cons}
use Rattle.block_steps.proofs.DebtsTables.{OwesPlaces-rows}
use Rattle.block_steps.proofs.DebtsBlocks.{OwesPlaces-lowered, one_number}

module _ (t : Tables) (p : Parameters) (owed : List ℕ) (o : OwesPlaces t p owed) where
  -- other places, with what is owed for them
  OwesPlaces-places : (places : List InodeBlock) (now : List ℕ) → IsTrue (rises by_spot places)
      → ((id : ℕ) → listed_block_count (record t { inode_blocks = places }) id + times id now ≡ listed_block_count t id + times id owed)
      → IsTrue (list_all (λ id. is_some (block_at t id)) now) → IsTrue (list_all (finds_of_inode_block t) places)
      → IsTrue (list_all (λ r. is_in_file t p r.inode r.blockno) places) → OwesPlaces (record t { inode_blocks = places }) p now
  OwesPlaces-places places now rise same there finds inside =
      OwesPlaces-rows t p owed o t.params p.next_block places t.blocks t.objects now (record {
        made = o.made;
        rising_places = rise;
        rising_blocks = o.ordered.blocks;
        rising_objects = o.ordered.objects;
        counts =
            list_all_weaker (owes_places t owed) (owes_places (record t { inode_blocks = places }) now)
            (λ r own. ap (λ n. r.refcount == n && nat_le 1 r.refcount) (same r.id) ∙ own) t.blocks o.counts;
        objects = o.objects;
        there = there;
        found_blocks = finds;
        found_objects = o.rows.objects;
        distinct = record { digests = o.distinct.digests; objects = o.distinct.objects; sizes = o.distinct.sizes; within = o.distinct.within };
        inside = inside;
        free_blocks = o.free.blocks;
        free_objects = o.free.objects;
      })

  -- the block of a place is there
  named_there : (inode blockno : ℕ) (old : InodeBlock) → inode_block_at t inode blockno ≡ Some old → IsTrue (is_some (block_at t old.block))
  named_there inode blockno old has =
      (and_parts (has_inode is_regular t old.inode) (is_some (block_at t old.block))
      (row_at_passes by_spot (finds_of_inode_block t) (inode, blockno) t.inode_blocks old o.rows.inode_blocks has)).1

  -- a place that goes leaves its block to be counted down
  OwesPlaces-without_place : (inode blockno : ℕ) (old : InodeBlock) → inode_block_at t inode blockno ≡ Some old
      → OwesPlaces (record t { inode_blocks = without by_spot (inode, blockno) t.inode_blocks }) p (old.block ∷ owed)
  OwesPlaces-without_place inode blockno old has =
      OwesPlaces-places places (old.block ∷ owed) (rises-without by_spot (inode, blockno) t.inode_blocks o.ordered.inode_blocks) same
      (and_from (is_some (block_at t old.block)) (list_all (λ id. is_some (block_at t id)) owed) (named_there inode blockno old has) o.there)
      (list_all-without by_spot (finds_of_inode_block t) (inode, blockno) t.inode_blocks o.rows.inode_blocks)
      (list_all-without by_spot (λ (r : InodeBlock). is_in_file t p r.inode r.blockno) (inode, blockno) t.inode_blocks o.sizes.inode_blocks)
    where
      places : List InodeBlock
      places = without by_spot (inode, blockno) t.inode_blocks

      same : (id : ℕ) → listed_block_count (record t { inode_blocks = without by_spot (inode, blockno) t.inode_blocks }) id + times id (old.block ∷ owed)
          ≡ listed_block_count t id + times id owed
      same id =
          omega (
            arith,
            count_by-without_there by_spot pair_cmp_total (λ (r : InodeBlock). r.block == id) (inode, blockno) old t.inode_blocks o.ordered.inode_blocks has,
            times-cons id old.block owed,
          )

-- ---- a place that is put

module _ (t : Tables) (p : Parameters) (r : InodeBlock) (owed : List ℕ) (o : OwesPlaces t p (r.block ∷ owed))
    (regular : IsTrue (has_inode is_regular t r.inode)) (within : IsTrue (is_in_file t p r.inode r.blockno)) where
  abbrev places_put : List InodeBlock
  places_put = put by_spot r t.inode_blocks

  there_parts : IsTrue (is_some (block_at t r.block)) × IsTrue (list_all (λ id. is_some (block_at t id)) owed)
  there_parts = and_parts (is_some (block_at t r.block)) (list_all (λ id. is_some (block_at t id)) owed) o.there

  finds_after : IsTrue (list_all (finds_of_inode_block t) places_put)
  finds_after =
      list_all-put by_spot (finds_of_inode_block t) r t.inode_blocks
      (and_from (has_inode is_regular t r.inode) (is_some (block_at t r.block)) regular there_parts.0) o.rows.inode_blocks

  inside_after : IsTrue (list_all (λ x. is_in_file t p x.inode x.blockno) places_put)
  inside_after = list_all-put by_spot (λ (x : InodeBlock). is_in_file t p x.inode x.blockno) r t.inode_blocks within o.sizes.inode_blocks

  -- a new place is what was owed
  OwesPlaces-put_new : inode_block_at t r.inode r.blockno ≡ None → OwesPlaces (record t { inode_blocks = places_put }) p owed
  OwesPlaces-put_new none =
      OwesPlaces-places t p (r.block ∷ owed) o places_put owed (rises-put by_spot pair_cmp_total r t.inode_blocks o.ordered.inode_blocks) same there_parts.1
      finds_after inside_after
    where
      same : (id : ℕ) → listed_block_count (record t { inode_blocks = places_put }) id + times id owed ≡ listed_block_count t id + times id (r.block ∷ owed)
      same id =
          let one : InodeBlock → ℕ = λ x. cond (x.block == id) 1 0 in
          omega (
            arith,
            count_by-put_new by_spot (λ (x : InodeBlock). x.block == id) r t.inode_blocks (ap is_some none),
            sum_by-cons one r t.inode_blocks,
            times-cons id r.block owed,
          )

  -- and so is one in place of another, whose block is to be counted down
  OwesPlaces-put_there : (old : InodeBlock) → inode_block_at t r.inode r.blockno ≡ Some old → OwesPlaces (record t { inode_blocks = places_put }) p (old.block ∷ owed)
  OwesPlaces-put_there old has =
      OwesPlaces-places t p (r.block ∷ owed) o places_put (old.block ∷ owed) (rises-put by_spot pair_cmp_total r t.inode_blocks o.ordered.inode_blocks) same
      (and_from (is_some (block_at t old.block)) (list_all (λ id. is_some (block_at t id)) owed)
      (named_there t p (r.block ∷ owed) o r.inode r.blockno old has) there_parts.1)
      finds_after inside_after
    where
      same : (id : ℕ) → listed_block_count (record t { inode_blocks = places_put }) id + times id (old.block ∷ owed)
          ≡ listed_block_count t id + times id (r.block ∷ owed)
      same id =
          omega (
            arith,
            count_by-put_there by_spot pair_cmp_total (λ (x : InodeBlock). x.block == id) r old t.inode_blocks o.ordered.inode_blocks has,
            times-cons id r.block owed,
            times-cons id old.block owed,
          )

-- ---- a place that names another block

-- what a place named before counts one less
OwesPlaces-unnamed : (t : Tables) (p : Parameters) (places : List InodeBlock) (id : ℕ) (owed : List ℕ)
    → OwesPlaces (record t { inode_blocks = places }) p (id ∷ owed)
    → OwesPlaces (tables_after (lowered_block t (block_at t id)) (record t { inode_blocks = places })) p owed
OwesPlaces-unnamed t p places id owed o = by_block_found (block_at t id) refl
  where
    by_block_found : (found : Option Block) → block_at t id ≡ found
        → OwesPlaces (tables_after (lowered_block t found) (record t { inode_blocks = places })) p owed
    by_block_found None has =
        let clash : false ≡ true = sym (ap is_some has) ∙ (and_parts (is_some (block_at t id)) (list_all (λ x. is_some (block_at t x)) owed) o.there).0 in
        absurd (cc clash)
    by_block_found (Some b) has =
        let same : id ≡ b.id = one_number id b.id (ap is_eq (row_at_key by_block id t.blocks b has)) in
        OwesPlaces-lowered (record t { inode_blocks = places }) p b owed
        (subst (λ x. OwesPlaces (record t { inode_blocks = places }) p (x ∷ owed)) same o)
        (ap (block_at t) (sym same) ∙ has)

pub OwesPlaces-relinked : (t : Tables) (p : Parameters) (inode blockno block : ℕ) (owed : List ℕ) → OwesPlaces t p (block ∷ owed)
    → IsTrue (has_inode is_regular t inode) → IsTrue (is_in_file t p inode blockno) → OwesPlaces (tables_after (relinked t inode blockno (Some block)) t) p owed
OwesPlaces-relinked t p inode blockno block owed o regular within = by_place (inode_block_at t inode blockno) refl
  where
    by_place : (found : Option InodeBlock) → inode_block_at t inode blockno ≡ found
        → OwesPlaces (tables_after (link_replaced t inode blockno (Some block) found) t) p owed
    by_place None has = OwesPlaces-put_new t p (record { inode = inode; blockno = blockno; block = block }) owed o regular within has
    by_place (Some old) has =
        let r : InodeBlock = record { inode = inode; blockno = blockno; block = block } in
        OwesPlaces-unnamed t p (put by_spot r t.inode_blocks) old.block owed
        (OwesPlaces-put_there t p r owed o regular within old has)

pub OwesPlaces-dropped : (t : Tables) (p : Parameters) (inode blockno : ℕ) (owed : List ℕ) → OwesPlaces t p owed
    → OwesPlaces (tables_after (relinked t inode blockno None) t) p owed
OwesPlaces-dropped t p inode blockno owed o = by_place (inode_block_at t inode blockno) refl
  where
    by_place : (found : Option InodeBlock) → inode_block_at t inode blockno ≡ found
        → OwesPlaces (tables_after (link_replaced t inode blockno None found) t) p owed
    by_place None has = o
    by_place (Some old) has =
        OwesPlaces-unnamed t p (without by_spot (inode, blockno) t.inode_blocks) old.block owed
        (OwesPlaces-without_place t p owed o inode blockno old has)
